use Rattle.sg_eval.specs.Journal.{now_of}
use Rattle.sg_buffer.specs.Held.{state_of}
use Rattle.sg_input.proofs.Texts.{each-text}
use Rattle.sg_commands.specs.Did.{turn_of}
use Rattle.sg_commands.proofs.Keeping.{turn_kept}
use Rattle.sg_commands.proofs.Readers.{reads_there}
use Rattle.sg_commands.proofs.Table.{copied_fits, counted_of, fewer_of, fits_of, typing_of}
use Rattle.sg_commands.proofs.turning.turn.Goals as goal

pub returns-clause-counted : goal.returns-clause-counted
returns-clause-counted c = λ reads are none.
    let b = c.args.buffer.now in
    let kept = turn_kept b.grove.spec b.height c.args.clip.now (state_of b) c.requires.typing c.requires.clip reads
    (copied_fits b c.facts.ensures) c.args.command.now in
    counted_of (turn_of b reads c.args.clip.now c.args.command.now) b c.turned.new.buffer c.args.clip.now c.turned.new.clip
    (now_of c.args.journal.now) (now_of c.turned.new.journal) kept c.turned.ensures.spec c.turned.result
    (c.turned.ensures.did reads are) none

pub returns-clause-fewer : goal.returns-clause-fewer
returns-clause-fewer c = λ reads are none.
    let b = c.args.buffer.now in
    let kept = turn_kept b.grove.spec b.height c.args.clip.now (state_of b) c.requires.typing c.requires.clip reads
    (copied_fits b c.facts.ensures) c.args.command.now in
    fewer_of (turn_of b reads c.args.clip.now c.args.command.now) b c.turned.new.buffer c.args.clip.now c.turned.new.clip
    (now_of c.args.journal.now) (now_of c.turned.new.journal) kept c.turned.ensures.spec c.turned.result
    (c.turned.ensures.gave_up reads are) none

pub returns-clause-typing : goal.returns-clause-typing
returns-clause-typing c =
    let b = c.args.buffer.now in
    let t = c.requires.input in
    let r = reads_there b.grove.spec (λ entry within text. each-text b.grove.spec c.sound-2.ensures c.args.input.now.lexemes.now t.lexemes
    c.args.input.now.tables.now t.grammar c.sound.ensures c.decided.ensures entry within text) in
    let kept = turn_kept b.grove.spec b.height c.args.clip.now (state_of b) c.requires.typing c.requires.clip r.0
    (copied_fits b c.facts.ensures) c.args.command.now in
    typing_of (turn_of b r.0 c.args.clip.now c.args.command.now) b c.turned.new.buffer c.args.clip.now c.turned.new.clip
    (now_of c.args.journal.now) (now_of c.turned.new.journal) kept c.turned.ensures.spec c.turned.result
    (c.turned.ensures.did r.0 r.1) (c.turned.ensures.gave_up r.0 r.1) c.requires.typing

pub returns-clause-fits : goal.returns-clause-fits
returns-clause-fits c =
    let b = c.args.buffer.now in
    let t = c.requires.input in
    let r = reads_there b.grove.spec (λ entry within text. each-text b.grove.spec c.sound-2.ensures c.args.input.now.lexemes.now t.lexemes
    c.args.input.now.tables.now t.grammar c.sound.ensures c.decided.ensures entry within text) in
    let kept = turn_kept b.grove.spec b.height c.args.clip.now (state_of b) c.requires.typing c.requires.clip r.0
    (copied_fits b c.facts.ensures) c.args.command.now in
    fits_of (turn_of b r.0 c.args.clip.now c.args.command.now) b c.turned.new.buffer c.args.clip.now c.turned.new.clip
    (now_of c.args.journal.now) (now_of c.turned.new.journal) kept c.turned.ensures.spec c.turned.result
    (c.turned.ensures.did r.0 r.1) (c.turned.ensures.gave_up r.0 r.1) c.requires.clip
