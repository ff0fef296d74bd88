use Rattle.std.proofs.lemmas.Result.{err_from_is_err_and}
use Rattle.std.proofs.Common.{sym, subst}
use Rattle.sg_eval.specs.Journal.{now_of}
use Rattle.sg_changes.specs.declared.direction.Direction.{Direction}
use Rattle.sg_changes.specs.declared.direction.Direction.TheVariants.{Back, Forth}
use Rattle.sg_states.specs.States.{ahead}
use Rattle.sg_buffer.specs.Held.{state_of}
use Rattle.sg_commands.specs.Did.{Did, GaveUp}
use Rattle.sg_commands.specs.Turns.{travels}
use Rattle.sg_commands.proofs.Undoing.{travel_gave_up, travelled}
use Rattle.sg_commands.proofs.history.travel.Goals as goal

pub returns-in_err-done-in-Back-clause-gave_up : goal.returns-in_err-done-in-Back-clause-gave_up
returns-in_err-done-in-Back-clause-gave_up c = λ clip.
    let b = c.args.buffer.now in
    let e = c.in_err-done-in-Back.ensures in
    let p = err_from_is_err_and c.from_residual.result c.from_residual.ensures.1 in
    rw p.1
    (subst (λ (d : Direction). GaveUp b.grove.spec (travels b.grove.spec b.height clip (state_of b) d (ahead d (state_of b))) b c.undo.new.self clip clip (now_of c.args.journal.now) (now_of c.undo.new.journal)) (sym c.in-Back.is)
    (travel_gave_up b c.undo.new.self c.sound.ensures clip (now_of c.args.journal.now) (now_of c.undo.new.journal) Back e.as_before.state e.some e.noted))

pub returns-in_ok-done-in-Back-clause-did : goal.returns-in_ok-done-in-Back-clause-did
returns-in_ok-done-in-Back-clause-did c = λ clip.
    let b = c.args.buffer.now in
    let was = now_of c.args.journal.now in
    let now = now_of c.undo.new.journal in
    subst (λ (d : Direction). Did (travels b.grove.spec b.height clip (state_of b) d (ahead d (state_of b))) c.said.result c.undo.new.self clip was now) (sym c.in-Back.is)
    (subst (λ m. Did (travels b.grove.spec b.height clip (state_of b) Back (state_of b).past) m c.undo.new.self clip was now) (sym c.said.ensures)
    (travelled b c.undo.new.self c.sound.ensures clip was now Back c.in_ok-done-in-Back.done c.in_ok-done-in-Back.ensures.went))

pub returns-in_err-done-in-Forth-clause-gave_up : goal.returns-in_err-done-in-Forth-clause-gave_up
returns-in_err-done-in-Forth-clause-gave_up c = λ clip.
    let b = c.args.buffer.now in
    let e = c.in_err-done-in-Forth.ensures in
    let p = err_from_is_err_and c.from_residual-in_err-done-in-Forth.result c.from_residual-in_err-done-in-Forth.ensures.1 in
    rw p.1
    (subst (λ (d : Direction). GaveUp b.grove.spec (travels b.grove.spec b.height clip (state_of b) d (ahead d (state_of b))) b c.redo.new.self clip clip (now_of c.args.journal.now) (now_of c.redo.new.journal)) (sym c.in-Forth.is)
    (travel_gave_up b c.redo.new.self c.sound.ensures clip (now_of c.args.journal.now) (now_of c.redo.new.journal) Forth e.as_before.state e.some e.noted))

pub returns-in_ok-done-in-Forth-clause-did : goal.returns-in_ok-done-in-Forth-clause-did
returns-in_ok-done-in-Forth-clause-did c = λ clip.
    let b = c.args.buffer.now in
    let was = now_of c.args.journal.now in
    let now = now_of c.redo.new.journal in
    subst (λ (d : Direction). Did (travels b.grove.spec b.height clip (state_of b) d (ahead d (state_of b))) c.said-in-Forth.result c.redo.new.self clip was now) (sym c.in-Forth.is)
    (subst (λ m. Did (travels b.grove.spec b.height clip (state_of b) Forth (state_of b).future) m c.redo.new.self clip was now) (sym c.said-in-Forth.ensures)
    (travelled b c.redo.new.self c.sound.ensures clip was now Forth c.in_ok-done-in-Forth.done c.in_ok-done-in-Forth.ensures.went))
