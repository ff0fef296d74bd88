use Rattle.std.specs.Prelude.{Err}
use Rattle.std.proofs.Common.{ap}
use Rattle.sg_kinds.specs.Places.{place_of}
use Rattle.sg_eval.specs.Journal.{now_of}
use Rattle.sg_commands.proofs.Putting.{no_size, put_did, put_gave_up, size_did}
use Rattle.sg_commands.proofs.replacing.put_in.Goals as goal

pub returns-in-Ok-clause-did : goal.returns-in-Ok-clause-did
returns-in-Ok-clause-did c = λ clip.
    let e = c.in-Ok.ensures in
    put_did c.args.buffer.now c.replace.new.self clip (now_of c.args.journal.now) (now_of c.replace.new.journal) (place_of c.args.at.now) c.args.t.now c.args.select.now
    c.sound.ensures e.large e.state e.evaluated

pub returns-in-Err-Size-clause-did : goal.returns-in-Err-Size-clause-did
returns-in-Err-Size-clause-did c = λ clip.
    let e = c.in-Err-Size.ensures in
    let size = e.size c.in-Err-Size.field-0-0 (ap Err c.in-Err-Size.field-0-is) in
    let kept = e.refused c.in-Err-Size.field-0-0 (ap Err c.in-Err-Size.field-0-is) in
    size_did c.args.buffer.now c.replace.new.self clip (now_of c.args.journal.now) (now_of c.replace.new.journal) (place_of c.args.at.now) c.args.t.now c.args.select.now
    size.0 kept.0 kept.1

pub returns-in-Err-NoMemory-clause-gave_up : goal.returns-in-Err-NoMemory-clause-gave_up
returns-in-Err-NoMemory-clause-gave_up c = λ clip.
    let e = c.in-Err-NoMemory.ensures in
    let fault = c.in-Err-NoMemory.field-0 in
    let none = c.in-Err-NoMemory.field-0-is in
    put_gave_up c.args.buffer.now c.replace.new.self clip (now_of c.args.journal.now) (now_of c.replace.new.journal) (place_of c.args.at.now) c.args.t.now c.args.select.now
    c.sound.ensures (λ big. (let size = e.large big in no_size fault none size.0 size.1)) (e.as_before (ap Err none)).state (e.noted (ap Err none))
