use Rattle.std.proofs.Common.{refl, sym, ◌∙◌, subst}
use Rattle.sg_script.specs.declared.message.Message.TheVariants as message
use Rattle.sg_states.specs.States.{extended}
use Rattle.sg_buffer.specs.Held.{state_of}
use Rattle.sg_commands.specs.Did.{Did}
use Rattle.sg_commands.specs.Turns.{extends}
use Rattle.sg_commands.proofs.Captures.{no_list, no_place}
use Rattle.sg_commands.proofs.Moved.{done_did}
use Rattle.sg_commands.proofs.Putting.{refused_did}
use Rattle.sg_commands.proofs.moving.extend.Goals as goal

pub returns-in-Done-clause-did : goal.returns-in-Done-clause-did
returns-in-Done-clause-did c = λ clip now.
    let b = c.args.buffer.now in
    subst (λ x. Did (extends clip (state_of b) x) message.Fine c.extend.new.self clip now now) (sym c.in-Done.is ∙ c.extend.ensures.told)
    (done_did b c.extend.new.self clip now message.Fine (extended (state_of b)) (c.extend.ensures.done c.in-Done.is))

pub returns-in-NotInList-clause-did : goal.returns-in-NotInList-clause-did
returns-in-NotInList-clause-did c = λ clip now.
    let b = c.args.buffer.now in
    subst (λ x. Did (extends clip (state_of b) x) message.NotInList c.extend.new.self clip now now) (sym c.in-NotInList.is ∙ c.extend.ensures.told)
    (refused_did b c.extend.new.self clip now now message.NotInList (c.extend.ensures.refused (no_list c.extend.result c.in-NotInList.is)) refl)

pub returns-in-NoPlace-clause-did : goal.returns-in-NoPlace-clause-did
returns-in-NoPlace-clause-did c = λ clip now.
    let b = c.args.buffer.now in
    subst (λ x. Did (extends clip (state_of b) x) message.NoPlace c.extend.new.self clip now now) (sym c.in-NoPlace.is ∙ c.extend.ensures.told)
    (refused_did b c.extend.new.self clip now now message.NoPlace (c.extend.ensures.refused (no_place c.extend.result c.in-NoPlace.is)) refl)
