use Rattle.std.specs.Prelude.{Some, IfOk, OnErr}
use Rattle.std.proofs.Common.{refl, sym, ap, subst}
use Rattle.sg_eval.specs.Journal.{now_of}
use Rattle.sg_buffer.specs.Held.{state_of}
use Rattle.sg_script.specs.declared.message.Message.TheVariants as message
use Rattle.sg_commands.specs.Did.{Did, GaveUp}
use Rattle.sg_commands.specs.Replaced.{text_turn}
use Rattle.sg_commands.specs.Turns.{allowed_turn, enterable, finds, types, wants_one}
use Rattle.sg_commands.proofs.Alike.{allowed_stays, allowed_wants}
use Rattle.sg_commands.proofs.Putting.{nothing_gained, refused_did}
use Rattle.sg_commands.proofs.turning.allowed.Goals as goal

pub returns-in-Next-clause-did : goal.returns-in-Next-clause-did
returns-in-Next-clause-did c = λ reads are.
    let b = c.args.buffer.now in
    let was = now_of c.args.journal.now in
    subst (λ x. IfOk c.go.result (λ m. Did (allowed_turn b.grove.spec b.height reads c.args.clip.now (state_of b) x) m c.go.new.buffer c.args.clip.now was was))
    (sym c.in-Next.is) (c.go.ensures.did c.args.clip.now was)

pub returns-in-Prev-clause-did : goal.returns-in-Prev-clause-did
returns-in-Prev-clause-did c = λ reads are.
    let b = c.args.buffer.now in
    let was = now_of c.args.journal.now in
    subst (λ x. IfOk c.go-in-Prev.result (λ m. Did (allowed_turn b.grove.spec b.height reads c.args.clip.now (state_of b) x) m c.go-in-Prev.new.buffer c.args.clip.now was was))
    (sym c.in-Prev.is) (c.go-in-Prev.ensures.did c.args.clip.now was)

pub returns-in-Up-clause-did : goal.returns-in-Up-clause-did
returns-in-Up-clause-did c = λ reads are.
    let b = c.args.buffer.now in
    let was = now_of c.args.journal.now in
    subst (λ x. IfOk c.go-in-Up.result (λ m. Did (allowed_turn b.grove.spec b.height reads c.args.clip.now (state_of b) x) m c.go-in-Up.new.buffer c.args.clip.now was was))
    (sym c.in-Up.is) (c.go-in-Up.ensures.did c.args.clip.now was)

pub returns-in-First-clause-did : goal.returns-in-First-clause-did
returns-in-First-clause-did c = λ reads are.
    let b = c.args.buffer.now in
    let was = now_of c.args.journal.now in
    subst (λ x. IfOk c.go-in-First.result (λ m. Did (allowed_turn b.grove.spec b.height reads c.args.clip.now (state_of b) x) m c.go-in-First.new.buffer c.args.clip.now was was))
    (sym c.in-First.is) (c.go-in-First.ensures.did c.args.clip.now was)

pub returns-in-Sibling-clause-did : goal.returns-in-Sibling-clause-did
returns-in-Sibling-clause-did c = λ reads are.
    let b = c.args.buffer.now in
    let was = now_of c.args.journal.now in
    subst (λ x. IfOk c.go-in-Sibling.result (λ m. Did (allowed_turn b.grove.spec b.height reads c.args.clip.now (state_of b) x) m c.go-in-Sibling.new.buffer c.args.clip.now was was))
    (sym c.in-Sibling.is) (c.go-in-Sibling.ensures.did c.args.clip.now was)

pub returns-in-Goto-clause-did : goal.returns-in-Goto-clause-did
returns-in-Goto-clause-did c = λ reads are.
    let b = c.args.buffer.now in
    let was = now_of c.args.journal.now in
    subst (λ x. IfOk c.pick.result (λ m. Did (allowed_turn b.grove.spec b.height reads c.args.clip.now (state_of b) x) m c.pick.new.buffer c.args.clip.now was was))
    (sym c.in-Goto.is) (c.pick.ensures.did c.args.clip.now was)

pub returns-in-View-clause-did : goal.returns-in-View-clause-did
returns-in-View-clause-did c = λ reads are.
    let b = c.args.buffer.now in
    let was = now_of c.args.journal.now in
    subst (λ x. IfOk c.view.result (λ m. Did (allowed_turn b.grove.spec b.height reads c.args.clip.now (state_of b) x) m c.view.new.buffer c.args.clip.now was was))
    (sym c.in-View.is) (c.view.ensures.did c.args.clip.now was)

pub returns-in-Extend-clause-did : goal.returns-in-Extend-clause-did
returns-in-Extend-clause-did c = λ reads are.
    let b = c.args.buffer.now in
    let was = now_of c.args.journal.now in
    subst (λ x. Did (allowed_turn b.grove.spec b.height reads c.args.clip.now (state_of b) x) c.extend.result c.extend.new.buffer c.args.clip.now was was)
    (sym c.in-Extend.is) (c.extend.ensures.did c.args.clip.now was)

pub returns-in-Shrink-clause-did : goal.returns-in-Shrink-clause-did
returns-in-Shrink-clause-did c = λ reads are.
    let b = c.args.buffer.now in
    let was = now_of c.args.journal.now in
    subst (λ x. Did (allowed_turn b.grove.spec b.height reads c.args.clip.now (state_of b) x) c.shrink.result c.shrink.new.buffer c.args.clip.now was was)
    (sym c.in-Shrink.is) (c.shrink.ensures.did c.args.clip.now was)

pub returns-in-Find-clause-did : goal.returns-in-Find-clause-did
returns-in-Find-clause-did c = λ reads are.
    let b = c.args.buffer.now in
    let was = now_of c.args.journal.now in
    let clip = c.args.clip.now in
    subst (λ x. IfOk c.find.result (λ m. Did (allowed_turn b.grove.spec b.height reads clip (state_of b) x) m c.find.new.buffer clip was was))
    (sym c.in-Find.is)
    (subst (λ s. IfOk c.find.result (λ m. Did (finds b.grove.spec b.height clip (state_of b) s) m c.find.new.buffer clip was was))
    c.as_slice.ensures (c.find.ensures.did clip was))

pub toggle-requires-clause-one : goal.toggle-requires-clause-one
toggle-requires-clause-one c = c.requires.one (ap wants_one c.in-Alternate.is)

pub begin-requires : goal.begin-requires
begin-requires c = c.requires.one (ap wants_one c.in-TypeIn.is)

pub returns-in-Delete-clause-did : goal.returns-in-Delete-clause-did
returns-in-Delete-clause-did c = λ reads are.
    let b = c.args.buffer.now in
    let was = now_of c.args.journal.now in
    subst (λ x. IfOk c.delete.result (λ m. Did (allowed_turn b.grove.spec b.height reads c.args.clip.now (state_of b) x) m c.delete.new.buffer c.args.clip.now was (now_of c.delete.new.journal)))
    (sym c.in-Delete.is) (c.delete.ensures.did c.args.clip.now)

pub returns-in-Delete-clause-gave_up : goal.returns-in-Delete-clause-gave_up
returns-in-Delete-clause-gave_up c = λ reads are.
    let b = c.args.buffer.now in
    let was = now_of c.args.journal.now in
    subst (λ x. OnErr c.delete.result (GaveUp b.grove.spec (allowed_turn b.grove.spec b.height reads c.args.clip.now (state_of b) x) b c.delete.new.buffer c.args.clip.now c.args.clip.now was (now_of c.delete.new.journal)))
    (sym c.in-Delete.is) (c.delete.ensures.gave_up c.args.clip.now)

pub returns-in-Remove-clause-did : goal.returns-in-Remove-clause-did
returns-in-Remove-clause-did c = λ reads are.
    let b = c.args.buffer.now in
    let was = now_of c.args.journal.now in
    subst (λ x. IfOk c.remove.result (λ m. Did (allowed_turn b.grove.spec b.height reads c.args.clip.now (state_of b) x) m c.remove.new.buffer c.args.clip.now was (now_of c.remove.new.journal)))
    (sym c.in-Remove.is) (c.remove.ensures.did c.args.clip.now)

pub returns-in-Remove-clause-gave_up : goal.returns-in-Remove-clause-gave_up
returns-in-Remove-clause-gave_up c = λ reads are.
    let b = c.args.buffer.now in
    let was = now_of c.args.journal.now in
    subst (λ x. OnErr c.remove.result (GaveUp b.grove.spec (allowed_turn b.grove.spec b.height reads c.args.clip.now (state_of b) x) b c.remove.new.buffer c.args.clip.now c.args.clip.now was (now_of c.remove.new.journal)))
    (sym c.in-Remove.is) (c.remove.ensures.gave_up c.args.clip.now)

pub returns-in_ok-copy-in-Copy-clause-did : goal.returns-in_ok-copy-in-Copy-clause-did
returns-in_ok-copy-in-Copy-clause-did c = λ reads are.
    let b = c.args.buffer.now in
    let was = now_of c.args.journal.now in
    subst (λ x. Did (allowed_turn b.grove.spec b.height reads c.args.clip.now (state_of b) x) message.Fine b (Some c.in_ok-copy-in-Copy.field-0) was was)
    (sym c.in-Copy.is)
    (record {
      message = refl;
      state = refl;
      copied = ap Some c.in_ok-copy-in-Copy.ensures.clip;
      evaluated = nothing_gained b.grove b.root (state_of b).term was was refl;
    })

pub returns-in-Text-clause-did : goal.returns-in-Text-clause-did
returns-in-Text-clause-did c = λ reads are.
    let b = c.args.buffer.now in
    let was = now_of c.args.journal.now in
    subst (λ x. IfOk c.text.result (λ m. Did (allowed_turn b.grove.spec b.height reads c.args.clip.now (state_of b) x) m c.text.new.buffer c.args.clip.now was (now_of c.text.new.journal)))
    (sym c.in-Text.is)
    (subst (λ s. IfOk c.text.result (λ m. Did (text_turn b c.args.clip.now reads s) m c.text.new.buffer c.args.clip.now was (now_of c.text.new.journal)))
    c.as_slice-in-Text.ensures (c.text.ensures.did c.args.clip.now reads are))

pub returns-in-Text-clause-gave_up : goal.returns-in-Text-clause-gave_up
returns-in-Text-clause-gave_up c = λ reads are.
    let b = c.args.buffer.now in
    let was = now_of c.args.journal.now in
    subst (λ x. OnErr c.text.result (GaveUp b.grove.spec (allowed_turn b.grove.spec b.height reads c.args.clip.now (state_of b) x) b c.text.new.buffer c.args.clip.now c.args.clip.now was (now_of c.text.new.journal)))
    (sym c.in-Text.is)
    (subst (λ s. OnErr c.text.result (GaveUp b.grove.spec (text_turn b c.args.clip.now reads s) b c.text.new.buffer c.args.clip.now c.args.clip.now was (now_of c.text.new.journal)))
    c.as_slice-in-Text.ensures (c.text.ensures.gave_up c.args.clip.now reads are))

pub returns-in-TypeIn-clause-did : goal.returns-in-TypeIn-clause-did
returns-in-TypeIn-clause-did c = λ reads are.
    let b = c.args.buffer.now in
    let was = now_of c.args.journal.now in
    let clip = c.args.clip.now in
    subst (λ x. IfOk c.begin.result (λ m. Did (allowed_turn b.grove.spec b.height reads clip (state_of b) x) m c.begin.new.buffer clip was was))
    (sym c.in-TypeIn.is)
    (subst (λ s. IfOk c.begin.result (λ m. Did (enterable b.grove.spec clip (state_of b) (λ entry. types clip (state_of b) s)) m c.begin.new.buffer clip was was))
    c.as_slice-in-TypeIn.ensures (c.begin.ensures.did clip was))

pub returns-in-New-clause-did : goal.returns-in-New-clause-did
returns-in-New-clause-did c = λ reads are.
    let b = c.args.buffer.now in
    let was = now_of c.args.journal.now in
    subst (λ t. Did t message.Fine b c.args.clip.now was was)
    (sym (allowed_stays b.grove.spec b.height reads c.args.clip.now (state_of b) c.args.command.now c.in-New.is)) (refused_did b b c.args.clip.now was was message.Fine refl refl)

pub returns-in-New-2-clause-did : goal.returns-in-New-2-clause-did
returns-in-New-2-clause-did c = λ reads are.
    let b = c.args.buffer.now in
    let was = now_of c.args.journal.now in
    subst (λ t. Did t message.Fine b c.args.clip.now was was)
    (sym (allowed_stays b.grove.spec b.height reads c.args.clip.now (state_of b) c.args.command.now c.in-New.is)) (refused_did b b c.args.clip.now was was message.Fine refl refl)

pub returns-in-New-3-clause-did : goal.returns-in-New-3-clause-did
returns-in-New-3-clause-did c = λ reads are.
    let b = c.args.buffer.now in
    let was = now_of c.args.journal.now in
    subst (λ t. Did t message.Fine b c.args.clip.now was was)
    (sym (allowed_stays b.grove.spec b.height reads c.args.clip.now (state_of b) c.args.command.now c.in-New.is)) (refused_did b b c.args.clip.now was was message.Fine refl refl)

pub returns-in-New-4-clause-did : goal.returns-in-New-4-clause-did
returns-in-New-4-clause-did c = λ reads are.
    let b = c.args.buffer.now in
    let was = now_of c.args.journal.now in
    subst (λ t. Did t message.Fine b c.args.clip.now was was)
    (sym (allowed_stays b.grove.spec b.height reads c.args.clip.now (state_of b) c.args.command.now c.in-New.is)) (refused_did b b c.args.clip.now was was message.Fine refl refl)

pub returns-in-New-5-clause-did : goal.returns-in-New-5-clause-did
returns-in-New-5-clause-did c = λ reads are.
    let b = c.args.buffer.now in
    let was = now_of c.args.journal.now in
    subst (λ t. Did t message.Fine b c.args.clip.now was was)
    (sym (allowed_stays b.grove.spec b.height reads c.args.clip.now (state_of b) c.args.command.now c.in-New.is)) (refused_did b b c.args.clip.now was was message.Fine refl refl)

pub returns-in-New-6-clause-did : goal.returns-in-New-6-clause-did
returns-in-New-6-clause-did c = λ reads are.
    let b = c.args.buffer.now in
    let was = now_of c.args.journal.now in
    subst (λ t. Did t message.Fine b c.args.clip.now was was)
    (sym (allowed_stays b.grove.spec b.height reads c.args.clip.now (state_of b) c.args.command.now c.in-New.is)) (refused_did b b c.args.clip.now was was message.Fine refl refl)

pub returns-in-Erase-clause-did : goal.returns-in-Erase-clause-did
returns-in-Erase-clause-did c = λ reads are.
    let b = c.args.buffer.now in
    let was = now_of c.args.journal.now in
    subst (λ t. Did t message.NotInText b c.args.clip.now was was)
    (sym (allowed_wants b.grove.spec b.height reads c.args.clip.now (state_of b) c.args.command.now c.in-Erase.is)) (refused_did b b c.args.clip.now was was message.NotInText refl refl)

pub returns-in-Erase-2-clause-did : goal.returns-in-Erase-2-clause-did
returns-in-Erase-2-clause-did c = λ reads are.
    let b = c.args.buffer.now in
    let was = now_of c.args.journal.now in
    subst (λ t. Did t message.NotInText b c.args.clip.now was was)
    (sym (allowed_wants b.grove.spec b.height reads c.args.clip.now (state_of b) c.args.command.now c.in-Erase.is)) (refused_did b b c.args.clip.now was was message.NotInText refl refl)

pub returns-in-Erase-3-clause-did : goal.returns-in-Erase-3-clause-did
returns-in-Erase-3-clause-did c = λ reads are.
    let b = c.args.buffer.now in
    let was = now_of c.args.journal.now in
    subst (λ t. Did t message.NotInText b c.args.clip.now was was)
    (sym (allowed_wants b.grove.spec b.height reads c.args.clip.now (state_of b) c.args.command.now c.in-Erase.is)) (refused_did b b c.args.clip.now was was message.NotInText refl refl)
