use Rattle.std.specs.Prelude.{ℕ, Option, IfOk, OnErr, ⊤}
use Rattle.std.proofs.Common.{refl, sym, subst}
use Rattle.std.proofs.lemmas.Option.{MatchOption-at_some}
use Rattle.sg_kinds.specs.Fits.{Fits}
use Rattle.sg_kinds.specs.declared.spec.Spec.{Spec}
use Rattle.sg_kinds.specs.Terms.{Term}
use Rattle.sg_kinds.specs.Places.{Place}
use Rattle.sg_eval.specs.Journal.{now_of}
use Rattle.sg_script.specs.declared.message.Message.{Message}
use Rattle.sg_script.specs.declared.message.Message.TheVariants as message
use Rattle.sg_edits.specs.Edits as edits
use Rattle.sg_edits.specs.declared.clip.Clip.{Clip}
use Rattle.sg_commands.specs.Did.{Did, GaveUp}
use Rattle.sg_commands.specs.Replaced.{chosen_of, puts_in}
use Rattle.sg_commands.proofs.Putting.{refused_did}
use Rattle.sg_commands.proofs.replacing.paste.Goals as goal

pub paste_clip-requires : goal.paste_clip-requires
paste_clip-requires c = record { clip = MatchOption-at_some ⊤ (λ (x : Clip). Fits c.args.buffer.now.grove.spec x.term x.phylum) c.in-Some.copy c.in-Some.is c.requires.clip }

pub returns-in-Some-clause-did : goal.returns-in-Some-clause-did
returns-in-Some-clause-did c =
    let b = c.args.buffer.now in
    let clip = c.args.clip.now in
    subst (λ (o : Option Clip). IfOk c.paste_clip.result (λ (m : Message). Did (puts_in b clip (chosen_of b (λ (spec : Spec) (t : Term) (u : Place) (n : ℕ). edits.pasted spec t u n o))) m c.paste_clip.new.buffer clip (now_of c.args.journal.now) (now_of c.paste_clip.new.journal)))
    (sym c.in-Some.is) (c.paste_clip.ensures.did clip)

pub returns-in-Some-clause-gave_up : goal.returns-in-Some-clause-gave_up
returns-in-Some-clause-gave_up c =
    let b = c.args.buffer.now in
    let clip = c.args.clip.now in
    subst (λ (o : Option Clip). OnErr c.paste_clip.result (GaveUp b.grove.spec (puts_in b clip (chosen_of b (λ (spec : Spec) (t : Term) (u : Place) (n : ℕ). edits.pasted spec t u n o))) b c.paste_clip.new.buffer clip clip (now_of c.args.journal.now) (now_of c.paste_clip.new.journal)))
    (sym c.in-Some.is) (c.paste_clip.ensures.gave_up clip)

pub returns-in-None-clause-did : goal.returns-in-None-clause-did
returns-in-None-clause-did c =
    let b = c.args.buffer.now in
    let clip = c.args.clip.now in
    let was = now_of c.args.journal.now in
    subst (λ (o : Option Clip). Did (puts_in b clip (chosen_of b (λ (spec : Spec) (t : Term) (u : Place) (n : ℕ). edits.pasted spec t u n o))) message.ClipEmpty b clip was was)
    (sym c.in-None.is) (refused_did b b clip was was message.ClipEmpty refl refl)
