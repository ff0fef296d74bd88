use Rattle.std.proofs.Common.{◌+◌, Bool, subst, sym}
use Rattle.std.specs.Prelude.{if◌then◌else◌, true}
use Rattle.sg_sets.proofs.LengthenLemmas.{Lengthens, LengthenedTo, lengthened-then}
use Rattle.sg_sets.proofs.relation.Relation.lengthen_few.Goals.{then-lengthen_from, else-lengthen_from}
use Rattle.sg_sets.proofs.relation.Relation.lengthen_few.Goals as goal

pub loop-a-preserved : goal.loop-a-preserved
loop-a-preserved c =
    let e = c.lengthen_from.ensures in
    let joined : Lengthens c.loop-a.self c.lengthen_from.new.self c.lengthen_from.result = record { size = e.size; contains = e.contains; least = e.least; grows = e.grows; stays = e.stays } in
    let all = lengthened-then c.args.self.now c.loop-a.self c.lengthen_from.new.self c.loop-a.a c.loop-a.grown c.lengthen_from.result c.loop-a.invariant joined e.passed in
    let as_found : Bool → Type 0 = λ grown. LengthenedTo c.args.self.now c.lengthen_from.new.self (c.loop-a.a + 1) grown in
    elim c.if-lengthen_from.branch [
      | then-lengthen_from w ↦ subst as_found (sym w.grown-is) (subst (λ b. as_found (if b then true else c.loop-a.grown)) w.if-lengthen_from.true all)
      | else-lengthen_from w ↦ subst as_found (sym w.grown-is) (subst (λ b. as_found (if b then true else c.loop-a.grown)) w.if-lengthen_from.false all)
    ]
