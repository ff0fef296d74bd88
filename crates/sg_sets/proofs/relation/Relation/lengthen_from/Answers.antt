use Rattle.std.proofs.Common.{◌+◌, Bool, subst, sym}
use Rattle.std.specs.Prelude.{if◌then◌else◌, true}
use Rattle.sg_sets.specs.Members.{IsNext}
use Rattle.sg_sets.proofs.LengthenLemmas.{PassedTo, passed-then}
use Rattle.sg_sets.proofs.relation.Relation.lengthen_from.Goals.{then-take_over, else-take_over}
use Rattle.sg_sets.proofs.relation.Relation.lengthen_from.Goals as goal

pub loop-k-preserved : goal.loop-k-preserved
loop-k-preserved c =
    let next = subst (λ row. IsNext row c.loop-k.from c.in-Some.k) c.successors.ensures.row c.in-Some.ensures.least in
    let e = c.take_over.ensures in
    let passed = passed-then c.args.self.now c.loop-k.self c.take_over.new.self c.args.a c.loop-k.from c.in-Some.k c.loop-k.grown c.take_over.result c.loop-k.invariant next e.takes e.grows e.stays e.size in
    let as_found : Bool → Type 0 = λ grown. PassedTo c.args.self.now c.take_over.new.self c.args.a (c.in-Some.k + 1) grown in
    elim c.if-take_over.branch [
      | then-take_over w ↦ subst as_found (sym w.grown-is) (subst (λ b. as_found (if b then true else c.loop-k.grown)) w.if-take_over.true passed)
      | else-take_over w ↦ subst as_found (sym w.grown-is) (subst (λ b. as_found (if b then true else c.loop-k.grown)) w.if-take_over.false passed)
    ]
