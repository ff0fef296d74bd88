use Rattle.std.specs.Prelude.{◌≡◌, [], length, not}
use Rattle.std.proofs.Common.{ap, arith, subst, sym, ◌∙◌}
use Rattle.std.proofs.lemmas.Bool.{false≢true}
use Rattle.sg_propagate.specs.Worklist.{Worklist}
use Rattle.sg_propagate.proofs.Members.{same_pair, pair_itself, pair_is, is_in}
use Rattle.sg_propagate.proofs.work.Work.is_noted.Goals as goal

pub returns-then-not-is_empty : goal.returns-then-not-is_empty
returns-then-not-is_empty c = is_in same_pair pair_itself pair_is _ _ [] (ap (λ (w : Worklist). w.changed) c.self.view_is) _ _ c.contains.ensures

pub returns-else-not-is_empty : goal.returns-else-not-is_empty
returns-else-not-is_empty c =
    let none : length c.args.self.now.changed ≡ 0 = subst (λ (w : Worklist). length w.changed ≡ 0) c.self.view_is (c.is_empty.ensures.0 c.if-not-is_empty.false) in
    (λ yes. absurd (false≢true (ap not (sym c.if-not-is_empty.false) ∙ yes)), λ has. absurd (omega (arith, none, has.1)))
