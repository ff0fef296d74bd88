use Rattle.std.proofs.Common.{◌≡◌, inl, inr, subst, arith}
use Rattle.std.proofs.lemmas.Bool.{cases_lt}
use Rattle.sg_lalr.specs.Clashes.{Does}
use Rattle.sg_lalr.proofs.conflict.first_but.Goals as goal

pub loop-m-preserved : goal.loop-m-preserved
loop-m-preserved c k a l h d = elim (cases_lt k c.loop-m.m) [
  | inl before ↦ c.loop-m.invariant k a l before d
  | inr after ↦ c.in_default.ensures.none a (subst (λ z. Does c.args.g.now c.args.nodes.now c.args.rows.now.rows c.args.t z a) (let e : k ≡ c.loop-m.m = omega (arith, h, after) in e) d)
]
