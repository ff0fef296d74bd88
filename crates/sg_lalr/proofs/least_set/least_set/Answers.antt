use Rattle.std.proofs.Common.{[], ◌∷◌, zero, subst, arith}
use Rattle.std.proofs.lemmas.Bool.{OnFalse_at}
use Rattle.sg_lalr.specs.Least.{passes, nothing, IsClosed}
use Rattle.sg_lalr.proofs.LeastLemmas.{closed-has}
use Rattle.sg_lalr.proofs.least_set.least_set.Goals as goal

pub loop-init : goal.loop-init
loop-init c = record {
  width = c.loop-x.invariant.0;
  below = λ X l. (c.loop-x.invariant.1 X).1 (omega (arith, l));
  only = λ X h. let l = (c.loop-x.invariant.1 X).0 h in passes X [] (omega (arith, l)) nothing;
}

pub returns-clause-exact : goal.returns-clause-exact
returns-clause-exact c =
    let closed = subst (IsClosed c.grow.new.set) c.rules.ensures (OnFalse_at {P = IsClosed c.grow.new.set c.rules.result.now} c.loop-test.false c.grow.ensures.closed) in
    λ X. (
      (rw (c.rules.ensures) at c.grow.ensures.only) c.args.low c.loop.invariant.only X,
      λ h. closed-has c.args.g.now.rules c.args.low c.grow.new.set (λ Y l. c.grow.ensures.keeps Y (c.loop.invariant.below Y l)) closed (X ∷ []) h zero X (omega arith),
    )
