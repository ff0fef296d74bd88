use Rattle.std.proofs.Common.{subst, arith}
use Rattle.std.proofs.lemmas.Bool.{OnTrue_at, OnFalse_at, OnFalse_from}
use Rattle.std.proofs.lemmas.List.{take_all}
use Rattle.sg_lalr.specs.Least.{IsClosed}
use Rattle.sg_lalr.proofs.LeastLemmas.{grew-more, grew-same}
use Rattle.sg_lalr.proofs.least_set.grow.Goals as goal
use Rattle.sg_lalr.proofs.least_set.grow.Goals.{then-add_left, else-add_left}

pub loop-rule-preserved : goal.loop-rule-preserved
loop-rule-preserved c = elim c.if-add_left.branch [
  | then-add_left w ↦ rw w.grown-is (grew-more c.args.rules.now c.args.set.now c.loop-rule.set c.add_left.new.set c.loop-rule.rule-index c.rule-item.result c.loop-rule.grown c.loop-rule-test.true c.rule-item.is c.loop-rule.invariant c.add_left.ensures.width c.add_left.ensures.keeps c.add_left.ensures.was (OnTrue_at w.if-add_left.true c.add_left.ensures.grows))
  | else-add_left w ↦ rw w.grown-is (grew-same c.args.rules.now c.args.set.now c.loop-rule.set c.add_left.new.set c.loop-rule.rule-index c.rule-item.result c.loop-rule.grown c.loop-rule-test.true c.rule-item.is c.loop-rule.invariant c.add_left.ensures.has (OnFalse_at w.if-add_left.false c.add_left.ensures.stays))
]

pub returns-clause-closed : goal.returns-clause-closed
returns-clause-closed c = OnFalse_from c.loop-rule.grown _ (λ e. subst (IsClosed c.loop-rule.set) (take_all c.loop-rule.rule-index c.args.rules.now (omega arith)) (OnFalse_at e c.loop-rule.invariant.closed))
