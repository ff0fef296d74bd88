use Rattle.std.proofs.Common.{arith}
use Rattle.std.proofs.lemmas.Bool.{both_ways}
use Rattle.sg_lalr.proofs.ReductionLemmas.{none-more, none-all}
use Rattle.sg_lalr.proofs.reductions.reduced.Goals as goal

pub loop-reduction-preserved : goal.loop-reduction-preserved
loop-reduction-preserved c =
    none-more c.args.reductions.now c.loop-reduction.reduction-index c.args.t c.reduction-item.result (omega (arith, c.loop-reduction-test.true)) c.reduction-item.is
    (λ h. both_ways c.contains.result c.if-contains.false (c.contains.ensures.1 h)) c.loop-reduction.invariant

pub returns-clause-none : goal.returns-clause-none
returns-clause-none c = none-all c.args.reductions.now c.loop-reduction.reduction-index c.args.t (omega (arith, c.loop-reduction-test.false)) c.loop-reduction.invariant
