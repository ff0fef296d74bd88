use Rattle.std.proofs.Common.{subst, arith}
use Rattle.std.proofs.lemmas.List.{take_all}
use Rattle.sg_lalr.proofs.FirstLemmas.{LinkedBy, linked-more}
use Rattle.sg_lalr.proofs.firsts.link_rules.Goals as goal

pub loop-rule-preserved : goal.loop-rule-preserved
loop-rule-preserved c = linked-more c.args.nullable.now c.args.rules.now c.loop-rule.rule-index c.rule-item.result c.loop-rule.links.items c.link_rule.new.links.items c.loop-rule-test.true c.rule-item.is c.loop-rule.invariant c.in_ok-link_rule.ensures

pub returns : goal.returns
returns c = subst (λ rs. LinkedBy c.args.nullable.now rs c.loop-rule.links.items) (take_all c.loop-rule.rule-index c.args.rules.now (omega arith)) c.loop-rule.invariant
