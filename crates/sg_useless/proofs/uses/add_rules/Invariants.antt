use Rattle.std.proofs.Common.{◌≡◌, ◌++◌, drop}
use Rattle.std.specs.Prelude.{flat_map}
use Rattle.sg_useless.specs.Uses.{rule_uses}
use Rattle.sg_useless.proofs.uses.add_rules.Given as goal

abbrev pub invariant-loop-rule : goal.invariant-loop-rule
invariant-loop-rule l = l.uses.items ++ flat_map (rule_uses l.spec) (drop l.rule-index l.spec.rules) ≡ l.initial.uses.items ++ flat_map (rule_uses l.spec) l.spec.rules
