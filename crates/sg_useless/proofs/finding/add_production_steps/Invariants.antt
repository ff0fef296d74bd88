use Rattle.std.proofs.Common.{◌≡◌, ◌++◌, drop}
use Rattle.std.specs.Prelude.{flat_map}
use Rattle.sg_useless.specs.Useless.{nonterminal_steps}
use Rattle.sg_useless.proofs.finding.add_production_steps.Given as goal

abbrev pub invariant-loop-symbol : goal.invariant-loop-symbol
invariant-loop-symbol l = l.steps.items ++ flat_map (nonterminal_steps l.production.left) (drop l.symbol-index l.production.right) ≡ l.initial.steps.items ++ flat_map (nonterminal_steps l.production.left) l.production.right
