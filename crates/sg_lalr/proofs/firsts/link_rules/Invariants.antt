use Rattle.std.proofs.Common.{◌≡◌, ℕ, take}
use Rattle.std.specs.Prelude.{◌↔◌, Contains}
use Rattle.sg_grammar.specs.declared.grammar.Production.{Production}
use Rattle.sg_sets.specs.Paths.{Linked}
use Rattle.sg_lalr.specs.Firsts.{StandsBehind}
use Rattle.sg_lalr.proofs.firsts.link_rules.Given as goal

abbrev pub invariant-loop-rule : goal.invariant-loop-rule
invariant-loop-rule l = (a b : ℕ) → Linked l.links.items a b ↔ ((r : Production) × Contains (take l.rule-index l.rules) r × (b ≡ r.left) × StandsBehind l.nullable r.right a)
