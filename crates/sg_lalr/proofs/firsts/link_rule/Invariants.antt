use Rattle.std.proofs.Common.{◌≡◌, ℕ, ◌⊎◌}
use Rattle.std.specs.Prelude.{◌↔◌}
use Rattle.sg_sets.specs.Paths.{Linked}
use Rattle.sg_lalr.specs.Firsts.{StandsBelow}
use Rattle.sg_lalr.proofs.firsts.link_rule.Given as goal

abbrev pub invariant-loop-d : goal.invariant-loop-d
invariant-loop-d l = (a b : ℕ) → Linked l.links.items a b ↔ (Linked l.initial.links.items a b ⊎ ((b ≡ l.rule.left) × StandsBelow l.nullable l.rule.right l.d a))
