use Rattle.std.proofs.Common.{ℕ, ◌<◌}
use Rattle.sg_grammar.specs.Derives.{IsProductive}
use Rattle.sg_lalr.proofs.productive.first_unproductive.Given as goal

abbrev pub invariant-loop-x : goal.invariant-loop-x
invariant-loop-x l = (Y : ℕ) → Y < l.x → IsProductive l.g Y
