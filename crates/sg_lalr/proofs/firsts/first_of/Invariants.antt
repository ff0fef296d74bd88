use Rattle.std.proofs.Common.{◌≡◌, ℕ, length}
use Rattle.std.specs.Prelude.{◌↔◌}
use Rattle.sg_sets.specs.Members.{Has}
use Rattle.sg_sets.specs.Rows.{Holds}
use Rattle.sg_lalr.specs.Firsts.{StandsBelow}
use Rattle.sg_lalr.proofs.firsts.first_of.Given as goal

abbrev pub invariant-loop-d : goal.invariant-loop-d
invariant-loop-d l = (length l.set ≡ l.rows.width) × ((u : ℕ) → Has l.set u ↔ ((Y : ℕ) × StandsBelow l.nullable l.symbols l.d Y × Holds l.rows.rows Y u))
