-- What the rule of a window's top gives.
use Rattle.std.specs.Prelude.{◌≡◌, ℕ, ◌+◌, ◌<◌, ◌≤◌}
use Rattle.std.proofs.Common.{arith}
use Rattle.std.proofs.lemmas.Bool.Decides.{nat_tests}
use Rattle.sg_changes.specs.Top.{topped}

pub topped_below : (height first top : ℕ) → 0 < height → topped height first top ≤ first
topped_below height first top high = grind (arith, nat_tests)

pub topped_shows : (height first top : ℕ) → 0 < height → first < topped height first top + height
topped_shows height first top high = grind (arith, nat_tests)

pub topped_stays : (height first top : ℕ) → top ≤ first → first < top + height → topped height first top ≡ top
topped_stays height first top low shown = grind (arith, nat_tests)
