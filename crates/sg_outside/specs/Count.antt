-- Counts of 64 bits, which stay at their greatest value
use Rattle.std.specs.Prelude.{ℕ, ◌+◌, ◌≤◌, zero, suc, min, Option}
use Rattle.std.specs.Option.{option_map}

-- a count after one more
abbrev pub raised : ℕ → ℕ
raised count = min (count + 1) 18446744073709551615

-- a count after so many more
abbrev pub raised_by : ℕ → ℕ → ℕ
raised_by zero count = count
raised_by (suc n) count = raised_by n (raised count)

-- the count is greater than before, or stands at its greatest value
abbrev pub Rose : ℕ → ℕ → Type 0
Rose before now = raised before ≤ now

-- a count after so many more, where it is told
abbrev pub tallied : ℕ → Option ℕ → Option ℕ
tallied n = option_map (raised_by n)

-- how many calls of a shelf were answered, by bytes, by a keep or by a failure, and how many were not, for want of memory
pub record Calls : Type 0 where
  pub answered : ℕ
  pub unanswered : ℕ

-- the calls after so many more that were answered; after one more that was not
abbrev pub more_answered : ℕ → Calls → Calls
more_answered n calls = record calls { answered = raised_by n calls.answered }

abbrev pub one_unanswered : Calls → Calls
one_unanswered calls = record calls { unanswered = raised calls.unanswered }

-- the same, where they are told
abbrev pub answered_by : ℕ → Option Calls → Option Calls
answered_by n = option_map (more_answered n)

abbrev pub unanswered_once : Option Calls → Option Calls
unanswered_once = option_map one_unanswered
