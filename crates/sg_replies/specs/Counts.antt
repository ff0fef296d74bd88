-- Counts of calls
use Rattle.std.specs.Prelude.{◌≡◌, ◌⊎◌, ℕ, Option}
use Rattle.sg_outside.specs.Count.{Calls, answered_by, unanswered_once}

-- so many calls were answered, and there was no other, or, where More holds, one more, which was not answered
abbrev pub CallsOrOneMore : Type 0 → ℕ → Option Calls → Option Calls → Type 0
CallsOrOneMore More n old new =
    (new ≡ answered_by n old) ⊎ (More × (new ≡ unanswered_once (answered_by n old)))
