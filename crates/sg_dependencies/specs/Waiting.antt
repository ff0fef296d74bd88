-- Operators that wait to be settled, as a flag for each.
use Rattle.std.specs.Prelude.{◌≡◌, ◌≢◌, ℕ, ◌<◌, ◌⊎◌, Bool, true, List, length, All, slice_index_or}
use Rattle.sg_dependencies.specs.Frames.{Spot, Frame}
use Rattle.sg_dependencies.specs.Induced.{relation_at}
use Rattle.sg_dependencies.specs.Rounds.{IsSettled, frame_at}

-- the flag of operator p is set
abbrev pub Waits : List Bool → ℕ → Type 0
Waits waiting p = slice_index_or waiting p true ≡ true

-- no phylum stands at a spot of both
abbrev pub AreApart : List Spot → List Spot → Type 0
AreApart spots others = All (λ (s : Spot). All (λ (t : Spot). t.phylum ≢ s.phylum) others) spots

-- nothing is to be added for an operator that does not wait
abbrev pub AreSettledElse : List Frame → List Bool → List (List (List Bool)) → List (List (List Bool)) → Type 0
AreSettledElse frames waiting operators phyla = (p : ℕ) → p < length frames
    → Waits waiting p ⊎ IsSettled (frame_at frames p).spots (relation_at operators p) phyla
