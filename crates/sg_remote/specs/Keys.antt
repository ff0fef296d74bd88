-- Lists as keys of a set: of each attribute that a list names, the numbers of phylum and slot.
use Rattle.std.specs.Prelude.{◌≡◌, ℕ, ◌<◌, false, List, [], map, length, slice_index_or}
use Rattle.sg_kinds.specs.Far.{same_far}
use Rattle.sg_kinds.specs.declared.spec.Far.{Far}

abbrev pub key_of : List Far → List (ℕ × ℕ)
key_of fs = map (λ (f : Far). (f.phylum, f.slot)) fs

abbrev pub list_of : List (ℕ × ℕ) → List Far
list_of ps = map (λ p. record { phylum = p.0; slot = p.1 }) ps

-- no list stands there twice
abbrev pub AreDistinct : List (List Far) → Type 0
AreDistinct fss = (i j : ℕ) → i < j → j < length fss
    → same_far (slice_index_or fss i []) (slice_index_or fss j []) ≡ false
