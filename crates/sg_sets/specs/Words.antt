-- How a set of numbers lies in words of 64 bits.
use Rattle.std.specs.Prelude.{◌≡◌, ℕ, ◌+◌, ◌*◌, ◌/◌, ◌%◌, ◌^◌, ◌<◌, ◌≤◌, Bool, false, true, ◌==◌, List, length, map, slice_index}
use Rattle.std.specs.Int.{bit_at}
use Rattle.std.specs.List.{range_with_len}

-- bit a of the words
abbrev pub bit : List ℕ → ℕ → Bool
bit words a = bit_at (slice_index words (a / 64)) (a % 64) == 1

-- the first bits of the words, as many as the width
abbrev pub bits_of : ℕ → List ℕ → List Bool
bits_of width words = map (bit words) (range_with_len 0 width)

-- some bit is set in the other words alone
abbrev pub Gained : List ℕ → List ℕ → Type 0
Gained words other = (a : ℕ) × (bit words a ≡ false) × (bit other a ≡ true)

-- bit a is set in both
abbrev pub SharedBit : List ℕ → List ℕ → ℕ → Type 0
SharedBit words other a = (bit words a ≡ true) × (bit other a ≡ true)

-- bit a is set in the first alone
abbrev pub OutsideBit : List ℕ → List ℕ → ℕ → Type 0
OutsideBit words other a = (bit words a ≡ true) × (bit other a ≡ false)

-- some bit is set in the new words and was not in the old ones
abbrev pub IsSetSince : List ℕ → List ℕ → Type 0
IsSetSince old new = (a : ℕ) × (bit old a ≡ false) × (bit new a ≡ true)

-- bit a lies as far behind `to` as a set bit of the words, one of so many, behind `from`
pub record IsMovedBit (words : List ℕ) (from to count a : ℕ) : Type 0 where
  pub place : ℕ
  pub low : place < count
  pub set : bit words (from + place) ≡ true
  pub at : a ≡ to + place

-- there are just as many words as the width takes, and no bit is set from the width on
pub record IsPacked (width : ℕ) (words : List ℕ) : Type 0 where
  pub small : width < 2 ^ 64
  pub room : width ≤ 64 * length words
  pub tight : 64 * length words < width + 64
  pub clear : (a : ℕ) → width ≤ a → bit words a ≡ false
