-- What a contract sees of a `BitSet`: a flag for each number below the width.
use Rattle.std.specs.Prelude.{◌≡◌, ℕ, ◌+◌, ◌<◌, ◌≤◌, Bool, false, not, List, IsTrue, count_by, slice_index_or}

-- the flag of a
abbrev pub has : List Bool → ℕ → Bool
has set a = slice_index_or set a false

-- a is in the set
abbrev pub Has : List Bool → ℕ → Type 0
Has set a = IsTrue (has set a)

-- m is the least number of the set from `from` on
pub record IsNext (set : List Bool) (from m : ℕ) : Type 0 where
  pub member : Has set m
  pub behind : from ≤ m
  pub least : (a : ℕ) → from ≤ a → Has set a → m ≤ a

-- how many numbers below the width are not in the set
abbrev pub missing_of : List Bool → ℕ
missing_of set = count_by not set

-- a is in both sets
abbrev pub Shared : List Bool → List Bool → ℕ → Type 0
Shared xs ys a = Has xs a × Has ys a

-- a is in the first set alone
abbrev pub Outside : List Bool → List Bool → ℕ → Type 0
Outside xs ys a = Has xs a × ¬ (Has ys a)

-- a lies as far behind `to` as a number of the set, one of so many places, behind `from`
pub record IsMoved (set : List Bool) (from to count a : ℕ) : Type 0 where
  pub place : ℕ
  pub low : place < count
  pub member : Has set (from + place)
  pub at : a ≡ to + place
