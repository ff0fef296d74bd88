-- What a contract sees of a `Relation`: a row for each number, the numbers that it is related to.
use Rattle.std.specs.Prelude.{ℕ, Bool, List, count_by}
use Rattle.sg_sets.specs.Members.{has, Has}
use Rattle.sg_sets.specs.Rows.{Holds}

-- how many numbers are related to b
abbrev pub predecessors : List (List Bool) → ℕ → ℕ
predecessors rows b = count_by (λ row. has row b) rows

-- a is related to what those are related to that it is related to
abbrev pub HasPassedOn : List (List Bool) → ℕ → Type 0
HasPassedOn rows a = (k b : ℕ) → Holds rows a k → Holds rows k b → Holds rows a b

-- each number of the set is related to all that it leads to
abbrev pub AreClosed : List Bool → List (List Bool) → Type 0
AreClosed set rows = (a : ℕ) → Has set a → HasPassedOn rows a
