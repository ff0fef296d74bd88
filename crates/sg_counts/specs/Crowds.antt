-- Elements that differ by a test, and elements that come too often.
use Rattle.std.specs.Prelude.{ℕ, Bool, if◌then◌else◌, nat_le, List, [], ◌∷◌, ◌++◌, count_by, Option, Some, None, option_map}
use Rattle.std.specs.List.{list_any}

-- the elements that have no equal one before them, where these stand before the list
abbrev pub different_behind : {X : Type 0} → (X → X → Bool) → List X → List X → List X
different_behind same before [] = []
different_behind same before (x ∷ xs) =
    let rest = different_behind same (before ++ x ∷ []) xs in
    if list_any (λ y. same y x) before then rest else x ∷ rest

-- the elements that have no equal one before them
abbrev pub different : {X : Type 0} → (X → X → Bool) → List X → List X
different same xs = different_behind same [] xs

-- the first element that has so many equal ones before it, where these stand before the list
abbrev pub crowded_behind : {X : Type 0} → (X → X → Bool) → ℕ → List X → List X → Option X
crowded_behind same limit before [] = None
crowded_behind same limit before (x ∷ xs) =
    let rest = crowded_behind same limit (before ++ x ∷ []) xs in
    if nat_le limit (count_by (λ y. same y x) before) then Some x else rest

-- how many equal the first element that has so many equal ones before it
abbrev pub crowd : {X : Type 0} → (X → X → Bool) → ℕ → List X → Option ℕ
crowd same limit xs = option_map (λ x. count_by (λ y. same y x) xs) (crowded_behind same limit [] xs)
