-- The first fault: a rule is a list of spots in the order of the text and a test that gives the fault of a spot.
use Rattle.std.specs.Prelude.{ℕ, suc, Bool, if◌then◌else◌, nat_lt, List, [], ◌∷◌, ◌++◌, Option, Some, None}
use Rattle.std.specs.List.{list_any}

-- the first of two faults, where the first rule comes before the second
abbrev pub or_else : {A : Type 0} → Option A → Option A → Option A
or_else (Some a) o = Some a
or_else None o = o

-- the fault of the first spot that has one
abbrev pub first : {X A : Type 0} → (X → Option A) → List X → Option A
first f [] = None
first f (x ∷ xs) = or_else (f x) (first f xs)

-- the fault of the first rule that has one
abbrev pub first_of : {A : Type 0} → List (Option A) → Option A
first_of os = first (λ o. o) os

-- the elements that have an equal one before them, where these stand before the list
abbrev pub repeats_behind : {X : Type 0} → (X → X → Bool) → List X → List X → List X
repeats_behind same before [] = []
repeats_behind same before (x ∷ xs) =
    let rest = repeats_behind same (before ++ x ∷ []) xs in
    if list_any (λ y. same y x) before then x ∷ rest else rest

-- the elements that have an equal one before them
abbrev pub repeats : {X : Type 0} → (X → X → Bool) → List X → List X
repeats same xs = repeats_behind same [] xs

-- the place of the first such element, where so many stand before the list
abbrev pub repeat_from : {X : Type 0} → (X → X → Bool) → List X → ℕ → List X → Option ℕ
repeat_from same before place [] = None
repeat_from same before place (x ∷ xs) =
    let rest = repeat_from same (before ++ x ∷ []) (suc place) xs in
    if list_any (λ y. same y x) before then Some place else rest

-- the place of the first element that has an equal one before it
abbrev pub first_repeat : {X : Type 0} → (X → X → Bool) → List X → Option ℕ
first_repeat same xs = repeat_from same [] 0 xs

-- a count that is over its limit
abbrev pub over : ℕ → ℕ → Option ℕ
over limit count = if nat_lt limit count then Some count else None
