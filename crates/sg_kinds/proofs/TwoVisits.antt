-- Visits, the visits to which positions belong, and the positions of an argument's visits, where a phylum has two.
use Rattle.std.specs.Prelude.{◌≡◌, refl, ℕ, List, [], ◌∷◌, map, slice_index}
use Rattle.sg_kinds.specs.Instances.{below}
use Rattle.sg_kinds.specs.Visits.{Plans, belongs, seat}
use Rattle.sg_kinds.specs.ValidPlans.{visit_of}
use Rattle.sg_kinds.specs.Specification.{rules_of}
use Rattle.sg_kinds.proofs.Languages.{meeting}

-- i, s, j, t in this order of evaluation: the layers 4, 3, 2, 1
abbrev layer : ℕ → ℕ
layer a = slice_index (4 ∷ 2 ∷ 3 ∷ 1 ∷ []) a

-- i and s in the first visit, j and t in the second
visits : map (visit_of (rules_of meeting) 4 layer) (below 4) ≡ 1 ∷ 2 ∷ 1 ∷ 2 ∷ []
visits = refl

-- both arguments one after the other in P; i, s, j, t in X
abbrev plans : List ℕ → Plans
plans row = record { visits = [] ∷ [] ∷ [] ∷ [] ∷ row ∷ []; places = (0 ∷ 2 ∷ 1 ∷ 3 ∷ 4 ∷ 6 ∷ 5 ∷ 7 ∷ []) ∷ (0 ∷ 2 ∷ 1 ∷ 3 ∷ []) ∷ []; steps = [] }

positions_belong : map (belongs (rules_of meeting) (plans (1 ∷ 2 ∷ 1 ∷ 2 ∷ [])) 1) (0 ∷ 1 ∷ 2 ∷ 3 ∷ 4 ∷ []) ≡ 1 ∷ 1 ∷ 2 ∷ 2 ∷ 2 ∷ []
positions_belong = refl

first_seats : map (seat (rules_of meeting) (plans (1 ∷ 2 ∷ 1 ∷ 2 ∷ [])) 0 0) (1 ∷ 2 ∷ []) ≡ 1 ∷ 3 ∷ []
first_seats = refl

second_seats : map (seat (rules_of meeting) (plans (1 ∷ 2 ∷ 1 ∷ 2 ∷ [])) 0 1) (1 ∷ 2 ∷ []) ≡ 5 ∷ 7 ∷ []
second_seats = refl

-- a last visit with j alone stands after all vertices, the first argument's before the second's
last_seats : map (λ k. seat (rules_of meeting) (plans (1 ∷ 2 ∷ 1 ∷ 1 ∷ [])) 0 k 2) (0 ∷ 1 ∷ []) ≡ 8 ∷ 9 ∷ []
last_seats = refl
