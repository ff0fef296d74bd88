-- The owners of the code, as those of the definitions.
use Rattle.std.specs.Prelude.{ℕ, List, map}
use Rattle.std.specs.Borrow.{Bor}
use Rattle.sg_kinds.specs.Values.{Bytes}

abbrev pub names_of : List (Bor (List ℕ)) → List Bytes
names_of names = map (λ (n : Bor (List ℕ)). n.now) names

-- operators by the names of their phyla and their own
abbrev pub operators_of : List (Bor (List ℕ) × Bor (List ℕ)) → List (Bytes × Bytes)
operators_of names = map (λ (n : Bor (List ℕ) × Bor (List ℕ)). (n.0.now, n.1.now)) names
