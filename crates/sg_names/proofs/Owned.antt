-- What owners own of lists that are joined.
use Rattle.std.proofs.Common.{◌≡◌, ℕ, nat_eq, if◌then◌else◌, List, [], ◌∷◌, ◌++◌}
use Rattle.std.proofs.lemmas.Grind.{flat_map-append}
use Rattle.sg_names.specs.Names.{owned}

pub owned_append : {T : Type 0} (xs ys : List (ℕ × T)) (k : ℕ) → owned (xs ++ ys) k ≡ owned xs k ++ owned ys k
owned_append {T} xs ys k = flat_map-append (λ (x : ℕ × T). if nat_eq x.0 k then x.1 ∷ [] else []) xs ys
