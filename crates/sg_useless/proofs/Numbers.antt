-- One number more below a bound.
use Rattle.std.proofs.Common.{◌≡◌, ℕ, suc, ◌+◌, ◌<◌, List, [], ◌∷◌, ◌++◌, map, drop, length, get_or, ap, sym, ◌∙◌, append_assoc, arith}
use Rattle.std.proofs.lemmas.List.{map-append, drop_more}
use Rattle.std.proofs.lemmas.Grind.{flat_map-append}
use Rattle.std.proofs.Common.{append-nil}
use Rattle.std.specs.Prelude.{flat_map}
use Rattle.sg_kinds.specs.Instances.{below}

below_more : (i : ℕ) → below (i + 1) ≡ below i ++ i ∷ []
below_more i = ap below (let e : i + 1 ≡ suc i = omega arith in e)

pub map_more : {X : Type 0} (f : ℕ → X) (i : ℕ) → map f (below (i + 1)) ≡ map f (below i) ++ f i ∷ []
map_more f i = ap (map f) (below_more i) ∙ map-append f (below i) (i ∷ [])

pub flat_more : {X : Type 0} (f : ℕ → List X) (i : ℕ) → flat_map f (below (i + 1)) ≡ flat_map f (below i) ++ f i
flat_more f i = ap (flat_map f) (below_more i) ∙ flat_map-append f (below i) (i ∷ []) ∙ ap (λ xs. flat_map f (below i) ++ xs) (append-nil (f i))

-- one element more of a list that is gone through
pub drop_flat : {A B : Type 0} (f : A → List B) (xs : List A) (i : ℕ) (x : A) (old new total : List B) → i < length xs → x ≡ get_or xs i x
    → new ≡ old ++ f x → old ++ flat_map f (drop i xs) ≡ total → new ++ flat_map f (drop (i + 1) xs) ≡ total
drop_flat {A} {B} f xs i x old new total low is put so_far =
    ap (λ (l : List B). l ++ flat_map f (drop (i + 1) xs)) put ∙ append_assoc old (f x) (flat_map f (drop (i + 1) xs))
    ∙ ap (λ (l : List A). old ++ flat_map f l) (ap (λ (y : A). y ∷ drop (i + 1) xs) is ∙ sym (drop_more xs i x low)) ∙ so_far
