-- What a loop along declarations has gathered.
use Rattle.std.proofs.Common.{◌≡◌, ℕ, ◌+◌, ◌<◌, Bool, cond, List, [], ◌∷◌, ◌++◌, length, map, take, get_or, refl, sym, ap, ◌∙◌}
use Rattle.std.specs.List.{flat_map, count_by}
use Rattle.std.proofs.lemmas.List.{flat_map_more, map_push}
use Rattle.std.proofs.lemmas.List.Sums.{sum_by-cons}
use Rattle.sg_kinds.proofs.Kids.{take_more}

-- one more, where something stands before
pub one_more_behind : {A B C : Type 0} (g : B → List C) (view : A → B) (xs : List A) (i : ℕ) (x : A) (start front new : List C) → i < length xs → x ≡ get_or xs i x → front ≡ start ++ flat_map g (map view (take i xs)) → new ≡ front ++ g (view x)
    → new ≡ start ++ flat_map g (map view (take (i + 1) xs))
one_more_behind g view xs i x start front new low here so_far more =
    more ∙ ap (λ l. l ++ g (view x)) so_far ∙ flat_map_more g start (map view (take i xs)) (view x) ∙ ap (λ l. start ++ flat_map g l) (sym (map_push view (take i xs) x)) ∙ ap (λ l. start ++ flat_map g (map view l)) (sym (take_more xs i x low here))

-- one more declaration
pub one_more : {A B C : Type 0} (g : B → List C) (view : A → B) (xs : List A) (i : ℕ) (x : A) (front new : List C) → i < length xs → x ≡ get_or xs i x → front ≡ flat_map g (map view (take i xs)) → new ≡ front ++ g (view x)
    → new ≡ flat_map g (map view (take (i + 1) xs))
one_more g view xs i x front new low here so_far more = one_more_behind g view xs i x [] front new low here so_far more

pub count_map : {A B : Type 0} (p : B → Bool) (view : A → B) (xs : List A) → count_by p (map view xs) ≡ count_by (λ x. p (view x)) xs
count_map p view [] = refl
count_map p view (x ∷ xs) =
    sum_by-cons (λ b. cond (p b) 1 0) (view x) (map view xs) ∙ ap (λ n. cond (p (view x)) 1 0 + n) (count_map p view xs) ∙ sym (sum_by-cons (λ a. cond (p (view a)) 1 0) x xs)
