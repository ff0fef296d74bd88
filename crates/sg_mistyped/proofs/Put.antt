-- What is put between others.
use Rattle.std.proofs.Common.{◌≡◌, refl, ap, ◌∙◌, ℕ, List, [], ◌∷◌, ◌++◌, length, take, drop}

take_front : {X : Type 0} (xs ys : List X) → take (length xs) (xs ++ ys) ≡ xs
take_front [] ys = refl
take_front (x ∷ xs) ys = ap (λ l. x ∷ l) (take_front xs ys)

drop_front : {X : Type 0} (xs ys : List X) → drop (length xs) (xs ++ ys) ≡ ys
drop_front [] ys = refl
drop_front (x ∷ xs) ys = drop_front xs ys

-- behind the first of two lists
pub put_between : {X : Type 0} (at : ℕ) (xs ms ys : List X) → at ≡ length xs → take at (xs ++ ys) ++ (ms ++ drop at (xs ++ ys)) ≡ xs ++ (ms ++ ys)
put_between at xs ms ys e = ap (λ n. take n (xs ++ ys) ++ (ms ++ drop n (xs ++ ys))) e ∙ (λ i. take_front xs ys i ++ (ms ++ drop_front xs ys i))
