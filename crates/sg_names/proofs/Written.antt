-- Lists that are written from the front on.
use Rattle.std.proofs.Common.{◌≡◌, ℕ, zero, suc, ◌+◌, ◌<◌, List, [], ◌∷◌, ◌++◌, length, take, drop, set, get_or, refl, sym, ap, ◌∙◌, arith}
use Rattle.sg_names.specs.Names.{map_from}

-- what is not written yet
pub unwritten : {A : Type 0} (f : ℕ → A → A) (s i : ℕ) (xs : List A) (d : A) → get_or (map_from f s (take i xs) ++ drop i xs) i d ≡ get_or xs i d
unwritten f s zero [] d = refl
unwritten f s (suc i) [] d = refl
unwritten f s zero (x ∷ xs) d = refl
unwritten f s (suc i) (x ∷ xs) d = unwritten f (suc s) i xs d

next : {A : Type 0} (f : ℕ → A → A) (s i : ℕ) (xs : List A) (x y : A) → i < length xs → x ≡ get_or xs i x → y ≡ f (s + i) x
    → set (map_from f s (take i xs) ++ drop i xs) i y ≡ map_from f s (take (suc i) xs) ++ drop (suc i) xs
next f s i [] x y low is e = absurd (omega arith)
next f s zero (z ∷ xs) x y low is e =
    let n : s + 0 ≡ s = omega arith in
    ap (λ w. w ∷ xs) (e ∙ ap (λ k. f k x) n ∙ ap (f s) is)
next f s (suc i) (z ∷ xs) x y low is e =
    let h : i < length xs = omega arith in
    let n : s + suc i ≡ suc s + i = omega arith in
    ap (λ l. f s z ∷ l) (next f (suc s) i xs x y h is (e ∙ ap (λ k. f k x) n))

-- one more that is written
pub written : {A : Type 0} (f : ℕ → A → A) (i : ℕ) (xs now : List A) (x y : A) → i < length xs → now ≡ map_from f 0 (take i xs) ++ drop i xs → x ≡ get_or now i x → y ≡ f i x
    → set now i y ≡ map_from f 0 (take (i + 1) xs) ++ drop (i + 1) xs
written f i xs now x y low so_far is e =
    let n : 0 + i ≡ i = omega arith in
    let m : suc i ≡ i + 1 = omega arith in
    let at : x ≡ get_or xs i x = is ∙ ap (λ l. get_or l i x) so_far ∙ unwritten f 0 i xs x in
    ap (λ l. set l i y) so_far ∙ next f 0 i xs x y low at (e ∙ ap (λ k. f k x) (sym n)) ∙ ap (λ k. map_from f 0 (take k xs) ++ drop k xs) m
