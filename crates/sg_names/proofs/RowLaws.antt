-- Rows of owners, with one more row and with a row that is written.
use Rattle.std.proofs.Math.Dec.{eqb-zero-suc, eqb-suc-zero}
use Rattle.std.proofs.lemmas.Bool.Decides.{nat_tests}
use Rattle.std.proofs.Common.{Bool, true, false, ◌≡◌, ℕ, zero, suc, ◌<◌, List, [], ◌∷◌, ◌++◌, length, set, get_or, nat_eq, if◌then◌else◌, append-nil, Vec, slice_get, option_map, unwrap_or, refl, sym, ap, ◌∙◌, arith}

-- one more empty row
pub one_more : {T A : Type 0} (rows : List (Vec T A)) (v : Vec T A) (k : ℕ) → v.items ≡ [] → unwrap_or (option_map (λ (x : Vec T A). x.items) (slice_get (rows ++ v ∷ []) k)) [] ≡ unwrap_or (option_map (λ (x : Vec T A). x.items) (slice_get rows k)) []
one_more [] v zero e = e
one_more [] v (suc k) e = refl
one_more (r ∷ rows) v zero e = refl
one_more (r ∷ rows) v (suc k) e = one_more rows v k e

-- a test that passes, and one that fails
with : {T : Type 0} (b : Bool) (xs ys : List T) (t : T) → b ≡ true → ys ≡ xs ++ t ∷ [] → ys ≡ xs ++ (if b then t ∷ [] else [])
with true xs ys t h e = e
with false xs ys t h e = cc

without : {T : Type 0} (b : Bool) (xs : List T) (t : T) → b ≡ false → xs ≡ xs ++ (if b then t ∷ [] else [])
without true xs t h = cc
without false xs t h = sym (append-nil xs)

both_next : (m k : ℕ) → nat_eq m k ≡ nat_eq (suc m) (suc k)
both_next m k = grind (arith, nat_tests)

-- a thing put last in a row
pub pushed : {T A : Type 0} (rows : List (Vec T A)) (m : ℕ) (v w : Vec T A) (t : T) → m < length rows → v ≡ get_or rows m v → w.items ≡ v.items ++ t ∷ []
    → (k : ℕ) → unwrap_or (option_map (λ (x : Vec T A). x.items) (slice_get (set rows m w) k)) [] ≡ unwrap_or (option_map (λ (x : Vec T A). x.items) (slice_get rows k)) [] ++ (if nat_eq m k then t ∷ [] else [])
pushed [] m v w t low is e k = absurd (omega arith)
pushed {T} {A} (r ∷ rows) zero v w t low is e zero = with (nat_eq 0 0) r.items w.items t refl (e ∙ ap (λ (x : Vec T A). x.items ++ t ∷ []) is)
pushed {T} {A} (r ∷ rows) zero v w t low is e (suc k) = without (nat_eq 0 (suc k)) (unwrap_or (option_map (λ (x : Vec T A). x.items) (slice_get rows k)) []) t (eqb-zero-suc k)
pushed (r ∷ rows) (suc m) v w t low is e zero = without (nat_eq (suc m) 0) r.items t (eqb-suc-zero m)
pushed {T} {A} (r ∷ rows) (suc m) v w t low is e (suc k) =
    let h : m < length rows = omega arith in
    pushed rows m v w t h is e k ∙ ap (λ b. unwrap_or (option_map (λ (x : Vec T A). x.items) (slice_get rows k)) [] ++ (if b then t ∷ [] else [])) (both_next m k)
