-- Rows of children.
use Rattle.std.proofs.Common.{◌≡◌, ℕ, zero, suc, ◌<◌, ◌≤◌, ◌+◌, List, [], ◌∷◌, ◌++◌, length, take, drop, get_or, refl, sym, ap, subst, arith}
use Rattle.sg_kinds.specs.Values.{Value, depth_of, depths_of, row_of, list_of}

pub depth_at : (vs : List Value) (i : ℕ) (d : Value) → i < length vs → depth_of (get_or vs i d) ≤ depths_of (row_of vs)
depth_at [] i d h = absurd (omega arith)
depth_at (v ∷ vs) zero d h = omega arith
depth_at (v ∷ vs) (suc i) d h = let r : depth_of (get_or vs i d) ≤ depths_of (row_of vs) = depth_at vs i d (omega arith) in omega arith

pub row_injective : (xs ys : List Value) → row_of xs ≡ row_of ys → xs ≡ ys
row_injective [] [] h = refl
row_injective [] (y ∷ ys) h = cc
row_injective (x ∷ xs) [] h = cc
row_injective (x ∷ xs) (y ∷ ys) h = let e : row_of xs ≡ row_of ys = cc in let r : xs ≡ ys = row_injective xs ys e in cc

pub list_of-row_of : (vs : List Value) → list_of (row_of vs) ≡ vs
list_of-row_of [] = refl
list_of-row_of (v ∷ vs) = ap (λ l. v ∷ l) (list_of-row_of vs)

-- the elements up to the next place
pub take_more : {A : Type 0} → (xs : List A) (i : ℕ) (x : A) → i < length xs → x ≡ get_or xs i x → take (i + 1) xs ≡ take i xs ++ x ∷ []
take_more [] i x l e = absurd (omega arith)
take_more (y ∷ ys) zero x l e = ap (λ z. z ∷ []) (sym e)
take_more (y ∷ ys) (suc i) x l e = let k : suc i + 1 ≡ suc (i + 1) = omega arith in rw k (ap (λ l. y ∷ l) (take_more ys i x (omega arith) e))

-- the elements from a place on
pub drop_more : {A : Type 0} → (xs : List A) (i : ℕ) (x : A) → i < length xs → x ≡ get_or xs i x → drop i xs ≡ x ∷ drop (i + 1) xs
drop_more [] i x l e = absurd (omega arith)
drop_more (y ∷ ys) zero x l e = ap (λ z. z ∷ ys) (sym e)
drop_more (y ∷ ys) (suc i) x l e = let k : suc i + 1 ≡ suc (i + 1) = omega arith in rw k (drop_more ys i x (omega arith) e)

pub depth_item : (vs : List Value) (i : ℕ) (v : Value) → i < length vs → v ≡ get_or vs i v → depth_of v ≤ depths_of (row_of vs)
depth_item vs i v l e = subst (λ w. depth_of w ≤ depths_of (row_of vs)) (sym e) (depth_at vs i v l)
