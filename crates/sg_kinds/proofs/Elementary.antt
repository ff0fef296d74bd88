-- Small facts on tests, options and lists that several crates cite.
-- What std has is cited from there: `and_parts`, `or_left`, `or_parts`, `eqb-true`, `leb-true`, `ltb-true` and the facts the other way round of `lemmas.Bool`, `slice_get-map`, `slice_get_within`, `slice_get_past`, `same_Some` of `lemmas.Option`.
use Rattle.std.specs.Prelude.{◌≡◌, ◌≢◌, refl, ℕ, zero, suc, ◌+◌, ◌<◌, ◌≤◌, Bool, true, false, not, ◌&&◌, ◌||◌, ◌⊎◌, List, [], ◌∷◌, ◌++◌, map, length, All, Contains, Option, Some, None, slice_get, option_map, nat_eq, nat_le, nat_lt, bytes_eq}
use Rattle.std.specs.Option.{is_some}
use Rattle.std.proofs.Common.{inl, inr, ap, subst, arith, get_or}
use Rattle.std.proofs.lemmas.Bool.Decides.{nat_tests}
use Rattle.std.proofs.lemmas.Slice.Eq.{bytes_eq-Decides}

-- two tests

pub and_true : (a b : Bool) → a ≡ true → b ≡ true → (a && b) ≡ true
and_true true b f g = g
and_true false b f g = absurd (cc f)

pub or_right : (a b : Bool) → b ≡ true → (a || b) ≡ true
or_right true b f = refl
or_right false b f = f

pub or_one : (a b : Bool) → (a || b) ≡ true → (a ≡ true) ⊎ (b ≡ true)
or_one true b f = inl refl
or_one false b f = inr f

pub or_neither : (a b : Bool) → a ≡ false → b ≡ false → (a || b) ≡ false
or_neither true b f g = absurd (cc f)
or_neither false b f g = g

pub or_false : (b : Bool) → (b || false) ≡ b
or_false true = refl
or_false false = refl

pub not_true : (b : Bool) → not b ≡ true → b ≡ false
not_true true e = absurd (cc e)
not_true false e = refl

pub not_false : (b : Bool) → not b ≡ false → b ≡ true
not_false true e = refl
not_false false e = absurd (cc e)

-- tests of numbers and of bytes

pub eq_is : (m n : ℕ) → nat_eq m n ≡ true → m ≡ n
eq_is m n h = grind (arith, nat_tests)

pub eq_itself : (n : ℕ) → nat_eq n n ≡ true
eq_itself n = grind (arith, nat_tests)

pub eq_true : (m n : ℕ) → m ≡ n → nat_eq m n ≡ true
eq_true m n e = grind (arith, nat_tests)

pub eq_false : (m n : ℕ) → m ≢ n → nat_eq m n ≡ false
eq_false m n e = grind (arith, nat_tests)

pub le_is : (m n : ℕ) → nat_le m n ≡ true → m ≤ n
le_is m n h = grind arith

pub le_true : (m n : ℕ) → m ≤ n → nat_le m n ≡ true
le_true m n h = grind arith

pub lt_is : (m n : ℕ) → nat_lt m n ≡ true → m < n
lt_is m n h = grind (arith, nat_tests)

pub lt_true : (m n : ℕ) → m < n → nat_lt m n ≡ true
lt_true m n h = grind (arith, nat_tests)

pub bytes_is : (xs ys : List ℕ) → bytes_eq xs ys ≡ true → xs ≡ ys
bytes_is xs ys h = grind (arith, bytes_eq-Decides)

pub bytes_itself : (xs : List ℕ) → bytes_eq xs xs ≡ true
bytes_itself xs = grind (arith, bytes_eq-Decides)

-- options

pub some_there : {A : Type 0} (o : Option A) → is_some o ≡ true → (x : A) × (o ≡ Some x)
some_there None h = absurd (cc h)
some_there (Some x) h = (x, refl)

pub option_map_some : {A B : Type 0} (f : A → B) (o : Option A) (y : B) → option_map f o ≡ Some y → (x : A) × (o ≡ Some x) × (f x ≡ y)
option_map_some f None y e = absurd (cc e)
option_map_some f (Some x) y e = (x, refl, cc e)

-- places of lists

pub slice_get-front : {A : Type 0} → (xs ys : List A) (i : ℕ) → i < length xs → slice_get (xs ++ ys) i ≡ slice_get xs i
slice_get-front [] ys i h = absurd (omega arith)
slice_get-front (x ∷ xs) ys zero h = refl
slice_get-front (x ∷ xs) ys (suc i) h = slice_get-front xs ys i (omega arith)

pub slice_get-before : {A : Type 0} → (xs ys : List A) (i : ℕ) (x : A) → slice_get xs i ≡ Some x → slice_get (xs ++ ys) i ≡ Some x
slice_get-before [] ys i x e = absurd (cc e)
slice_get-before (y ∷ xs) ys zero x e = e
slice_get-before (y ∷ xs) ys (suc i) x e = slice_get-before xs ys i x e

pub slice_get-seam : {A : Type 0} → (xs : List A) (y : A) (ys : List A) → slice_get (xs ++ y ∷ ys) (length xs) ≡ Some y
slice_get-seam [] y ys = refl
slice_get-seam (x ∷ xs) y ys = slice_get-seam xs y ys

pub slice_get-behind : {A : Type 0} → (xs ys : List A) (i : ℕ) → slice_get (xs ++ ys) (length xs + i) ≡ slice_get ys i
slice_get-behind [] ys i = let k : 0 + i ≡ i = omega arith in ap (slice_get ys) k
slice_get-behind (x ∷ xs) ys i = let k : suc (length xs) + i ≡ suc (length xs + i) = omega arith in rw k (slice_get-behind xs ys i)

pub slice_get-there : {A : Type 0} → (xs : List A) (i : ℕ) → i < length xs → (x : A) × (slice_get xs i ≡ Some x)
slice_get-there [] i h = absurd (omega arith)
slice_get-there (x ∷ xs) zero h = (x, refl)
slice_get-there (x ∷ xs) (suc i) h = slice_get-there xs i (omega arith)

pub slice_get-Contains : {A : Type 0} → (xs : List A) (i : ℕ) (x : A) → slice_get xs i ≡ Some x → Contains xs x
slice_get-Contains [] i x e = absurd (cc e)
slice_get-Contains (y ∷ xs) zero x e = (0, omega arith, cc e)
slice_get-Contains (y ∷ xs) (suc i) x e = let c = slice_get-Contains xs i x e in (suc c.0, omega (arith, c.1), c.2)

pub slice_get-All : {A : Type 0} (P : A → Type 0) (xs : List A) (i : ℕ) (x : A) → All P xs → slice_get xs i ≡ Some x → P x
slice_get-All P [] i x h e = absurd (cc e)
slice_get-All P (y ∷ xs) zero x h e = let same : y ≡ x = cc e in subst P same (h 0 x (omega arith))
slice_get-All P (y ∷ xs) (suc i) x h e = slice_get-All P xs i x (λ k d l. h (suc k) d (omega arith)) e

pub map_at : {A B : Type 0} (f : A → B) (xs : List A) (i : ℕ) (d : B) (e : A) → i < length xs → get_or (map f xs) i d ≡ f (get_or xs i e)
map_at f [] i d e l = absurd (omega arith)
map_at f (x ∷ xs) zero d e l = refl
map_at f (x ∷ xs) (suc i) d e l = map_at f xs i d e (omega arith)
