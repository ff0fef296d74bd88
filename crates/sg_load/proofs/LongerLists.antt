-- Places, elements and counts of a list in a longer one.
use Rattle.std.proofs.Common.{◌≡◌, ℕ, zero, suc, ◌+◌, Bool, true, false, cond, List, [], ◌∷◌, ◌++◌, length, Some, slice_get, refl, sym, ap, ◌∙◌, arith}
use Rattle.std.specs.Prelude.{find}
use Rattle.std.specs.List.{position, position_from}
use Rattle.sg_names.proofs.Firsts.{from_zero}

-- a first place
from_more : {A : Type 0} (p : A → Bool) (i k : ℕ) (xs ys : List A) → position_from p i xs ≡ Some k → position_from p i (xs ++ ys) ≡ Some k
from_more p i k [] ys e = absurd (cc e)
from_more p i k (x ∷ xs) ys e = by (p x) e (from_more p (i + 1) k xs ys)
  where
    by : (b : Bool) → cond b (Some i) (position_from p (i + 1) xs) ≡ Some k → (position_from p (i + 1) xs ≡ Some k → position_from p (i + 1) (xs ++ ys) ≡ Some k)
        → cond b (Some i) (position_from p (i + 1) (xs ++ ys)) ≡ Some k
    by true e rest = e
    by false e rest = rest e

pub place_more : {A : Type 0} (p : A → Bool) (k : ℕ) (xs ys : List A) → position p xs ≡ Some k → position p (xs ++ ys) ≡ Some k
place_more p k xs ys e = from_zero p (xs ++ ys) ∙ from_more p 0 k xs ys (sym (from_zero p xs) ∙ e)

pub find_more : {A : Type 0} (p : A → Bool) (x : A) (xs ys : List A) → find p xs ≡ Some x → find p (xs ++ ys) ≡ Some x
find_more p x [] ys e = absurd (cc e)
find_more {A} p x (y ∷ xs) ys e = by (p y) e (find_more p x xs ys)
  where
    by : (b : Bool) → cond b (Some y) (find p xs) ≡ Some x → (find p xs ≡ Some x → find p (xs ++ ys) ≡ Some x) → cond b (Some y) (find p (xs ++ ys)) ≡ Some x
    by true e rest = e
    by false e rest = rest e

-- what is found stands at the first place
found_from : {A : Type 0} (p : A → Bool) (i k : ℕ) (xs : List A) → position_from p i xs ≡ Some k → (j : ℕ) × (k ≡ i + j) × (find p xs ≡ slice_get xs j)
found_from p i k [] e = absurd (cc e)
found_from {A} p i k (x ∷ xs) e = by (p x) refl e (found_from p (i + 1) k xs)
  where
    by : (b : Bool) → p x ≡ b → cond b (Some i) (position_from p (i + 1) xs) ≡ Some k → (position_from p (i + 1) xs ≡ Some k → (j : ℕ) × (k ≡ i + 1 + j) × (find p xs ≡ slice_get xs j))
        → (j : ℕ) × (k ≡ i + j) × (cond (p x) (Some x) (find p xs) ≡ slice_get (x ∷ xs) j)
    by true is e rest = let same : i ≡ k = cc e in (0, omega (arith, same), ap (λ c. cond c (Some x) (find p xs)) is)
    by false is e rest = let r = rest e in (suc r.0, (let far = r.1 in omega (arith, far)), ap (λ c. cond c (Some x) (find p xs)) is ∙ r.2)

pub found_at : {A : Type 0} (p : A → Bool) (k : ℕ) (xs : List A) → position p xs ≡ Some k → find p xs ≡ slice_get xs k
found_at p k xs e =
    let r = found_from p 0 k xs (sym (from_zero p xs) ∙ e) in
    let same : r.0 ≡ k = let far = r.1 in omega (arith, far) in
    r.2 ∙ ap (slice_get xs) same

-- a first place stands where an element passes
pub passes_at : {A : Type 0} (p : A → Bool) (x : A) (j : ℕ) (xs : List A) → slice_get xs j ≡ Some x → p x ≡ true → (k : ℕ) × (position p xs ≡ Some k)
passes_at p x j xs at is = let r = from 0 x j xs at is in (r.0, from_zero p xs ∙ r.1)
  where
    from : (i : ℕ) (x : _) (j : ℕ) (xs : List _) → slice_get xs j ≡ Some x → p x ≡ true → (k : ℕ) × (position_from p i xs ≡ Some k)
    from i x j [] at is = absurd (cc at)
    from i x j (y ∷ xs) at is = by (p y) refl j at (λ k. from (i + 1) x k xs)
      where
        by : (b : Bool) → p y ≡ b → (j : ℕ) → slice_get (y ∷ xs) j ≡ Some x → ((k : ℕ) → slice_get xs k ≡ Some x → p x ≡ true → (n : ℕ) × (position_from p (i + 1) xs ≡ Some n))
            → (n : ℕ) × (cond (p y) (Some i) (position_from p (i + 1) xs) ≡ Some n)
        by true test j at rest = (i, ap (λ c. cond c (Some i) (position_from p (i + 1) xs)) test)
        by false test zero at rest = let same : y ≡ x = cc at in absurd (cc (sym test ∙ ap p same ∙ is))
        by false test (suc k) at rest = let r = rest k at is in (r.0, ap (λ c. cond c (Some i) (position_from p (i + 1) xs)) test ∙ r.1)

-- an element of one of two lists
pub data Part {A : Type 0} (xs ys : List A) (k : ℕ) (x : A) : Type 0 where
  first : slice_get xs k ≡ Some x → Part xs ys k x
  second : (j : ℕ) → k ≡ length xs + j → slice_get ys j ≡ Some x → Part xs ys k x

pub part_of : {A : Type 0} (xs ys : List A) (k : ℕ) (x : A) → slice_get (xs ++ ys) k ≡ Some x → Part xs ys k x
part_of [] ys k x e = second k (omega arith) e
part_of (y ∷ xs) ys zero x e = first e
part_of (y ∷ xs) ys (suc k) x e = by (part_of xs ys k x e)
  where
    by : Part xs ys k x → Part (y ∷ xs) ys (suc k) x
    by (first at) = first at
    by (second j is at) = second j (omega (arith, is)) at
