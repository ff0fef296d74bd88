-- Where lines begin and end, and the positions of cells.
use Rattle.std.specs.Prelude.{◌≡◌, refl, ℕ, zero, suc, ◌+◌, ◌-◌, ◌<◌, ◌≤◌, ◌⊎◌, Bool, true, false, cond, not, nat_lt, if◌then◌else◌, List, [], ◌∷◌, ◌++◌, length, take, drop, reverse, find, slice_get, Option, Some, None}
use Rattle.std.specs.List.{slice_split, onto_first, count_by, take_while, range_with_len}
use Rattle.std.specs.List.Sorted.{IsNonDecreasingBy}
use Rattle.std.proofs.Common.{sym, ap, ◌∙◌, subst, arith, get_or, inl, inr, add-one}
use Rattle.std.proofs.Math.Seq.{take-suc, get_or-append_seam}
use Rattle.std.proofs.lemmas.List.{append-nil, length-take-le, reverse-append, get_or_append_left}
use Rattle.std.proofs.lemmas.List.Sums.{take_while-cons, sum_by-cons, count_by_more_yes, count_by_more_no}
use Rattle.std.proofs.lemmas.Bool.{lt-ltb, le-ltb, cases_lt, cases_Bool, both_ways, eq-eqb, false_from_ne_true, ne_eqb}
use Rattle.sg_kinds.specs.Values.{Bytes}
use Rattle.sg_unparse.specs.Page.{is_newline}
use Rattle.sg_unparse.specs.Sheet.{starts_from}

-- how many of the first numbers are at most k, and the last of these
abbrev pub passed : ℕ → List ℕ → ℕ
passed k [] = 0
passed k (x ∷ xs) = if nat_lt k x then 0 else suc (passed k xs)

pub passed_stops : (k x : ℕ) (xs : List ℕ) → k < x → passed k (x ∷ xs) ≡ 0
passed_stops k x xs h = ap (λ t. if t then 0 else suc (passed k xs)) (lt-ltb k x h)

pub passed_more : (k x : ℕ) (xs : List ℕ) → x ≤ k → passed k (x ∷ xs) ≡ suc (passed k xs)
passed_more k x xs h = ap (λ t. if t then 0 else suc (passed k xs)) (le-ltb k x h)

pub passed_within : (k : ℕ) (xs : List ℕ) → passed k xs ≤ length xs
passed_within k [] = omega arith
passed_within k (x ∷ xs) = elim (cases_lt k x) [
  | inl h ↦ (let e = passed_stops k x xs h in omega (arith, e))
  | inr h ↦ (let e = passed_more k x xs h in let i = passed_within k xs in omega (arith, e, i))
]

-- those that passed are at most k, and the next one is not
pub passed_below : (k : ℕ) (xs : List ℕ) (i d : ℕ) → i < passed k xs → get_or xs i d ≤ k
passed_below k [] i d h = absurd (omega (arith, h))
passed_below k (x ∷ xs) zero d h = elim (cases_lt k x) [
  | inl l ↦ (let e = passed_stops k x xs l in absurd (omega (arith, e, h)))
  | inr l ↦ l
]
passed_below k (x ∷ xs) (suc i) d h = elim (cases_lt k x) [
  | inl l ↦ (let e = passed_stops k x xs l in absurd (omega (arith, e, h)))
  | inr l ↦ (let e = passed_more k x xs l in passed_below k xs i d (omega (arith, e, h)))
]

pub passed_next : (k : ℕ) (xs : List ℕ) (d : ℕ) → passed k xs < length xs → k < get_or xs (passed k xs) d
passed_next k [] d h = absurd (omega (arith, h))
passed_next k (x ∷ xs) d h = elim (cases_lt k x) [
  | inl l ↦ subst (λ n. k < get_or (x ∷ xs) n d) (sym (passed_stops k x xs l)) l
  | inr l ↦ (let e = passed_more k x xs l in subst (λ n. k < get_or (x ∷ xs) n d) (sym e) (passed_next k xs d (omega (arith, e, h))))
]

pub passed_is : (k : ℕ) (xs : List ℕ) (p : ℕ) → p ≤ length xs → ((i d : ℕ) → i < p → get_or xs i d ≤ k) → ((i d : ℕ) → p ≤ i → i < length xs → k < get_or xs i d) → passed k xs ≡ p
passed_is k xs p within low high = elim (cases_lt (passed k xs) p) [
  | inl l ↦ (let a = low (passed k xs) 0 l in let b = passed_next k xs 0 (omega (arith, l, within)) in omega (arith, a, b))
  | inr l ↦ by (cases_lt p (passed k xs)) l
]
  where
    by : (p < passed k xs) ⊎ (passed k xs ≤ p) → p ≤ passed k xs → passed k xs ≡ p
    by (inl m) l = (let a = passed_below k xs p 0 m in let w = passed_within k xs in let b = high p 0 (omega arith) (omega (arith, m, w)) in omega (arith, a, b))
    by (inr m) l = omega (arith, m, l)

-- lines begin behind the first byte, and at most behind the last one
later_step : (n i d : ℕ) (xs : List ℕ) (t : Bool) → ((j : ℕ) → j < length xs → suc n < get_or xs j d) → i < length (if t then suc n ∷ xs else xs) → n < get_or (if t then suc n ∷ xs else xs) i d
later_step n zero d xs true f h = omega arith
later_step n (suc i) d xs true f h = (let g = f i (omega (arith, h)) in omega (arith, g))
later_step n i d xs false f h = (let g = f i h in omega (arith, g))

pub later : (n : ℕ) (s : Bytes) (i d : ℕ) → i < length (starts_from n s) → n < get_or (starts_from n s) i d
later n [] i d h = absurd (omega (arith, h))
later n (b ∷ s) i d h = later_step n i d (starts_from (suc n) s) (is_newline b) (λ j l. later (suc n) s j d l) h

within_step : (n m i d : ℕ) (xs : List ℕ) (t : Bool) → ((j : ℕ) → j < length xs → get_or xs j d ≤ m) → suc n ≤ m → i < length (if t then suc n ∷ xs else xs) → get_or (if t then suc n ∷ xs else xs) i d ≤ m
within_step n m zero d xs true f l h = l
within_step n m (suc i) d xs true f l h = f i (omega (arith, h))
within_step n m i d xs false f l h = f i h

pub within : (n : ℕ) (s : Bytes) (i d : ℕ) → i < length (starts_from n s) → get_or (starts_from n s) i d ≤ n + length s
within n [] i d h = absurd (omega (arith, h))
within n (b ∷ s) i d h = within_step n (n + length (b ∷ s)) i d (starts_from (suc n) s) (is_newline b) (λ j l. (let g = within (suc n) s j d l in omega (arith, g))) (omega arith) h

rising_step : (n i j d : ℕ) (xs : List ℕ) (t : Bool) → ((a c : ℕ) → a < c → c < length xs → get_or xs a d < get_or xs c d) → ((c : ℕ) → c < length xs → suc n < get_or xs c d) → i < j → j < length (if t then suc n ∷ xs else xs) → get_or (if t then suc n ∷ xs else xs) i d < get_or (if t then suc n ∷ xs else xs) j d
rising_step n i zero d xs true f g l h = absurd (omega (arith, l))
rising_step n zero (suc j) d xs true f g l h = g j (omega (arith, h))
rising_step n (suc i) (suc j) d xs true f g l h = f i j (omega (arith, l)) (omega (arith, h))
rising_step n i j d xs false f g l h = f i j l h

pub rising : (n : ℕ) (s : Bytes) (i j d : ℕ) → i < j → j < length (starts_from n s) → get_or (starts_from n s) i d < get_or (starts_from n s) j d
rising n [] i j d l h = absurd (omega (arith, h))
rising n (b ∷ s) i j d l h = rising_step n i j d (starts_from (suc n) s) (is_newline b) (λ a c m k. rising (suc n) s a c d m k) (λ c k. later (suc n) s c d k) l h

pub starts_rise : (n : ℕ) (s : Bytes) → IsNonDecreasingBy (λ x. x) (starts_from n s)
starts_rise n s i j d l h = elim (cases_lt i j) [
  | inl m ↦ (let g = rising n s i j d m h in omega (arith, g))
  | inr m ↦ (let e : j ≡ i = omega (arith, l, m) in subst (λ k. get_or (starts_from n s) i d ≤ get_or (starts_from n s) k d) (sym e) (omega arith))
]

-- as many lines as there are newlines begin
count_more : (b : ℕ) (s : Bytes) → count_by is_newline (b ∷ s) ≡ cond (is_newline b) 1 0 + count_by is_newline s
count_more b s = sum_by-cons (λ x. cond (is_newline x) 1 0) b s

counted_step : (n : ℕ) (xs : List ℕ) (count : ℕ) (t : Bool) → length xs ≡ count → length (if t then suc n ∷ xs else xs) ≡ cond t 1 0 + count
counted_step n xs count true e = omega (arith, e)
counted_step n xs count false e = omega (arith, e)

pub starts_counted : (n : ℕ) (s : Bytes) → length (starts_from n s) ≡ count_by is_newline s
starts_counted n [] = refl
starts_counted n (b ∷ s) = counted_step n (starts_from (suc n) s) (count_by is_newline s) (is_newline b) (starts_counted (suc n) s) ∙ sym (count_more b s)

none_passed : (n m : ℕ) (s : Bytes) → m ≤ n → passed m (starts_from n s) ≡ 0
none_passed n m s l = passed_is m (starts_from n s) 0 (omega arith) (λ i d h. omega (arith, h)) (λ i d z h. (let g = later n s i d h in omega (arith, g, l)))

before_step : (n m : ℕ) (xs : List ℕ) (count : ℕ) (t : Bool) → suc n ≤ m → count ≡ passed m xs → cond t 1 0 + count ≡ passed m (if t then suc n ∷ xs else xs)
before_step n m xs count true l e = (let p = passed_more m (suc n) xs l in omega (arith, e, p))
before_step n m xs count false l e = omega (arith, e)

one_more : (n k : ℕ) → suc n + k ≡ n + suc k
one_more n k = omega arith

pub newlines_before : (n k : ℕ) (s : Bytes) → count_by is_newline (take k s) ≡ passed (n + k) (starts_from n s)
newlines_before n k [] = empty k
  where
    empty : (k : ℕ) → count_by is_newline (take k []) ≡ 0
    empty zero = refl
    empty (suc k) = refl
newlines_before n zero (b ∷ s) = sym (none_passed n (n + 0) (b ∷ s) (omega arith))
newlines_before n (suc k) (b ∷ s) = count_more b (take k s) ∙ before_step n (n + suc k) (starts_from (suc n) s) (count_by is_newline (take k s)) (is_newline b) (omega arith) (newlines_before (suc n) k s ∙ ap (λ i. passed i (starts_from (suc n) s)) (one_more n k))

-- the line in which a cell stands begins at it or before it
pub begun : (k : ℕ) (xs : List ℕ) → get_or (0 ∷ xs) (passed k xs) 0 ≤ k
begun k xs = by (passed k xs) refl
  where
    by : (p : ℕ) → passed k xs ≡ p → get_or (0 ∷ xs) p 0 ≤ k
    by zero e = omega arith
    by (suc p) e = passed_below k xs p 0 (omega (arith, e))

-- the cells since the last newline
abbrev pub since : Bytes → ℕ
since s = length (take_while (λ b. not (is_newline b)) (reverse s))

since_more : (s : Bytes) (b : ℕ) → since (s ++ b ∷ []) ≡ cond (not (is_newline b)) (suc (since s)) 0
since_more s b =
    ap (λ xs. length (take_while (λ c. not (is_newline c)) xs)) (reverse-append s (b ∷ []))
    ∙ ap length (take_while-cons (λ c. not (is_newline c)) b (reverse s))
    ∙ by (not (is_newline b))
  where
    by : (t : Bool) → length (cond t (b ∷ take_while (λ c. not (is_newline c)) (reverse s)) []) ≡ cond t (suc (since s)) 0
    by true = refl
    by false = refl

passed_at : (s : Bytes) (k : ℕ) → passed k (starts_from 0 s) ≡ count_by is_newline (take k s)
passed_at s k = (let e : k ≡ 0 + k = omega arith in ap (λ i. passed i (starts_from 0 s)) e) ∙ sym (newlines_before 0 k s)

since_step : (s : Bytes) (k : ℕ) → k < length s → since (take k s) ≡ k - get_or (0 ∷ starts_from 0 s) (passed k (starts_from 0 s)) 0 → (t : Bool) → is_newline (get_or s k 0) ≡ t → cond (not (is_newline (get_or s k 0))) (suc (since (take k s))) 0 ≡ suc k - get_or (0 ∷ starts_from 0 s) (passed (suc k) (starts_from 0 s)) 0
since_step s k h r true e =
    let xs = starts_from 0 s in
    let more : passed (suc k) xs ≡ passed k xs + 1 = passed_at s (suc k) ∙ ap (λ i. count_by is_newline (take i s)) (sym (add-one k)) ∙ count_by_more_yes is_newline s k 0 h e ∙ ap (λ n. n + 1) (sym (passed_at s k)) in
    let w = passed_within (suc k) xs in
    let low = passed_next k xs 0 (omega (arith, more, w)) in
    let high = passed_below (suc k) xs (passed k xs) 0 (omega (arith, more)) in
    let at : get_or (0 ∷ xs) (passed (suc k) xs) 0 ≡ get_or xs (passed k xs) 0 = ap (λ p. get_or (0 ∷ xs) p 0) (more ∙ add-one (passed k xs)) in
    ap (λ t. cond (not t) (suc (since (take k s))) 0) e ∙ omega (arith, at, low, high)
since_step s k h r false e =
    let xs = starts_from 0 s in
    let same : passed (suc k) xs ≡ passed k xs = passed_at s (suc k) ∙ ap (λ i. count_by is_newline (take i s)) (sym (add-one k)) ∙ count_by_more_no is_newline s k 0 h e ∙ sym (passed_at s k) in
    let at : get_or (0 ∷ xs) (passed (suc k) xs) 0 ≡ get_or (0 ∷ xs) (passed k xs) 0 = ap (λ p. get_or (0 ∷ xs) p 0) same in
    let b = begun k xs in
    ap (λ t. cond (not t) (suc (since (take k s))) 0) e ∙ omega (arith, at, b, r)

pub cells_since : (s : Bytes) (k : ℕ) → k ≤ length s → since (take k s) ≡ k - get_or (0 ∷ starts_from 0 s) (passed k (starts_from 0 s)) 0
cells_since s zero h = omega arith
cells_since s (suc k) h = ap since (take-suc s k 0 (omega (arith, h))) ∙ since_more (take k s) (get_or s k 0) ∙ since_step s k (omega (arith, h)) (cells_since s k (omega (arith, h))) (is_newline (get_or s k 0)) refl

-- where lines end: before each newline, and behind the last byte
abbrev pub stops_from : ℕ → Bytes → List ℕ
stops_from n [] = n ∷ []
stops_from n (b ∷ s) = if is_newline b then n ∷ stops_from (suc n) s else stops_from (suc n) s

stops_step : (n i : ℕ) (es xs : List ℕ) (t : Bool) → ((j : ℕ) → j < length xs → get_or es j 0 ≡ get_or xs j 0 - 1) → i < length (if t then suc n ∷ xs else xs) → get_or (if t then n ∷ es else es) i 0 ≡ get_or (if t then suc n ∷ xs else xs) i 0 - 1
stops_step n zero es xs true f h = omega arith
stops_step n (suc i) es xs true f h = f i (omega (arith, h))
stops_step n i es xs false f h = f i h

pub stops_within : (n : ℕ) (s : Bytes) (i : ℕ) → i < length (starts_from n s) → get_or (stops_from n s) i 0 ≡ get_or (starts_from n s) i 0 - 1
stops_within n [] i h = absurd (omega (arith, h))
stops_within n (b ∷ s) i h = stops_step n i (stops_from (suc n) s) (starts_from (suc n) s) (is_newline b) (λ j l. stops_within (suc n) s j l) h

last_step : (n m : ℕ) (es xs : List ℕ) (t : Bool) → get_or es (length xs) 0 ≡ m → get_or (if t then n ∷ es else es) (length (if t then suc n ∷ xs else xs)) 0 ≡ m
last_step n m es xs true e = e
last_step n m es xs false e = e

pub stops_last : (n : ℕ) (s : Bytes) → get_or (stops_from n s) (length (starts_from n s)) 0 ≡ n + length s
stops_last n [] = omega arith
stops_last n (b ∷ s) = last_step n (n + length (b ∷ s)) (stops_from (suc n) s) (starts_from (suc n) s) (is_newline b) (stops_last (suc n) s ∙ one_more n (length s))

pub stops_later : (n : ℕ) (s : Bytes) (i : ℕ) → i ≤ length (starts_from n s) → get_or (n ∷ starts_from n s) i 0 ≤ get_or (stops_from n s) i 0
stops_later n s i h = elim (cases_lt i (length (starts_from n s))) [
  | inl l ↦ (let e = stops_within n s i l in by i l e)
  | inr l ↦ (let e : i ≡ length (starts_from n s) = omega (arith, l, h) in let g = stops_last n s in last i e (ap (λ k. get_or (stops_from n s) k 0) e ∙ g))
]
  where
    by : (j : ℕ) → j < length (starts_from n s) → get_or (stops_from n s) j 0 ≡ get_or (starts_from n s) j 0 - 1 → get_or (n ∷ starts_from n s) j 0 ≤ get_or (stops_from n s) j 0
    by zero l e = (let g = later n s 0 0 l in omega (arith, g, e))
    by (suc j) l e = (let g = rising n s j (suc j) 0 (omega arith) l in omega (arith, g, e))

    last : (j : ℕ) → j ≡ length (starts_from n s) → get_or (stops_from n s) j 0 ≡ n + length s → get_or (n ∷ starts_from n s) j 0 ≤ get_or (stops_from n s) j 0
    last zero l e = omega (arith, e)
    last (suc j) l e = (let g = within n s j 0 (omega (arith, l)) in omega (arith, g, e))

onto_head : (b : ℕ) (xss : List Bytes) (xs : Bytes) → slice_get xss 0 ≡ Some xs → slice_get (onto_first b xss) 0 ≡ Some (b ∷ xs)
onto_head b [] xs e = absurd (none_some xs e)
  where
    none_some : (xs : Bytes) → None ≡ Some xs → ⊥
    none_some xs e = (let P : Option Bytes → Type 0 = λ o. elim o [ None ↦ Unit {0} | Some y ↦ ⊥ ] in subst P e tt)
onto_head b (ys ∷ yss) xs e = ap (λ o. elim o [ None ↦ Some (b ∷ []) | Some zs ↦ Some (b ∷ zs) ]) e

onto_rest : (b : ℕ) (xss : List Bytes) (i : ℕ) → slice_get (onto_first b xss) (suc i) ≡ slice_get xss (suc i)
onto_rest b [] i = refl
onto_rest b (ys ∷ yss) i = refl

stops_begin : (n : ℕ) (s : Bytes) (j : ℕ) → j ≤ length (starts_from n s) → n ≤ get_or (n ∷ starts_from n s) j 0
stops_begin n s zero l = omega arith
stops_begin n s (suc j) l = (let g = later n s j 0 (omega (arith, l)) in omega (arith, g))

-- a line of bytes whose first one has a number
abbrev IsLine : ℕ → Bytes → List ℕ → List ℕ → List Bytes → ℕ → Type 0
IsLine n s es xs parts i = slice_get parts i ≡ Some (take (get_or es i 0 - get_or (n ∷ xs) i 0) (drop (get_or (n ∷ xs) i 0 - n) s))

line_step : (n b : ℕ) (s : Bytes) (i : ℕ) (t : Bool) → ((j : ℕ) → j ≤ length (starts_from (suc n) s) → IsLine (suc n) s (stops_from (suc n) s) (starts_from (suc n) s) (slice_split is_newline s) j) → i ≤ length (if t then suc n ∷ starts_from (suc n) s else starts_from (suc n) s) → IsLine n (b ∷ s) (if t then n ∷ stops_from (suc n) s else stops_from (suc n) s) (if t then suc n ∷ starts_from (suc n) s else starts_from (suc n) s) (cond t ([] ∷ slice_split is_newline s) (onto_first b (slice_split is_newline s))) i
line_step n b s zero true f h = (let e : 0 ≡ n - n = omega arith in ap (λ k. Some (take k (drop (n - n) (b ∷ s)))) e)
line_step n b s (suc j) true f h =
    let a = get_or (suc n ∷ starts_from (suc n) s) j 0 in
    let e = get_or (stops_from (suc n) s) j 0 in
    let low = stops_begin (suc n) s j (omega (arith, h)) in
    let less : suc (a - suc n) ≡ a - n = omega (arith, low) in
    f j (omega (arith, h)) ∙ ap (λ k. Some (take (e - a) (drop k (b ∷ s)))) less
line_step n b s zero false f h =
    let e = get_or (stops_from (suc n) s) 0 0 in
    let low = stops_later (suc n) s 0 (omega arith) in
    let none : suc n - suc n ≡ 0 = omega arith in
    let zero_is : 0 ≡ n - n = omega arith in
    let more : suc (e - suc n) ≡ e - n = omega (arith, low) in
    onto_head b (slice_split is_newline s) (take (e - suc n) s) (f 0 (omega arith) ∙ ap (λ k. Some (take (e - suc n) (drop k s))) none)
    ∙ ap (λ k. Some (take k (b ∷ s))) more ∙ ap (λ k. Some (take (e - n) (drop k (b ∷ s)))) zero_is
line_step n b s (suc j) false f h =
    let a = get_or (starts_from (suc n) s) j 0 in
    let e = get_or (stops_from (suc n) s) (suc j) 0 in
    let low = later (suc n) s j 0 (omega (arith, h)) in
    let less : suc (a - suc n) ≡ a - n = omega (arith, low) in
    onto_rest b (slice_split is_newline s) j ∙ f (suc j) h ∙ ap (λ k. Some (take (e - a) (drop k (b ∷ s)))) less

-- a line
pub line_there : (n : ℕ) (s : Bytes) (i : ℕ) → i ≤ length (starts_from n s) → slice_get (slice_split is_newline s) i ≡ Some (take (get_or (stops_from n s) i 0 - get_or (n ∷ starts_from n s) i 0) (drop (get_or (n ∷ starts_from n s) i 0 - n) s))
line_there n [] zero h = ap (λ k. Some (take k (drop (n - n) []))) nothing
  where
    nothing : 0 ≡ n - n
    nothing = omega arith
line_there n [] (suc i) h = absurd (omega (arith, h))
line_there n (b ∷ s) i h = line_step n b s i (is_newline b) (λ j l. line_there (suc n) s j l) h

-- what is found among numbers in order
found_step : (a : ℕ) (rest : Option ℕ) (t : Bool) → t ≡ false → cond t (Some a) rest ≡ rest
found_step a rest t e = ap (λ x. cond x (Some a) rest) e

pub found_none : (p : ℕ → Bool) (a n : ℕ) → ((j : ℕ) → p j ≡ true → ⊥) → find p (range_with_len a n) ≡ None
found_none p a zero h = refl
found_none p a (suc n) h = found_step a (find p (range_with_len (a + 1) n)) (p a) (false_from_ne_true (p a) (h a)) ∙ found_none p (a + 1) n h

pub found_one : (p : ℕ → Bool) (a n k : ℕ) → a ≤ k → k < a + n → p k ≡ true → ((j : ℕ) → p j ≡ true → j ≡ k) → find p (range_with_len a n) ≡ Some k
found_one p a zero k l h here only = absurd (omega (arith, l, h))
found_one p a (suc n) k l h here only = elim (cases_Bool (p a)) [
  | inl e ↦ ap (λ t. cond t (Some a) (find p (range_with_len (a + 1) n))) e ∙ ap Some (only a e)
  | inr e ↦ found_step a (find p (range_with_len (a + 1) n)) (p a) e ∙ found_one p (a + 1) n k (further a k l (λ same. both_ways (p a) e (ap p same ∙ here))) (omega (arith, h)) here only
]
  where
    further : (a k : ℕ) → a ≤ k → (a ≡ k → ⊥) → a + 1 ≤ k
    further a k l n = elim (cases_lt a k) [
      | inl m ↦ omega (arith, m)
      | inr m ↦ absurd (n (omega (arith, l, m)))
    ]

-- the cell behind a line's last one, its newline among them
pub after_within : (xs : List ℕ) (m j : ℕ) → j < length xs → get_or (xs ++ m ∷ []) j 0 ≡ get_or xs j 0
after_within xs m j h = get_or_append_left xs (m ∷ []) 0 j h

pub after_last : (xs : List ℕ) (m : ℕ) → get_or (xs ++ m ∷ []) (length xs) 0 ≡ m
after_last xs m = get_or-append_seam xs m [] 0

pub after_begun : (s : Bytes) (m j : ℕ) → length s ≤ m → j ≤ length (starts_from 0 s) → get_or (0 ∷ starts_from 0 s) j 0 ≤ get_or (starts_from 0 s ++ m ∷ []) j 0
after_begun s m j l h = elim (cases_lt j (length (starts_from 0 s))) [
  | inl i ↦ (let e = after_within (starts_from 0 s) m j i in let g = inner j i in omega (arith, e, g))
  | inr i ↦ (let same : j ≡ length (starts_from 0 s) = omega (arith, h, i) in let e = ap (λ k. get_or (starts_from 0 s ++ m ∷ []) k 0) same ∙ after_last (starts_from 0 s) m in let g = outer j h in omega (arith, e, g, l))
]
  where
    inner : (j : ℕ) → j < length (starts_from 0 s) → get_or (0 ∷ starts_from 0 s) j 0 ≤ get_or (starts_from 0 s) j 0
    inner zero i = omega arith
    inner (suc j) i = (let g = rising 0 s j (suc j) 0 (omega arith) i in omega (arith, g))

    outer : (j : ℕ) → j ≤ length (starts_from 0 s) → get_or (0 ∷ starts_from 0 s) j 0 ≤ length s
    outer zero i = omega arith
    outer (suc j) i = (let g = within 0 s j 0 (omega (arith, i)) in omega (arith, g))

pub after_at_most : (s : Bytes) (j : ℕ) → j ≤ length (starts_from 0 s) → get_or (starts_from 0 s ++ length s ∷ []) j 0 ≤ length s
after_at_most s j h = elim (cases_lt j (length (starts_from 0 s))) [
  | inl i ↦ (let e = after_within (starts_from 0 s) (length s) j i in let g = within 0 s j 0 i in omega (arith, e, g))
  | inr i ↦ (let same : j ≡ length (starts_from 0 s) = omega (arith, h, i) in let e = ap (λ k. get_or (starts_from 0 s ++ length s ∷ []) k 0) same ∙ after_last (starts_from 0 s) (length s) in omega (arith, e))
]

-- where a line stops
pub stop_is : (s : Bytes) (j : ℕ) → j ≤ length (starts_from 0 s) → get_or (stops_from 0 s) j 0 ≡ get_or (starts_from 0 s ++ suc (length s) ∷ []) j 0 - 1
stop_is s j h = elim (cases_lt j (length (starts_from 0 s))) [
  | inl i ↦ (let e = after_within (starts_from 0 s) (suc (length s)) j i in let g = stops_within 0 s j i in omega (arith, e, g))
  | inr i ↦
      let same : j ≡ length (starts_from 0 s) = omega (arith, h, i) in
      let e = ap (λ k. get_or (starts_from 0 s ++ suc (length s) ∷ []) k 0) same ∙ after_last (starts_from 0 s) (suc (length s)) in
      let g = ap (λ k. get_or (stops_from 0 s) k 0) same ∙ stops_last 0 s in
      omega (arith, e, g)
]

pub stop_there : (s : Bytes) (j : ℕ) → j ≤ length (starts_from 0 s) → 1 ≤ get_or (starts_from 0 s ++ suc (length s) ∷ []) j 0
stop_there s j h = elim (cases_lt j (length (starts_from 0 s))) [
  | inl i ↦ (let e = after_within (starts_from 0 s) (suc (length s)) j i in let g = later 0 s j 0 i in omega (arith, e, g))
  | inr i ↦ (let same : j ≡ length (starts_from 0 s) = omega (arith, h, i) in let e = ap (λ k. get_or (starts_from 0 s ++ suc (length s) ∷ []) k 0) same ∙ after_last (starts_from 0 s) (suc (length s)) in omega (arith, e))
]

pub stop_at_most : (s : Bytes) (j : ℕ) → j ≤ length (starts_from 0 s) → get_or (stops_from 0 s) j 0 ≤ length s
stop_at_most s j h = elim (cases_lt j (length (starts_from 0 s))) [
  | inl i ↦ (let e = stops_within 0 s j i in let g = within 0 s j 0 i in omega (arith, e, g))
  | inr i ↦ (let same : j ≡ length (starts_from 0 s) = omega (arith, h, i) in let e = ap (λ k. get_or (stops_from 0 s) k 0) same ∙ stops_last 0 s in omega (arith, e))
]

-- where lines begin in more and more of the bytes
starts_append : (n : ℕ) (s t : Bytes) → starts_from n (s ++ t) ≡ starts_from n s ++ starts_from (n + length s) t
starts_append n [] t = (let e : n ≡ n + 0 = omega arith in ap (λ k. starts_from k t) e)
starts_append n (b ∷ s) t = by (is_newline b) (starts_append (suc n) s t ∙ ap (λ k. starts_from (suc n) s ++ starts_from k t) e)
  where
    e : suc n + length s ≡ n + suc (length s)
    e = omega arith

    by : (c : Bool) → starts_from (suc n) (s ++ t) ≡ starts_from (suc n) s ++ starts_from (n + suc (length s)) t → (if c then suc n ∷ starts_from (suc n) (s ++ t) else starts_from (suc n) (s ++ t)) ≡ (if c then suc n ∷ starts_from (suc n) s else starts_from (suc n) s) ++ starts_from (n + suc (length s)) t
    by true h = ap (λ xs. suc n ∷ xs) h
    by false h = h

starts_next : (s : Bytes) (i : ℕ) → i < length s → starts_from 0 (take (i + 1) s) ≡ starts_from 0 (take i s) ++ starts_from i (get_or s i 0 ∷ [])
starts_next s i h =
    let long = length-take-le i s (omega (arith, h)) in
    let count : 0 + length (take i s) ≡ i = omega (arith, long) in
    ap (λ k. starts_from 0 (take k s)) (add-one i) ∙ ap (starts_from 0) (take-suc s i 0 h)
    ∙ starts_append 0 (take i s) (get_or s i 0 ∷ []) ∙ ap (λ k. starts_from 0 (take i s) ++ starts_from k (get_or s i 0 ∷ [])) count

pub starts_more : (s : Bytes) (i : ℕ) → i < length s → get_or s i 0 ≡ 10 → starts_from 0 (take (i + 1) s) ≡ starts_from 0 (take i s) ++ (i + 1) ∷ []
starts_more s i h e =
    starts_next s i h ∙ ap (λ (t : Bool). starts_from 0 (take i s) ++ (if t then suc i ∷ [] else [])) (eq-eqb (get_or s i 0) 10 e)
    ∙ ap (λ k. starts_from 0 (take i s) ++ k ∷ []) (sym (add-one i))

pub starts_stay : (s : Bytes) (i : ℕ) → i < length s → (get_or s i 0 ≡ 10 → ⊥) → starts_from 0 (take (i + 1) s) ≡ starts_from 0 (take i s)
starts_stay s i h n =
    starts_next s i h ∙ ap (λ (t : Bool). starts_from 0 (take i s) ++ (if t then suc i ∷ [] else [])) (ne_eqb (get_or s i 0) 10 n)
    ∙ append-nil (starts_from 0 (take i s))
