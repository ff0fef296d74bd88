-- Lemmas on words that take in the bits of others, and on bits that two words share.
use Rattle.std.proofs.Common.{◌≡◌, ◌≢◌, ℕ, zero, suc, ◌+◌, ◌*◌, ◌/◌, ◌%◌, ◌^◌, ◌<◌, ◌≤◌, ◌⊎◌, inl, inr, Bool, true, false, not, List, length, get_or, set, nat_eq, bit_or, bit_and, refl, sym, ap, ◌∙◌, subst, arith, min, max}
use Rattle.std.specs.Prelude.{◌||◌, ◌&&◌}
use Rattle.std.specs.Int.{bit_at, w64, trailing_zeros}
use Rattle.std.proofs.lemmas.Bool.{cases_lt, cases_eq, false≢true}
use Rattle.std.proofs.lemmas.List.{get_or-set_same, get_or-set_other, get_or_past}
use Rattle.std.proofs.lemmas.Nat.Bits.{bit_at_or, bit_at_and, bit_at-lt, bit_at-zero, same_from_bits, bit_at-trailing_zeros, bit_at_above}
use Rattle.sg_sets.specs.Words.{bit, Gained, SharedBit}

-- the words below k have taken in those of the others, and the rest are as before
pub record Joined (k : ℕ) (start other now : List ℕ) : Type 0 where
  pub done : (j : ℕ) → j < k → get_or now j 0 ≡ bit_or (get_or start j 0) (get_or other j 0)
  pub rest : (j : ℕ) → k ≤ j → get_or now j 0 ≡ get_or start j 0

pub joined-none : (start other : List ℕ) → Joined 0 start other start
joined-none start other = record { done = λ j h. absurd (omega (arith, h)); rest = λ j h. refl }

pub joined-kept : (k : ℕ) (start other now : List ℕ) → Joined k start other now → bit_or (get_or now k 0) (get_or other k 0) ≡ get_or now k 0 → Joined (k + 1) start other now
joined-kept k start other now i e = record {
  done = λ j h. elim (cases_lt j k) [
    | inl low ↦ i.done j low
    | inr high ↦
        let is : j ≡ k = omega arith in
        let was : get_or now k 0 ≡ get_or start k 0 = i.rest k (omega arith) in
        rw is (sym e ∙ ap (λ w. bit_or w (get_or other k 0)) was)
  ];
  rest = λ j h. i.rest j (omega arith);
}

pub joined-set : (k word : ℕ) (start other now : List ℕ) → k < length now → Joined k start other now → word ≡ bit_or (get_or now k 0) (get_or other k 0) → Joined (k + 1) start other (set now k word)
joined-set k word start other now low i e = record {
  done = λ j h. elim (cases_lt j k) [
    | inl below ↦ let ne : j ≢ k = omega arith in get_or-set_other now k j word 0 ne ∙ i.done j below
    | inr high ↦
        let is : j ≡ k = omega arith in
        let was : get_or now k 0 ≡ get_or start k 0 = i.rest k (omega arith) in
        rw is (get_or-set_same now k word 0 low ∙ e ∙ ap (λ w. bit_or w (get_or other k 0)) was)
  ];
  rest = λ j h. let ne : j ≢ k = omega arith in get_or-set_other now k j word 0 ne ∙ i.rest j (omega arith);
}

-- a bit of two numbers joined
or-flags : (x y : ℕ) → x < 2 → y < 2 → nat_eq (max x y) 1 ≡ (nat_eq x 1 || nat_eq y 1)
or-flags zero zero h k = refl
or-flags zero (suc zero) h k = refl
or-flags (suc zero) zero h k = refl
or-flags (suc zero) (suc zero) h k = refl
or-flags zero (suc (suc y)) h k = absurd (omega (arith, k))
or-flags (suc zero) (suc (suc y)) h k = absurd (omega (arith, k))
or-flags (suc (suc x)) y h k = absurd (omega (arith, h))

pub flag-or : (x y i : ℕ) → nat_eq (bit_at (bit_or x y) i) 1 ≡ (nat_eq (bit_at x i) 1 || nat_eq (bit_at y i) 1)
flag-or x y i = ap (λ n. nat_eq n 1) (bit_at_or x y i) ∙ or-flags (bit_at x i) (bit_at y i) (bit_at-lt x i) (bit_at-lt y i)

pub bit-joined : (start other now : List ℕ) (k : ℕ) → Joined k start other now → length start ≤ k → length other ≤ k → (a : ℕ) → bit now a ≡ (bit start a || bit other a)
bit-joined start other now k i l m a = elim (cases_lt (a / 64) k) [
  | inl low ↦ ap (λ w. nat_eq (bit_at w (a % 64)) 1) (i.done (a / 64) low) ∙ flag-or (get_or start (a / 64) 0) (get_or other (a / 64) 0) (a % 64)
  | inr high ↦
      let past : length start ≤ a / 64 = omega arith in
      let none : get_or start (a / 64) 0 ≡ 0 = get_or_past start (a / 64) 0 past in
      let past' : length other ≤ a / 64 = omega arith in
      let none' : get_or other (a / 64) 0 ≡ 0 = get_or_past other (a / 64) 0 past' in
      let zero-flag : nat_eq (bit_at 0 (a % 64)) 1 ≡ false = ap (λ n. nat_eq n 1) (bit_at-zero (a % 64)) in
      rw (i.rest (a / 64) high, none, none', zero-flag) refl
]

-- the first number below n that passes, if there is one
below-search : (p : ℕ → Bool) (n : ℕ) → ((i : ℕ) → i < n → p i ≡ false) ⊎ ((i : ℕ) × (i < n) × (p i ≡ true))
below-search p zero = inl (λ i h. absurd (omega (arith, h)))
below-search p (suc n) = elim (below-search p n) [
  | inr found ↦ inr (found.0, omega (arith, found.1), found.2)
  | inl none ↦ at-last (p n) refl none
]
  where
    at-last : (b : Bool) → p n ≡ b → ((i : ℕ) → i < n → p i ≡ false) → ((i : ℕ) → i < suc n → p i ≡ false) ⊎ ((i : ℕ) × (i < suc n) × (p i ≡ true))
    at-last true e none = inr (n, omega arith, e)
    at-last false e none = inl (λ i h. elim (cases_lt i n) [ inl low ↦ none i low | inr high ↦ (let is : i ≡ n = omega arith in rw is e) ])

and-flags : (x y : ℕ) → x < 2 → y < 2 → nat_eq (min x y) 1 ≡ (nat_eq x 1 && nat_eq y 1)
and-flags zero zero h k = refl
and-flags zero (suc zero) h k = refl
and-flags (suc zero) zero h k = refl
and-flags (suc zero) (suc zero) h k = refl
and-flags zero (suc (suc y)) h k = absurd (omega (arith, k))
and-flags (suc zero) (suc (suc y)) h k = absurd (omega (arith, k))
and-flags (suc (suc x)) y h k = absurd (omega (arith, h))

flag-and : (x y i : ℕ) → nat_eq (bit_at (bit_and x y) i) 1 ≡ (nat_eq (bit_at x i) 1 && nat_eq (bit_at y i) 1)
flag-and x y i = ap (λ n. nat_eq n 1) (bit_at_and x y i) ∙ and-flags (bit_at x i) (bit_at y i) (bit_at-lt x i) (bit_at-lt y i)

and-parts : (p q : Bool) → (p && q) ≡ true → (p ≡ true) × (q ≡ true)
and-parts true true h = (refl, refl)
and-parts true false h = absurd (false≢true h)
and-parts false true h = absurd (false≢true h)
and-parts false false h = absurd (false≢true h)

and-both : (p q : Bool) → p ≡ true → q ≡ true → (p && q) ≡ true
and-both p q h k = rw (h, k) refl

-- where no bit of y is missing from x, x takes in nothing
or-same : (x y i : ℕ) → (nat_eq (bit_at y i) 1 && not (nat_eq (bit_at x i) 1)) ≡ false → bit_at (bit_or x y) i ≡ bit_at x i
or-same x y i h = bit_at_or x y i ∙ at (bit_at x i) (bit_at y i) (bit_at-lt x i) (bit_at-lt y i) h
  where
    at : (p q : ℕ) → p < 2 → q < 2 → (nat_eq q 1 && not (nat_eq p 1)) ≡ false → max p q ≡ p
    at zero zero l m h = refl
    at (suc zero) zero l m h = refl
    at (suc zero) (suc zero) l m h = refl
    at zero (suc zero) l m h = absurd (false≢true (sym h))
    at zero (suc (suc q)) l m h = absurd (omega (arith, m))
    at (suc zero) (suc (suc q)) l m h = absurd (omega (arith, m))
    at (suc (suc p)) q l m h = absurd (omega (arith, l))

not-true : (p : Bool) → not p ≡ true → p ≡ false
not-true true h = absurd (false≢true h)
not-true false h = refl

-- some bit of y is missing from x, where x takes in something
pub new-bit : (x y : ℕ) → y < 2 ^ 64 → bit_or x y ≢ x → (i : ℕ) × (i < 64) × (nat_eq (bit_at x i) 1 ≡ false) × (nat_eq (bit_at y i) 1 ≡ true)
new-bit x y m ne = elim (below-search (λ i. nat_eq (bit_at y i) 1 && not (nat_eq (bit_at x i) 1)) 64) [
  | inl none ↦ absurd (ne (same_from_bits (bit_or x y) x (λ i. elim (cases_lt i 64) [
    | inl low ↦ or-same x y i (none i low)
    | inr high ↦ or-same x y i (ap (λ n. nat_eq n 1 && not (nat_eq (bit_at x i) 1)) (bit_at_above y 64 i m high))
  ])))
  | inr found ↦
      let parts = and-parts (nat_eq (bit_at y found.0) 1) (not (nat_eq (bit_at x found.0) 1)) found.2 in
      (found.0, found.1, not-true (nat_eq (bit_at x found.0) 1) parts.1, parts.0)
]

-- bit i of word k
pub bit-in_word : (words : List ℕ) (k i : ℕ) → i < 64 → bit words (64 * k + i) ≡ nat_eq (bit_at (get_or words k 0) i) 1
bit-in_word words k i h =
    let q : (64 * k + i) / 64 ≡ k = omega arith in
    let r : (64 * k + i) % 64 ≡ i = omega arith in
    ap (λ n. nat_eq (bit_at (get_or words n 0) ((64 * k + i) % 64)) 1) q ∙ ap (λ n. nat_eq (bit_at (get_or words k 0) n) 1) r

pub gained-new : (start other : List ℕ) (k x y : ℕ) → x ≡ get_or start k 0 → y ≡ get_or other k 0 → y < 2 ^ 64 → bit_or x y ≢ x → Gained start other
gained-new start other k x y e f m ne =
    let found = new-bit x y m ne in (
      64 * k + found.0,
      bit-in_word start k found.0 found.1 ∙ ap (λ w. nat_eq (bit_at w found.0) 1) (sym e) ∙ found.2,
      bit-in_word other k found.0 found.1 ∙ ap (λ w. nat_eq (bit_at w found.0) 1) (sym f) ∙ found.3,
    )

-- a shared bit in word k is a bit of both words at once
pub shared-word : (words other : List ℕ) (a : ℕ) → SharedBit words other a → nat_eq (bit_at (bit_and (get_or words (a / 64) 0) (get_or other (a / 64) 0)) (a % 64)) 1 ≡ true
shared-word words other a s =
    flag-and (get_or words (a / 64) 0) (get_or other (a / 64) 0) (a % 64)
    ∙ and-both (bit words a) (bit other a) s.0 s.1

pub shared-none : (words other : List ℕ) (k both : ℕ) → both ≡ bit_and (get_or words k 0) (get_or other k 0) → both ≡ 0 → ((a : ℕ) → a / 64 < k → ¬ (SharedBit words other a)) → (a : ℕ) → a / 64 < k + 1 → ¬ (SharedBit words other a)
shared-none words other k both e z before a h = elim (cases_lt (a / 64) k) [
  | inl low ↦ before a low
  | inr high ↦ λ s.
      let is : a / 64 ≡ k = omega arith in
      let flag = subst (λ j. nat_eq (bit_at (bit_and (get_or words j 0) (get_or other j 0)) (a % 64)) 1 ≡ true) is (shared-word words other a s) in
      let none : nat_eq (bit_at (bit_and (get_or words k 0) (get_or other k 0)) (a % 64)) 1 ≡ false =
      ap (λ w. nat_eq (bit_at w (a % 64)) 1) (sym e ∙ z) ∙ ap (λ n. nat_eq n 1) (bit_at-zero (a % 64)) in
      absurd (false≢true (sym none ∙ flag))
]

pub shared-found : (words other : List ℕ) (k both : ℕ) → both ≡ bit_and (get_or words k 0) (get_or other k 0) → both ≢ 0 → both < 2 ^ 64 → SharedBit words other (64 * k + trailing_zeros w64 both)
shared-found words other k both e ne l =
    let some : 0 < both = omega arith in
    let low = bit_at-trailing_zeros w64 both some l in
    let flag : nat_eq (bit_at (bit_and (get_or words k 0) (get_or other k 0)) (trailing_zeros w64 both)) 1 ≡ true =
    ap (λ w. nat_eq (bit_at w (trailing_zeros w64 both)) 1) (sym e) ∙ ap (λ n. nat_eq n 1) low.1 in
    let parts = and-parts (nat_eq (bit_at (get_or words k 0) (trailing_zeros w64 both)) 1) (nat_eq (bit_at (get_or other k 0) (trailing_zeros w64 both)) 1)
    (sym (flag-and (get_or words k 0) (get_or other k 0) (trailing_zeros w64 both)) ∙ flag) in
    (bit-in_word words k (trailing_zeros w64 both) low.0 ∙ parts.0, bit-in_word other k (trailing_zeros w64 both) low.0 ∙ parts.1)

pub shared-least : (words other : List ℕ) (k both : ℕ) → both ≡ bit_and (get_or words k 0) (get_or other k 0) → both ≢ 0 → both < 2 ^ 64 → ((a : ℕ) → a / 64 < k → ¬ (SharedBit words other a)) → (a : ℕ) → SharedBit words other a → 64 * k + trailing_zeros w64 both ≤ a
shared-least words other k both e ne l before a s = elim (cases_lt (a / 64) k) [
  | inl low ↦ absurd (before a low s)
  | inr high ↦
      let some : 0 < both = omega arith in
      let low = bit_at-trailing_zeros w64 both some l in
      elim (cases_eq (a / 64) k) [
        | inr above ↦ let t = low.0 in omega (arith, t)
        | inl is ↦ elim (cases_lt (a % 64) (trailing_zeros w64 both)) [
          | inr h ↦ omega arith
          | inl h ↦
              let flag = subst (λ j. nat_eq (bit_at (bit_and (get_or words j 0) (get_or other j 0)) (a % 64)) 1 ≡ true) is (shared-word words other a s) in
              let none : nat_eq (bit_at (bit_and (get_or words k 0) (get_or other k 0)) (a % 64)) 1 ≡ false =
              ap (λ w. nat_eq (bit_at w (a % 64)) 1) (sym e) ∙ ap (λ n. nat_eq n 1) (low.2 (a % 64) h) in
              absurd (false≢true (sym none ∙ flag))
        ]
      ]
]
