-- Lemmas on bits in words.
use Rattle.std.proofs.Common.{◌≡◌, ◌≢◌, ℕ, ◌*◌, ◌/◌, ◌%◌, ◌^◌, ◌<◌, ◌≤◌, ◌⊎◌, inl, inr, Bool, true, false, List, length, get_or, set, replicate, nat_eq, bit_or, bit_and, refl, sym, ap, ◌∙◌, arith, length-set}
use Rattle.std.specs.Prelude.{◌||◌, ◌↔◌}
use Rattle.std.specs.Int.{bit_at, w64}
use Rattle.std.proofs.lemmas.Bool.{cases_lt, cases_eq}
use Rattle.std.proofs.lemmas.List.{get_or-set_same, get_or-set_other, get_or_past, get_or_default, get_or-replicate, length-replicate}
use Rattle.std.proofs.lemmas.List.FromFn.{length-map-range_with_len, get_or-map-range_with_len}
use Rattle.std.proofs.lemmas.Nat.Bits.{bit_at_set_same, bit_at_set_other, bit_at-zero, shr_and_one}
use Rattle.sg_sets.specs.Words.{bit, bits_of, IsPacked, Gained, SharedBit}
use Rattle.sg_sets.specs.Members.{has, Has, missing_of, Shared}
use Rattle.sg_sets.proofs.MembersLemmas.{has-past, same_flags, missing_of-lt}

pub length-bits_of : (width : ℕ) (words : List ℕ) → length (bits_of width words) ≡ width
length-bits_of width words = length-map-range_with_len (bit words) 0 width

pub has-bits_of : (width : ℕ) (words : List ℕ) (a : ℕ) → a < width → has (bits_of width words) a ≡ bit words a
has-bits_of width words a h = get_or-map-range_with_len (bit words) 0 width a a false h (omega arith)

-- packed words tell each flag, also past the width
pub has-packed : (width : ℕ) (words : List ℕ) (a : ℕ) → IsPacked width words → has (bits_of width words) a ≡ bit words a
has-packed width words a p = elim (cases_lt a width) [
  | inl low ↦ has-bits_of width words a low
  | inr high ↦
      let l : length (bits_of width words) ≤ a = omega (arith, length-bits_of width words) in
      has-past (bits_of width words) a l ∙ sym (p.clear a high)
]

-- the words with bit a set
abbrev pub with_bit : List ℕ → ℕ → List ℕ
with_bit words a = set words (a / 64) (bit_or (get_or words (a / 64) 0) (1 * 2 ^ (a % 64) % 2 ^ 64))

pub bit-with_bit_same : (words : List ℕ) (a : ℕ) → a / 64 < length words → bit (with_bit words a) a ≡ true
bit-with_bit_same words a h =
    let word : get_or (with_bit words a) (a / 64) 0 ≡ bit_or (get_or words (a / 64) 0) (1 * 2 ^ (a % 64) % 2 ^ 64) = get_or-set_same words (a / 64) _ 0 h in
    let within : a % 64 < 64 = omega arith in
    let one : bit_at (get_or (with_bit words a) (a / 64) 0) (a % 64) ≡ 1 = ap (λ w. bit_at w (a % 64)) word ∙ bit_at_set_same w64 (get_or words (a / 64) 0) (a % 64) within in
    ap (λ n. nat_eq n 1) one

pub bit-with_bit_other : (words : List ℕ) (a i : ℕ) → a / 64 < length words → i ≢ a → bit (with_bit words a) i ≡ bit words i
bit-with_bit_other words a i h ne = elim (cases_eq (i / 64) (a / 64)) [
  | inl same ↦
      let word : get_or (with_bit words a) (i / 64) 0 ≡ bit_or (get_or words (i / 64) 0) (1 * 2 ^ (a % 64) % 2 ^ 64) =
      rw same (get_or-set_same words (a / 64) _ 0 h) in
      let within : a % 64 < 64 = omega arith in
      let apart : i % 64 ≢ a % 64 = λ e. ne (omega (arith, same, e)) in
      ap (λ n. nat_eq n 1) (ap (λ w. bit_at w (i % 64)) word ∙ bit_at_set_other w64 (get_or words (i / 64) 0) (a % 64) within (i % 64) apart)
  | inr apart ↦ ap (λ w. nat_eq (bit_at w (i % 64)) 1) (get_or-set_other words (a / 64) (i / 64) _ 0 apart)
]

pub bits_of-with_bit : (width : ℕ) (words : List ℕ) (a : ℕ) → a < width → a / 64 < length words → bits_of width (with_bit words a) ≡ set (bits_of width words) a true
bits_of-with_bit width words a low h =
    let l : length (bits_of width (with_bit words a)) ≡ length (set (bits_of width words) a true) =
    length-bits_of width (with_bit words a) ∙ sym (length-set (bits_of width words) a true ∙ length-bits_of width words) in
    let inside : a < length (bits_of width words) = omega (arith, length-bits_of width words) in
    same_flags (bits_of width (with_bit words a)) (set (bits_of width words) a true) l (λ i under.
    let under' : i < width = omega (arith, length-bits_of width (with_bit words a), under) in
    elim (cases_eq i a) [
      | inl same ↦
          has-bits_of width (with_bit words a) i under'
          ∙ rw same (bit-with_bit_same words a h ∙ sym (get_or-set_same (bits_of width words) a true false inside))
      | inr apart ↦
          has-bits_of width (with_bit words a) i under'
          ∙ bit-with_bit_other words a i h apart
          ∙ sym (get_or-set_other (bits_of width words) a i true false apart ∙ has-bits_of width words i under')
    ])

pub packed-with_bit : (width : ℕ) (words : List ℕ) (a : ℕ) → a < width → a / 64 < length words → IsPacked width words → IsPacked width (with_bit words a)
packed-with_bit width words a low h p = record {
  small = p.small;
  room = omega (arith, length-set words (a / 64) (bit_or (get_or words (a / 64) 0) (1 * 2 ^ (a % 64) % 2 ^ 64)), p.room);
  tight = omega (arith, length-set words (a / 64) (bit_or (get_or words (a / 64) 0) (1 * 2 ^ (a % 64) % 2 ^ 64)), p.tight);
  clear = λ i past. let ne : i ≢ a = omega arith in bit-with_bit_other words a i h ne ∙ p.clear i past;
}

-- no bit is set in words of zeros
pub bit-zeros : (n a : ℕ) → bit (replicate n 0) a ≡ false
bit-zeros n a = elim (cases_lt (a / 64) n) [
  | inl low ↦ ap (λ w. nat_eq (bit_at w (a % 64)) 1) (get_or-replicate n (a / 64) 0 0 low) ∙ ap (λ k. nat_eq k 1) (bit_at-zero (a % 64))
  | inr high ↦
      let l : length (replicate n 0) ≤ a / 64 = rw (length-replicate {A = ℕ}) high in
      ap (λ w. nat_eq (bit_at w (a % 64)) 1) (get_or_past (replicate n 0) (a / 64) 0 l) ∙ ap (λ k. nat_eq k 1) (bit_at-zero (a % 64))
]

pub bits_of-zeros : (width n : ℕ) → bits_of width (replicate n 0) ≡ replicate width false
bits_of-zeros width n = same_flags (bits_of width (replicate n 0)) (replicate width false) (length-bits_of width (replicate n 0) ∙ sym (length-replicate width false)) (λ a under.
    let low : a < width = omega (arith, length-bits_of width (replicate n 0), under) in
    has-bits_of width (replicate n 0) a low ∙ bit-zeros n a ∙ sym (get_or-replicate width a false false low))

-- the test of a bit in the word that was read
pub bit-test : (words : List ℕ) (a word : ℕ) → a / 64 < length words → word ≡ get_or words (a / 64) word → nat_eq (bit_and (word / 2 ^ (a % 64)) 1) 1 ≡ bit words a
bit-test words a word h e =
    let same : word ≡ get_or words (a / 64) 0 = e ∙ get_or_default words (a / 64) word 0 h in
    ap (λ k. nat_eq k 1) (shr_and_one word (a % 64) ∙ ap (λ w. bit_at w (a % 64)) same)

pub or-cases : (p q : Bool) → (p || q) ≡ true → (p ≡ true) ⊎ (q ≡ true)
or-cases true q h = inl refl
or-cases false q h = inr h

pub or-left : (p q : Bool) → p ≡ true → (p || q) ≡ true
or-left p q h = rw h refl

pub or-right : (p q : Bool) → q ≡ true → (p || q) ≡ true
or-right true q h = refl
or-right false q h = h

or-none : (p q : Bool) → p ≡ false → q ≡ false → (p || q) ≡ false
or-none p q h k = rw (h, k) refl

-- words z that have just the bits of x and those of y
pub packed-joined : (width : ℕ) (x y z : List ℕ) → IsPacked width x → IsPacked width y → length z ≡ length x → ((a : ℕ) → bit z a ≡ (bit x a || bit y a)) → IsPacked width z
packed-joined width x y z p q l h = record {
  small = p.small;
  room = let r = p.room in omega (arith, l, r);
  tight = let t = p.tight in omega (arith, l, t);
  clear = λ a past. h a ∙ or-none (bit x a) (bit y a) (p.clear a past) (q.clear a past);
}

pub has-joined : (width : ℕ) (x y z : List ℕ) → IsPacked width x → IsPacked width y → IsPacked width z → ((a : ℕ) → bit z a ≡ (bit x a || bit y a)) → (a : ℕ) → Has (bits_of width z) a ↔ (Has (bits_of width x) a ⊎ Has (bits_of width y) a)
has-joined width x y z p q r h a = (
  λ has-z. elim (or-cases (bit x a) (bit y a) (sym (h a) ∙ sym (has-packed width z a r) ∙ has-z)) [
    | inl in-x ↦ inl (has-packed width x a p ∙ in-x)
    | inr in-y ↦ inr (has-packed width y a q ∙ in-y)
  ],
  λ has-xy. has-packed width z a r ∙ h a ∙ elim has-xy [
    | inl has-x ↦ or-left (bit x a) (bit y a) (sym (has-packed width x a p) ∙ has-x)
    | inr has-y ↦ or-right (bit x a) (bit y a) (sym (has-packed width y a q) ∙ has-y)
  ],
)

pub missing_of-joined : (width : ℕ) (x y z : List ℕ) → IsPacked width x → IsPacked width y → IsPacked width z → ((a : ℕ) → bit z a ≡ (bit x a || bit y a)) → Gained x y → missing_of (bits_of width z) < missing_of (bits_of width x)
missing_of-joined width x y z p q r h g =
    missing_of-lt (bits_of width x) (bits_of width z) (length-bits_of width x ∙ sym (length-bits_of width z)) (λ a has-x. (has-joined width x y z p q r h a).1 (inl has-x)) g.0
    (has-packed width x g.0 p ∙ g.1) (has-packed width z g.0 r ∙ h g.0 ∙ or-right (bit x g.0) (bit y g.0) g.2)

pub Shared-bits_of : (width : ℕ) (x y : List ℕ) (a : ℕ) → IsPacked width x → IsPacked width y → SharedBit x y a → Shared (bits_of width x) (bits_of width y) a
Shared-bits_of width x y a p q s = (has-packed width x a p ∙ s.0, has-packed width y a q ∙ s.1)

pub SharedBit-bits_of : (width : ℕ) (x y : List ℕ) (a : ℕ) → IsPacked width x → IsPacked width y → Shared (bits_of width x) (bits_of width y) a → SharedBit x y a
SharedBit-bits_of width x y a p q s = (sym (has-packed width x a p) ∙ s.0, sym (has-packed width y a q) ∙ s.1)

-- words that are packed for one width are as many
pub length-packed : (width : ℕ) (x y : List ℕ) → IsPacked width x → IsPacked width y → length x ≡ length y
length-packed width x y p q = let a = p.room in let b = p.tight in let c = q.room in let d = q.tight in omega (arith, a, b, c, d)
