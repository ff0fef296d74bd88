-- Lemmas on the rest of a word: its bits from that of a number on.
use Rattle.std.proofs.Common.{◌≡◌, ◌≢◌, ℕ, ◌+◌, ◌-◌, ◌/◌, ◌%◌, ◌^◌, ◌<◌, ◌≤◌, inl, inr, true, false, List, get_or, nat_eq, sym, ap, ◌∙◌, arith}
use Rattle.std.specs.Int.{bit_at, w64, trailing_zeros}
use Rattle.std.proofs.Math.Nat.{div-le_self}
use Rattle.std.proofs.lemmas.Bool.{cases_lt, false≢true}
use Rattle.std.proofs.lemmas.Nat.{shr-shr}
use Rattle.std.proofs.lemmas.Nat.Bits.{bit_at-zero, bit_at_above, bit_at-trailing_zeros}
use Rattle.sg_sets.specs.Members.{Has, IsNext}
use Rattle.sg_sets.specs.Words.{bit, bits_of, IsPacked}
use Rattle.sg_sets.proofs.WordsLemmas.{has-packed}

abbrev rest : List ℕ → ℕ → ℕ
rest words at = get_or words (at / 64) 0 / 2 ^ (at % 64)

-- bit i of the rest is that i places behind
bit-rest : (words : List ℕ) (at i : ℕ) → at % 64 + i < 64 → nat_eq (bit_at (rest words at) i) 1 ≡ bit words (at + i)
bit-rest words at i h =
    let k : (at + i) / 64 ≡ at / 64 = omega (arith, h) in
    let j : (at + i) % 64 ≡ at % 64 + i = omega (arith, h) in
    ap (λ x. nat_eq (x % 2) 1) (shr-shr (get_or words (at / 64) 0) (at % 64) i)
    ∙ ap (λ n. nat_eq (bit_at (get_or words n 0) (at % 64 + i)) 1) (sym k)
    ∙ ap (λ n. nat_eq (bit_at (get_or words ((at + i) / 64) 0) n) 1) (sym j)

-- where the rest is zero no number of the word is set from there on
pub rest-none : (words : List ℕ) (at : ℕ) → rest words at ≡ 0 → (a : ℕ) → at ≤ a → a < at + (64 - at % 64) → bit words a ≡ false
rest-none words at none a behind below =
    let within : at % 64 + (a - at) < 64 = omega (arith, behind, below) in
    let same : at + (a - at) ≡ a = omega (arith, behind) in
    ap (bit words) (sym same)
    ∙ sym (bit-rest words at (a - at) within)
    ∙ ap (λ w. nat_eq (bit_at w (a - at)) 1) none
    ∙ ap (λ n. nat_eq n 1) (bit_at-zero (a - at))

module _ (words : List ℕ) (at : ℕ) (fits : get_or words (at / 64) 0 < 2 ^ 64) (some : rest words at ≢ 0) where
  lowest : (trailing_zeros w64 (rest words at) < 64) × (bit_at (rest words at) (trailing_zeros w64 (rest words at)) ≡ 1)
      × ((i : ℕ) → i < trailing_zeros w64 (rest words at) → bit_at (rest words at) i ≡ 0)
  lowest =
      let positive : 0 < rest words at = omega (arith, some) in
      let small : rest words at < 2 ^ 64 = omega (arith, fits, div-le_self (get_or words (at / 64) 0) (2 ^ (at % 64))) in
      bit_at-trailing_zeros w64 (rest words at) positive small

  pub rest-within : at % 64 + trailing_zeros w64 (rest words at) < 64
  rest-within = elim (cases_lt (at % 64 + trailing_zeros w64 (rest words at)) 64) [
    | inl low ↦ low
    | inr high ↦
        let none : bit_at (rest words at) (trailing_zeros w64 (rest words at)) ≡ 0 =
        ap (λ x. x % 2) (shr-shr (get_or words (at / 64) 0) (at % 64) (trailing_zeros w64 (rest words at)))
        ∙ bit_at_above (get_or words (at / 64) 0) 64 (at % 64 + trailing_zeros w64 (rest words at)) fits high in
        absurd (omega (arith, none, lowest.1))
  ]

  rest-found : bit words (at + trailing_zeros w64 (rest words at)) ≡ true
  rest-found = sym (bit-rest words at (trailing_zeros w64 (rest words at)) rest-within) ∙ ap (λ n. nat_eq n 1) lowest.1

  rest-least : (a : ℕ) → at ≤ a → bit words a ≡ true → at + trailing_zeros w64 (rest words at) ≤ a
  rest-least a behind there = elim (cases_lt a (at + trailing_zeros w64 (rest words at))) [
    | inr high ↦ high
    | inl low ↦
        let i : a - at < trailing_zeros w64 (rest words at) = omega (arith, behind, low) in
        let within : at % 64 + (a - at) < 64 = omega (arith, i, rest-within) in
        let same : at + (a - at) ≡ a = omega (arith, behind) in
        let none : bit words a ≡ false = ap (bit words) (sym same) ∙ sym (bit-rest words at (a - at) within) ∙ ap (λ n. nat_eq n 1) (lowest.2 (a - at) i) in
        absurd (false≢true (sym none ∙ there))
  ]

-- else the first one lies as many places behind as the rest has trailing zeros
pub next-found : (width : ℕ) (words : List ℕ) (from at : ℕ) → IsPacked width words → get_or words (at / 64) 0 < 2 ^ 64 → rest words at ≢ 0
    → from ≤ at → ((a : ℕ) → from ≤ a → a < at → ¬ (Has (bits_of width words) a))
    → IsNext (bits_of width words) from (at + trailing_zeros w64 (rest words at))
next-found width words from at p fits some behind before = record {
  member = has-packed width words (at + trailing_zeros w64 (rest words at)) p ∙ rest-found words at fits some;
  behind = omega (arith, behind);
  least = λ a later there. elim (cases_lt a at) [
    | inl low ↦ absurd (before a later low there)
    | inr high ↦ rest-least words at fits some a high (sym (has-packed width words a p) ∙ there)
  ];
}
