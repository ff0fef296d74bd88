-- Lemmas on bits that are set in the first of two words alone: those that it shares with the second turned over.
use Rattle.std.proofs.Common.{◌≡◌, ℕ, inl, inr, ◌/◌, ◌%◌, ◌-◌, ◌^◌, ◌<◌, true, false, List, length, get_or, map, bit_and, nat_eq, Fits, zero, suc, refl, sym, ap, ◌∙◌, arith}
use Rattle.std.specs.Int.{bit_at, bit_not, w64}
use Rattle.std.proofs.lemmas.Bool.{cases_lt, false≢true}
use Rattle.std.proofs.lemmas.List.{get_or-map, get_or_past}
use Rattle.std.proofs.lemmas.Nat.Bits.{bit_at_not, bit_at-lt, bit_at-zero}
use Rattle.sg_sets.specs.Words.{bit, bits_of, SharedBit, OutsideBit, IsPacked}
use Rattle.sg_sets.specs.Members.{Outside}
use Rattle.sg_sets.proofs.MembersLemmas.{not-has}
use Rattle.sg_sets.proofs.WordsLemmas.{has-packed}

-- each word turned over
abbrev pub flipped : List ℕ → List ℕ
flipped words = map (bit_not w64) words

-- each word is one
abbrev AreWords : List ℕ → Type 0
AreWords words = (k : ℕ) → Fits w64 (get_or words k 0)

pub bit-below : (words : List ℕ) (a : ℕ) → bit words a ≡ true → a / 64 < length words
bit-below words a h = elim (cases_lt (a / 64) (length words)) [
  | inl low ↦ low
  | inr past ↦
      let none : bit words a ≡ false = ap (λ w. nat_eq (bit_at w (a % 64)) 1) (get_or_past words (a / 64) 0 past) ∙ ap (λ n. nat_eq n 1) (bit_at-zero (a % 64)) in
      absurd (false≢true (sym none ∙ h))
]

turned : (p : ℕ) → p < 2 → (nat_eq p 1 ≡ false → nat_eq (1 - p) 1 ≡ true) × (nat_eq (1 - p) 1 ≡ true → nat_eq p 1 ≡ false)
turned zero l = (λ h. refl, λ h. refl)
turned (suc zero) l = (λ h. absurd (false≢true (sym h)), λ h. absurd (false≢true h))
turned (suc (suc p)) l = absurd (omega (arith, l))

module _ (other : List ℕ) (words-fit : AreWords other) (a : ℕ) (low : a / 64 < length other) where
  bit-flipped : bit (flipped other) a ≡ nat_eq (1 - bit_at (get_or other (a / 64) 0) (a % 64)) 1
  bit-flipped =
      let within : a % 64 < 64 = omega arith in
      let fits : get_or other (a / 64) 0 < 2 ^ 64 = omega (arith, words-fit (a / 64)) in
      ap (λ w. nat_eq (bit_at w (a % 64)) 1) (get_or-map (bit_not w64) other (a / 64) 0 0 low)
      ∙ ap (λ n. nat_eq n 1) (bit_at_not w64 (get_or other (a / 64) 0) (a % 64) fits within)

  pub flipped-yes : bit other a ≡ false → bit (flipped other) a ≡ true
  flipped-yes h = bit-flipped ∙ (turned (bit_at (get_or other (a / 64) 0) (a % 64)) (bit_at-lt (get_or other (a / 64) 0) (a % 64))).0 h

  pub flipped-no : bit (flipped other) a ≡ true → bit other a ≡ false
  flipped-no h = (turned (bit_at (get_or other (a / 64) 0) (a % 64)) (bit_at-lt (get_or other (a / 64) 0) (a % 64))).1 (sym bit-flipped ∙ h)

pub outside-shared : (words other : List ℕ) → AreWords other → length words ≡ length other → (a : ℕ) → OutsideBit words other a → SharedBit words (flipped other) a
outside-shared words other fit same a o =
    let low = bit-below words a o.0 in
    (o.0, flipped-yes other fit a (omega (arith, low, same)) o.1)

pub shared-outside : (words other : List ℕ) → AreWords other → length words ≡ length other → (a : ℕ) → SharedBit words (flipped other) a → OutsideBit words other a
shared-outside words other fit same a s =
    let low = bit-below words a s.0 in
    (s.0, flipped-no other fit a (omega (arith, low, same)) s.1)

pub Outside-bits_of : (width : ℕ) (x y : List ℕ) (a : ℕ) → IsPacked width x → IsPacked width y → OutsideBit x y a → Outside (bits_of width x) (bits_of width y) a
Outside-bits_of width x y a p q s = (has-packed width x a p ∙ s.0, λ h. false≢true (sym (has-packed width y a q ∙ s.1) ∙ h))

pub OutsideBit-bits_of : (width : ℕ) (x y : List ℕ) (a : ℕ) → IsPacked width x → IsPacked width y → Outside (bits_of width x) (bits_of width y) a → OutsideBit x y a
OutsideBit-bits_of width x y a p q s = (sym (has-packed width x a p) ∙ s.0, sym (has-packed width y a q) ∙ not-has (bits_of width y) a s.1)

pub word-flipped : (words other : List ℕ) (k : ℕ) → k < length other → bit_and (get_or words k 0) (bit_not w64 (get_or other k 0)) ≡ bit_and (get_or words k 0) (get_or (flipped other) k 0)
word-flipped words other k low = ap (bit_and (get_or words k 0)) (sym (get_or-map (bit_not w64) other k 0 0 low))
