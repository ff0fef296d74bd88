-- The items with which the entries begin.
use Rattle.std.proofs.Common.{◌≡◌, ℕ, zero, suc, ◌+◌, ◌<◌, inl, inr, sym, ap, ◌∙◌, subst, arith}
use Rattle.std.specs.Prelude.{Contains}
use Rattle.sg_lalr.specs.Items.{Item, item}
use Rattle.sg_lalr.specs.Automaton.{starts_from}
use Rattle.sg_lalr.proofs.RisingLemmas.{Contains-front, Contains-behind, Contains-cons, Contains-nil}

pub starts-from : (p n : ℕ) (i : Item) → Contains (starts_from p n) i → (k : ℕ) × (k < n) × (i ≡ item (p + k) 0)
starts-from p zero i c = absurd (Contains-nil i c)
starts-from p (suc n) i c = elim (Contains-cons (item p 0) (starts_from (suc p) n) i c) [
  | inl e ↦ (0, omega arith, sym e ∙ ap (λ m. item m 0) (let z : p ≡ p + 0 = omega arith in z))
  | inr r ↦ let h = starts-from (suc p) n i r in (suc h.0, (let l = h.1 in omega (arith, l)), h.2 ∙ ap (λ m. item m 0) (let z : suc p + h.0 ≡ p + suc h.0 = omega arith in z))
]

pub starts-has : (p n k : ℕ) → k < n → Contains (starts_from p n) (item (p + k) 0)
starts-has p zero k l = absurd (omega (arith, l))
starts-has p (suc n) zero l = subst (λ m. Contains (starts_from p (suc n)) (item m 0)) (let z : p ≡ p + 0 = omega arith in z) (Contains-front (item p 0) (starts_from (suc p) n))
starts-has p (suc n) (suc k) l =
    subst (λ m. Contains (starts_from p (suc n)) (item m 0)) (let z : suc p + k ≡ p + suc k = omega arith in z) (Contains-behind (item p 0) (starts_from (suc p) n) (item (suc p + k) 0) (starts-has (suc p) n k (omega (arith, l))))
