-- How one equation's pairs are added.
use Rattle.std.specs.Prelude.{◌≡◌, ◌↔◌, ◌⊎◌, ℕ, ◌+◌, Bool, List}
use Rattle.std.proofs.Common.{sym, ◌∙◌, ap, get_or, arith, inl, inr}
use Rattle.std.proofs.lemmas.Bool.{cases_lt}
use Rattle.sg_sets.specs.Rows.{Holds}
use Rattle.sg_kinds.specs.declared.spec.Rule.{Rule}
use Rattle.sg_dependencies.specs.Frames.{Frame, number_in}
use Rattle.sg_dependencies.specs.Rounds.{IsNamed}

pub named_more : (start now next : List (List Bool)) (frame : Frame) (rule : Rule) (i a b : ℕ) → ((m n : ℕ) → Holds now m n ↔ (Holds start m n ⊎ IsNamed frame rule i m n)) → ((x y : ℕ) → Holds next x y ↔ (Holds now x y ⊎ ((x ≡ a) × (y ≡ b))))
    → a ≡ number_in frame (get_or rule.args i rule.target) → b ≡ number_in frame rule.target → (m n : ℕ) → Holds next m n ↔ (Holds start m n ⊎ IsNamed frame rule (i + 1) m n)
named_more start now next frame rule i a b old gains from to m n = (
  λ h. elim ((gains m n).0 h) [
    | inl was ↦ elim ((old m n).0 was) [
      | inl first ↦ inl first
      | inr named ↦ inr (record { place = named.place; low = let l = named.low in omega (arith, l); from = named.from; to = named.to })
    ]
    | inr is ↦ inr (record { place = i; low = omega arith; from = sym from ∙ sym is.0; to = sym to ∙ sym is.1 })
  ],
  λ h. elim h [
    | inl first ↦ (gains m n).1 (inl ((old m n).1 (inl first)))
    | inr named ↦ elim (cases_lt named.place i) [
      | inl low ↦ (gains m n).1 (inl ((old m n).1 (inr (record { place = named.place; low = low; from = named.from; to = named.to }))))
      | inr past ↦
          let l = named.low in
          let here : named.place ≡ i = omega (arith, l, past) in
          (gains m n).1 (inr (sym named.from ∙ ap (λ k. number_in frame (get_or rule.args k rule.target)) here ∙ sym from, sym named.to ∙ sym to))
    ]
  ],
)

pub named_none : (start : List (List Bool)) (frame : Frame) (rule : Rule) (m n : ℕ) → Holds start m n ↔ (Holds start m n ⊎ IsNamed frame rule 0 m n)
named_none start frame rule m n = (λ h. inl h, λ h. elim h [ inl first ↦ first | inr named ↦ absurd (let l = named.low in omega (arith, l)) ])
