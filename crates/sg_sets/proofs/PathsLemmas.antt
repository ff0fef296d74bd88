-- Lemmas on paths.
use Rattle.std.proofs.Common.{ℕ, inl, inr, List, [], ◌∷◌, ◌++◌, sym, subst}
use Rattle.sg_sets.specs.Paths.{Leads, Path, Reaches, IsTransitive}

module _ (R : ℕ → ℕ → Type 0) where
  pub Leads-append : (a b c : ℕ) (xs ys : List ℕ) → Leads R a xs b → Leads R b ys c → Leads R a (xs ++ b ∷ ys) c
  Leads-append a b c [] ys p q = (p, q)
  Leads-append a b c (x ∷ xs) ys p q = (p.0, Leads-append x b c xs ys p.1 q)

  pub Path-append : (a b c : ℕ) → Path R a b → Path R b c → Path R a c
  Path-append a b c p q = (p.0 ++ b ∷ q.0, Leads-append a b c p.0 q.0 p.1 q.1)

  pub Reaches-step : (a b c : ℕ) → Reaches R a b → R b c → Reaches R a c
  Reaches-step a b c p q = elim p [
    | inl same ↦ inr ([], subst (λ v. R v c) (sym same) q)
    | inr path ↦ inr (Path-append a b c path ([], q))
  ]

  -- a relation that is transitive and holds R holds each path
  pub Path-least : (T : ℕ → ℕ → Type 0) → ((a b : ℕ) → R a b → T a b) → IsTransitive T → (a b : ℕ) (via : List ℕ) → Leads R a via b → T a b
  Path-least T holds trans a b [] p = holds a b p
  Path-least T holds trans a b (v ∷ via) p = trans a v b (holds a v p.0) (Path-least T holds trans v b via p.1)

  pub Reaches-then : (a b c : ℕ) → Reaches R a b → Reaches R b c → Reaches R a c
  Reaches-then a b c p q = elim p [
    | inl same ↦ subst (λ v. Reaches R v c) (sym same) q
    | inr path ↦ elim q [ inl same ↦ inr (subst (λ v. Path R a v) same path) | inr further ↦ inr (Path-append a b c path further) ]
  ]
