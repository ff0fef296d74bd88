-- The tokens of the first declarations.
use Rattle.std.proofs.Common.{◌≡◌, ◌≤◌, ◌<◌, ◌+◌, ◌-◌, ◌∙◌, ℕ, suc, List, [], ◌∷◌, length, drop, ap, refl, arith, subst, sym}
use Rattle.sg_text.specs.declared.tokens.Token.{Token}
use Rattle.sg_text.specs.Cut.{declaration_len, open_after}
use Rattle.sg_place.specs.Places.{behind}

pub declaration_within : (n : ℕ) (ts : List Token) → declaration_len n ts ≤ length ts
declaration_within n [] = omega arith
declaration_within n (t ∷ ts) = grind (arith, declaration_within (open_after n t.kind) ts)

behind_more : (m n : ℕ) (ts : List Token) → n ≡ suc m → behind n ts ≡ behind m (drop (declaration_len 0 ts) ts)
behind_more m n ts is = subst (λ k. behind k ts ≡ behind m (drop (declaration_len 0 ts) ts)) (sym is) refl

-- behind one declaration more
pub behind_step : (n k len : ℕ) (ts us : List Token) → k < n → len ≡ declaration_len 0 ts → behind (n - k) ts ≡ us → behind (n - (k + 1)) (drop len ts) ≡ us
behind_step n k len ts us more is so_far =
    ap (λ (l : ℕ). behind (n - (k + 1)) (drop l ts)) is ∙ (sym (behind_more (n - (k + 1)) (n - k) ts (omega (arith, more))) ∙ so_far)
