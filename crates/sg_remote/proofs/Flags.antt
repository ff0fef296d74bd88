-- Flags, beside the loops that put them up.
use Rattle.std.proofs.Common.{◌≡◌, ℕ, zero, suc, ◌+◌, ◌-◌, ◌<◌, ◌≤◌, Bool, true, false, List, [], ◌∷◌, length, set, refl, sym, ap, ◌∙◌, arith}
use Rattle.std.specs.Bool.{Decides}
use Rattle.std.specs.Cmp.Lexicographic.{pointwise}
use Rattle.std.proofs.lemmas.Slice.Eq.{slice_eq-Decides}
use Rattle.sg_remote.specs.Reach.{pass, passes}
use Rattle.sg_remote.specs.declared.reach.Edge.{Edge}
use mathlib.Core.Bool.{beq}

-- past the end there is no flag
pub set_past : (flags : List Bool) (k : ℕ) (b : Bool) → length flags ≤ k → flags ≡ set flags k b
set_past [] k b h = refl
set_past (f ∷ flags) zero b h = absurd (omega (arith, h))
set_past (f ∷ flags) (suc k) b h = ap (λ (l : List Bool). f ∷ l) (set_past flags k b (omega (arith, h)))

pub passes_more : {total : List Bool} (n i : ℕ) (es : List Edge) (flags next : List Bool) → i < n → next ≡ pass flags es → passes (n - i) es flags ≡ total → passes (n - (i + 1)) es next ≡ total
unfolding passes
passes_more n i es flags next low e so_far = let m : n - i ≡ suc (n - (i + 1)) = omega arith in ap (passes (n - (i + 1)) es) e ∙ ap (λ k. passes k es flags) (sym m) ∙ so_far

pub passes_end : {total : List Bool} (n i : ℕ) (es : List Edge) (flags : List Bool) → n ≤ i → passes (n - i) es flags ≡ total → flags ≡ total
unfolding passes
passes_end n i es flags all so_far = let m : n - i ≡ 0 = omega arith in sym (ap (λ k. passes k es flags) m) ∙ so_far

pub settled : (n : ℕ) (es : List Edge) (flags : List Bool) → pass flags es ≡ flags → passes n es flags ≡ flags
unfolding passes
settled zero es flags e = refl
settled (suc n) es flags e = ap (passes n es) e ∙ settled n es flags e

-- a pass that puts up nothing is the last
pub passes_same : {total : List Bool} (n : ℕ) (es : List Edge) (flags next : List Bool) → next ≡ pass flags es → next ≡ flags → passes n es flags ≡ total → flags ≡ total
passes_same n es flags next e same so_far = sym (settled n es flags (sym e ∙ same)) ∙ so_far

same_flag : (a b : Bool) → Decides (beq a b) (a ≡ b)
same_flag true true = (λ e. refl, λ e. refl)
same_flag true false = (λ e. absurd (cc e), λ e. absurd (cc e))
same_flag false true = (λ e. absurd (cc e), λ e. absurd (cc e))
same_flag false false = (λ e. refl, λ e. refl)

pub same_flags : (xs ys : List Bool) (r : Bool) → r ≡ pointwise beq xs ys → Decides r (xs ≡ ys)
same_flags xs ys r e = slice_eq-Decides same_flag xs ys r e
