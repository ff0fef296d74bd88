-- Flags, beside the loops that put them up.
use Rattle.std.proofs.Common.{◌≡◌, ℕ, zero, suc, ◌+◌, ◌-◌, ◌<◌, ◌≤◌, Bool, true, false, cond, List, [], ◌∷◌, length, set, drop, get_or, Option, refl, sym, ap, ◌∙◌, arith, add-one}
use Rattle.std.specs.Bool.{Decides}
use Rattle.std.specs.Cmp.Lexicographic.{pointwise}
use Rattle.std.proofs.lemmas.Slice.Eq.{slice_eq-Decides}
use Rattle.sg_kinds.specs.declared.spec.Operator.{Operator}
use Rattle.sg_kinds.specs.declared.fault.SpecFault.{SpecFault}
use Rattle.sg_kinds.proofs.Kids.{drop_more}
use Rattle.sg_names.specs.declared.table.Table.{Table}
use Rattle.sg_schemes.specs.ShownFlags.{pass, passes, is_missing, fault_at, missing_from}
use mathlib.Core.Bool.{beq}

-- past the end there is no flag
pub set_past : (flags : List Bool) (k : ℕ) (b : Bool) → length flags ≤ k → flags ≡ set flags k b
set_past [] k b h = refl
set_past (f ∷ flags) zero b h = absurd (omega (arith, h))
set_past (f ∷ flags) (suc k) b h = ap (λ (l : List Bool). f ∷ l) (set_past flags k b (omega (arith, h)))

pub passes_none : (n : ℕ) (ops : List Operator) (flags start : List Bool) → flags ≡ start → passes (n - 0) ops flags ≡ passes n ops start
passes_none n ops flags start e = let m : n - 0 ≡ n = omega arith in rw m (ap (passes n ops) e)

pub passes_more : {total : List Bool} (n i : ℕ) (ops : List Operator) (flags next : List Bool) → i < n → next ≡ pass flags ops → passes (n - i) ops flags ≡ total → passes (n - (i + 1)) ops next ≡ total
unfolding passes
passes_more n i ops flags next low e so_far = let m : n - i ≡ suc (n - (i + 1)) = omega arith in ap (passes (n - (i + 1)) ops) e ∙ ap (λ k. passes k ops flags) (sym m) ∙ so_far

pub passes_end : {total : List Bool} (n i : ℕ) (ops : List Operator) (flags : List Bool) → n ≤ i → passes (n - i) ops flags ≡ total → flags ≡ total
unfolding passes
passes_end n i ops flags all so_far = let m : n - i ≡ 0 = omega arith in sym (ap (λ k. passes k ops flags) m) ∙ so_far

pub settled : (n : ℕ) (ops : List Operator) (flags : List Bool) → pass flags ops ≡ flags → passes n ops flags ≡ flags
unfolding passes
settled zero ops flags e = refl
settled (suc n) ops flags e = ap (passes n ops) e ∙ settled n ops flags e

-- a pass that shows nothing new is the last
pub passes_same : {total : List Bool} (n : ℕ) (ops : List Operator) (flags next : List Bool) → next ≡ pass flags ops → next ≡ flags → passes n ops flags ≡ total → flags ≡ total
passes_same n ops flags next e same so_far = sym (settled n ops flags (sym e ∙ same)) ∙ so_far

same_flag : (a b : Bool) → Decides (beq a b) (a ≡ b)
same_flag true true = (λ e. refl, λ e. refl)
same_flag true false = (λ e. absurd (cc e), λ e. absurd (cc e))
same_flag false true = (λ e. absurd (cc e), λ e. absurd (cc e))
same_flag false false = (λ e. refl, λ e. refl)

pub same_flags : (xs ys : List Bool) (r : Bool) → r ≡ pointwise beq xs ys → Decides r (xs ≡ ys)
same_flags xs ys r e = slice_eq-Decides same_flag xs ys r e

-- an operator that is not missing is passed over
pub missing_more : {whole : Option SpecFault} (t : Table) (shown given : List Bool) (ops : List Operator) (k : ℕ) (o : Operator) → k < length ops → o ≡ get_or ops k o → is_missing shown given k o ≡ false
    → missing_from t shown given k (drop k ops) ≡ whole → missing_from t shown given (k + 1) (drop (k + 1) ops) ≡ whole
missing_more t shown given ops k o low here fits so_far =
    ap (λ n. missing_from t shown given n (drop (k + 1) ops)) (add-one k)
    ∙ ap (λ b. cond b (fault_at t k o) (missing_from t shown given (suc k) (drop (k + 1) ops))) (sym fits)
    ∙ ap (missing_from t shown given k) (sym (drop_more ops k o low here)) ∙ so_far
