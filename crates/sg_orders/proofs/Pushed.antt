-- Lists that grow by one element, and rows that are read.
use Rattle.std.specs.Prelude.{◌≡◌, ℕ, ◌+◌, ◌<◌, List, [], ◌∷◌, ◌++◌, length}
use Rattle.std.proofs.Common.{sym, ◌∙◌, subst, get_or, arith, inl, inr}
use Rattle.std.proofs.lemmas.Bool.{cases_lt}
use Rattle.std.proofs.lemmas.List.{get_or_append_left, get_or_at, get_or_default}
use Rattle.std.proofs.lemmas.Option.{unwrap_or-slice_get}
use Rattle.sg_kinds.specs.Visits.{row_at}

-- what holds at each place, and of the element that is pushed
pub push_each : {A : Type 0} (xs more : List A) (d : A) (i : ℕ) (x : A) → length xs ≡ i → more ≡ xs ++ x ∷ [] → (P : ℕ → A → Type 0) → ((k : ℕ) → k < i → P k (get_or xs k d)) → P i x → (k : ℕ) → k < i + 1 → P k (get_or more k d)
push_each xs more d i x long push P old new k low = subst (λ ys. P k (get_or ys k d)) (sym push) (elim (cases_lt k i) [
  | inl under ↦ subst (P k) (sym (get_or_append_left xs (x ∷ []) d k (omega (arith, under, long)))) (old k under)
  | inr past ↦ let e : k ≡ i = omega (arith, low, past) in subst (P k) (sym (get_or_at xs x [] d k (long ∙ sym e))) (subst (λ j. P j x) (sym e) new)
])

pub row_is : {A : Type 0} (rows : List (List A)) (k : ℕ) → row_at rows k ≡ get_or rows k []
row_is rows k = unwrap_or-slice_get rows k []

-- what is read of a list of rows
pub row_read : {A : Type 0} (rows : List (List A)) (k : ℕ) (row : List A) → k < length rows → row ≡ get_or rows k row → row ≡ row_at rows k
row_read rows k row low is = is ∙ get_or_default rows k row [] low ∙ sym (row_is rows k)
