-- The longest form, from what each front of the text is.
use Rattle.std.proofs.Common.{◌≡◌, ℕ, zero, suc, ◌<◌, ◌≤◌, ◌⊎◌, List, ◌∷◌, length, take, refl, ap, sym, arith, Some, None, subst, inl, inr}
use Rattle.sg_text.specs.declared.tokens.Kind.{Kind}
use Rattle.sg_text.specs.Forms.{kind_of, longest_within, longest_form}

-- no front of at most n bytes has a form
within-none : (n : ℕ) (b : ℕ) (bs : List ℕ) → ((j : ℕ) → j < n → kind_of (b ∷ take j bs) ≡ None) → longest_within n (b ∷ bs) ≡ None
within-none zero b bs none = refl
within-none (suc n) b bs none = rw (none n (omega arith)) (within-none n b bs (λ j h. none j (omega arith)))

-- of the fronts of at most n bytes, the one of k + 1 bytes is the longest that has a form
within-is : (n k : ℕ) (b : ℕ) (bs : List ℕ) (kind : Kind) → k < n → kind_of (b ∷ take k bs) ≡ Some kind → ((j : ℕ) → k < j → j < n → kind_of (b ∷ take j bs) ≡ None) → longest_within n (b ∷ bs) ≡ Some (kind, suc k)
within-is zero k b bs kind h is none = absurd (omega arith)
within-is (suc n) k b bs kind h is none =
    let cases : (k ≡ n) ⊎ (k < n) = grind arith in
    elim cases [
      | inl e ↦ let here : kind_of (b ∷ take n bs) ≡ Some kind = subst (λ i. kind_of (b ∷ take i bs) ≡ Some kind) e is in rw here (ap (λ i. Some (kind, suc i)) (sym e))
      | inr less ↦ rw (none n less (omega arith)) (within-is n k b bs kind less is (λ j p q. none j p (omega arith)))
    ]

-- the longest form has k + 1 bytes
pub longest_form-is : (k : ℕ) (b : ℕ) (bs : List ℕ) (kind : Kind) → k ≤ length bs → kind_of (b ∷ take k bs) ≡ Some kind → ((j : ℕ) → k < j → j ≤ length bs → kind_of (b ∷ take j bs) ≡ None) → longest_form (b ∷ bs) ≡ Some (kind, suc k)
unfolding longest_form
longest_form-is k b bs kind h is none = within-is (suc (length bs)) k b bs kind (omega arith) is (λ j p q. none j p (omega arith))

-- there is none
pub longest_form-none : (b : ℕ) (bs : List ℕ) → ((j : ℕ) → j ≤ length bs → kind_of (b ∷ take j bs) ≡ None) → longest_form (b ∷ bs) ≡ None
unfolding longest_form
longest_form-none b bs none = within-none (suc (length bs)) b bs (λ j h. none j (omega arith))
