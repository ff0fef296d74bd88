-- Tables that are equal entry by entry are one.
use Rattle.std.proofs.Common.{◌≡◌, ℕ, Bool, List, nat_eq, Option, Some, None, refl, ap}
use Rattle.std.specs.Bool.{Decides}
use Rattle.std.specs.Cmp.Lexicographic.{pointwise}
use Rattle.std.specs.Option.{option_eq}
use Rattle.std.proofs.lemmas.Bool.Decides.{Decides-eqb}
use Rattle.std.proofs.lemmas.Slice.Eq.{slice_eq-Decides}

same_entry : (a b : Option ℕ) → Decides (option_eq nat_eq a b) (a ≡ b)
same_entry None None = (λ e. refl, λ e. refl)
same_entry None (Some b) = (λ e. absurd (cc e), λ e. absurd (cc e))
same_entry (Some a) None = (λ e. absurd (cc e), λ e. absurd (cc e))
same_entry (Some a) (Some b) = (λ e. ap (λ (n : ℕ). Some n) ((Decides-eqb a b).0 e), λ e. (Decides-eqb a b).1 (out e))
  where
    out : Some a ≡ Some b → a ≡ b
    out e = cc e

pub same_tables : (xs ys : List (Option ℕ)) (r : Bool) → r ≡ pointwise (option_eq nat_eq) xs ys → Decides r (xs ≡ ys)
same_tables xs ys r e = slice_eq-Decides same_entry xs ys r e
