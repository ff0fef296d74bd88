-- What `do` makes of what the transformations give.
use Rattle.std.specs.Prelude.{◌≡◌, refl, ℕ, Option, Some, None, slice_get, MatchOption}
use Rattle.std.proofs.Common.{sym, ap, ◌∙◌}
use Rattle.sg_kinds.specs.Fits.{Fits, MayHold}
use Rattle.sg_kinds.specs.Places.{Place}
use Rattle.sg_kinds.specs.Plain.{plain}
use Rattle.sg_kinds.specs.Terms.{Term, Leaf, Node}
use Rattle.sg_kinds.specs.ValueOf.{value_of}
use Rattle.sg_kinds.specs.Values.{Bytes, Truth, Number, Chars, Tree, Fault}
use Rattle.sg_kinds.specs.declared.marks.FaultKind.{FaultKind}
use Rattle.sg_kinds.specs.declared.marks.Shape.{Shape}
use Rattle.sg_kinds.specs.declared.marks.Shape.TheVariants.{Truths, Numbers, Texts, Lexemes, Ordinary, Optional, Listed, OptionalListed}
use Rattle.sg_kinds.specs.declared.spec.Phylum.{Phylum}
use Rattle.sg_kinds.specs.declared.spec.Spec.{Spec}
use Rattle.sg_matching.specs.Transformation.{Given, transformation}
use Rattle.sg_edits.specs.Choice.{Put, one}
use Rattle.sg_edits.specs.Edits.{by_given, by_outcome, phylum_in}

no_fault : (spec : Spec) (shape : Shape) (why : FaultKind) → MayHold spec shape (Fault why) → ⊥
no_fault spec Truths why h = h
no_fault spec Numbers why h = h
no_fault spec Texts why h = h
no_fault spec (Lexemes l) why h = h
no_fault spec Ordinary why h = h
no_fault spec Optional why h = h
no_fault spec Listed why h = h
no_fault spec OptionalListed why h = h

-- a term that fits has no fault as its value
pub outcome_put : (spec : Spec) (t : Term) (u : Place) (p : ℕ) (s : Term) → Fits spec s p → by_outcome spec t u p (value_of s) ≡ Put u (plain spec (value_of s) p) (one u)
outcome_put spec t u p (Leaf q (Truth b)) f = refl
outcome_put spec t u p (Leaf q (Number z)) f = refl
outcome_put spec t u p (Leaf q (Chars s)) f = refl
outcome_put spec t u p (Leaf q (Tree op vs)) f = refl
outcome_put spec t u p (Leaf q (Fault why)) f = absurd (by (slice_get spec.phyla p) f.1)
  where
    by : (o : Option Phylum) → MatchOption o ⊥ (λ (x : Phylum). MayHold spec x.shape (Fault why)) → ⊥
    by None h = h
    by (Some x) h = no_fault spec x.shape why h
outcome_put spec t u p (Node op n elided ts) f = refl

-- by the phylum that a term fits
pub given_is : (spec : Spec) (t x : Term) (u : Place) (p : ℕ) (name : Bytes) (given : Given) → phylum_in spec x ≡ p → transformation spec p name (value_of x) ≡ given
    → by_given spec t u p given ≡ by_given spec t u (phylum_in spec x) (transformation spec (phylum_in spec x) name (value_of x))
given_is spec t x u p name given phylum gives =
    ap (by_given spec t u p) (sym gives) ∙ ap (λ q. by_given spec t u q (transformation spec q name (value_of x))) (sym phylum)
