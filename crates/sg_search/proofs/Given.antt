-- What the transformations give at a term, and whether one applies.
use Rattle.std.specs.Prelude.{◌≡◌, refl, ℕ, ◌<◌, Bool, true, false, cond, ◌&&◌, ◌||◌, List, [], ◌∷◌, filter, Option, Some, None, slice_get, option_map, unwrap_or, is_some, MatchOption}
use Rattle.std.specs.List.{list_any, position_from}
use Rattle.std.specs.Option.{option_map_or}
use Rattle.std.proofs.Common.{sym, ap, ◌∙◌, subst, inl, inr}
use Rattle.sg_kinds.specs.Evaluation.{bound_by}
use Rattle.sg_kinds.specs.Fits.{Fits, AllFit, MayHold}
use Rattle.sg_kinds.specs.OfType.{IsOfType}
use Rattle.sg_kinds.specs.Outcome.{outcome_of}
use Rattle.sg_kinds.specs.Plain.{plain}
use Rattle.sg_kinds.specs.Sound.{IsSound}
use Rattle.sg_kinds.specs.Terms.{Term, Leaf, Node}
use Rattle.sg_kinds.specs.ValueOf.{value_of}
use Rattle.sg_kinds.specs.Values.{Bytes, Value, Truth, Number, Chars, Tree, Fault}
use Rattle.sg_kinds.specs.declared.marks.FaultKind.{FaultKind}
use Rattle.sg_kinds.specs.declared.marks.Shape.{Shape}
use Rattle.sg_kinds.specs.declared.marks.Shape.TheVariants.{Truths, Numbers, Texts, Lexemes, Ordinary, Optional, Listed, OptionalListed}
use Rattle.sg_kinds.specs.declared.spec.Operator.{Operator}
use Rattle.sg_kinds.specs.declared.spec.Phylum.{Phylum}
use Rattle.sg_kinds.specs.declared.spec.Spec.{Spec}
use Rattle.sg_kinds.specs.declared.spec.Transform.{Transform}
use Rattle.sg_kinds.proofs.Elementary.{some_there}
use Rattle.sg_kinds.proofs.PlainFits.{plain_fits}
use Rattle.sg_eval.proofs.OfTypes.{pattern_typed, transform_typed}
use Rattle.sg_eval.proofs.TypeFacts.{term_there}
use Rattle.sg_matching.specs.Transformation.{Given, Unknown, NoMatch, Gives, is_of_name, first_outcome, given_by, transformation, applies}
use Rattle.sg_matching.specs.Refusal.{IsRefused}
use Rattle.sg_matching.proofs.FirstFound.{first_found, transformation_found}
use Rattle.sg_matching.proofs.Matched.{transform_types}
use Rattle.sg_search.specs.Found.{applies_to, phylum_in}
use Rattle.sg_search.specs.ReplacedAll.{fault_in, fault_of, fault_to, given_to, made_to, plain_of}
use Rattle.sg_search.proofs.Behind.{any_position}

-- the phylum that a term fits
pub fits_phylum : (spec : Spec) (t : Term) (p : ℕ) → Fits spec t p → phylum_in spec t ≡ p
fits_phylum spec (Leaf q v) p f = f.0
fits_phylum spec (Node op n elided ts) p f = by (slice_get spec.ops op) f
  where
    by : (o : Option Operator) → MatchOption o ⊥ (λ (x : Operator). (x.phylum ≡ p) × (n < 16) × AllFit spec ts x.args) → unwrap_or (option_map (λ (x : Operator). x.phylum) o) 0 ≡ p
    by None h = absurd h
    by (Some x) h = h.0

-- whether there is an outcome
abbrev is_outcome : Given → Bool
is_outcome (Gives v) = true
is_outcome given = false

module _ (spec : Spec) (p : ℕ) (name : Bytes) (v : Value) where
  first_is_outcome : (xs : List Transform) → list_any (applies spec p name v) xs ≡ is_outcome (first_outcome spec v (filter (is_of_name p name) xs))
  first_is_outcome [] = refl
  first_is_outcome (x ∷ xs) = by (is_of_name p name x) (first_is_outcome xs)
    where
      bound : (o : Option (List Value)) → list_any (applies spec p name v) xs ≡ is_outcome (first_outcome spec v (filter (is_of_name p name) xs))
          → (is_some o || list_any (applies spec p name v) xs) ≡ is_outcome (option_map_or (λ bs. Gives (outcome_of spec x.expr bs)) o (first_outcome spec v (filter (is_of_name p name) xs)))
      bound (Some bs) rest = refl
      bound None rest = rest

      by : (b : Bool) → list_any (applies spec p name v) xs ≡ is_outcome (first_outcome spec v (filter (is_of_name p name) xs))
          → ((b && is_some (bound_by spec x.pattern v)) || list_any (applies spec p name v) xs) ≡ is_outcome (first_outcome spec v (cond b (x ∷ filter (is_of_name p name) xs) (filter (is_of_name p name) xs)))
      by true rest = bound (bound_by spec x.pattern v) rest
      by false rest = rest

  given_is_outcome : (xs : List Transform) → is_outcome (first_outcome spec v xs) ≡ is_outcome (given_by spec v xs)
  given_is_outcome [] = refl
  given_is_outcome (x ∷ xs) = refl

  pub applied_is_outcome : list_any (applies spec p name v) spec.transforms ≡ is_outcome (transformation spec p name v)
  applied_is_outcome = first_is_outcome spec.transforms ∙ given_is_outcome (filter (is_of_name p name) spec.transforms)

module _ (spec : Spec) (name : Bytes) (x : Term) where
  -- by what is given
  pub applies_given : (v : Value) → given_to spec name x ≡ Gives v → applies_to spec name x ≡ true
  applies_given v is = applied_is_outcome spec (phylum_in spec x) name (value_of x) ∙ ap is_outcome is

  pub not_known : given_to spec name x ≡ Unknown → applies_to spec name x ≡ false
  not_known is = applied_is_outcome spec (phylum_in spec x) name (value_of x) ∙ ap is_outcome is

  pub not_matched : given_to spec name x ≡ NoMatch → applies_to spec name x ≡ false
  not_matched is = applied_is_outcome spec (phylum_in spec x) name (value_of x) ∙ ap is_outcome is

  pub is_given : applies_to spec name x ≡ true → (v : Value) × (given_to spec name x ≡ Gives v)
  is_given on = by (given_to spec name x) (sym (applied_is_outcome spec (phylum_in spec x) name (value_of x)) ∙ on)
    where
      by : (given : Given) → is_outcome given ≡ true → (v : Value) × (given ≡ Gives v)
      by Unknown h = absurd cc
      by NoMatch h = absurd cc
      by (Gives v) h = (v, refl)

  -- of a term that fits a phylum
  pub given_at : (p : ℕ) (given : Given) → Fits spec x p → transformation spec p name (value_of x) ≡ given → given_to spec name x ≡ given
  given_at p given fits is = ap (λ q. transformation spec q name (value_of x)) (fits_phylum spec x p fits) ∙ is

  pub refused_at : (p : ℕ) (fault : _) → Fits spec x p → IsRefused fault (transformation spec p name (value_of x)) → IsRefused fault (given_to spec name x)
  refused_at p fault fits why = subst (λ q. IsRefused fault (transformation spec q name (value_of x))) (sym (fits_phylum spec x p fits)) why

-- a value of a term that fits is no fault
not_held : (spec : Spec) (shape : Shape) (why : FaultKind) → MayHold spec shape (Fault why) → ⊥
not_held spec Truths why h = h
not_held spec Numbers why h = h
not_held spec Texts why h = h
not_held spec (Lexemes l) why h = h
not_held spec Ordinary why h = h
not_held spec Optional why h = h
not_held spec Listed why h = h
not_held spec OptionalListed why h = h

pub no_fault : (spec : Spec) (p : ℕ) (s : Term) → Fits spec s p → fault_in (value_of s) ≡ None
no_fault spec p (Leaf q (Truth b)) f = refl
no_fault spec p (Leaf q (Number z)) f = refl
no_fault spec p (Leaf q (Chars s)) f = refl
no_fault spec p (Leaf q (Tree op vs)) f = refl
no_fault spec p (Leaf q (Fault why)) f = absurd (by (slice_get spec.phyla p) f.1)
  where
    by : (o : Option Phylum) → MatchOption o ⊥ (λ (x : Phylum). MayHold spec x.shape (Fault why)) → ⊥
    by None h = h
    by (Some x) h = not_held spec x.shape why h
no_fault spec p (Node op n elided ts) f = refl

-- what is given is of the phylum, and its plain term fits where it is no fault
module _ (spec : Spec) (sound : IsSound spec) (name : Bytes) where
  given_typed : (t : Term) (p : ℕ) (w : Value) → Fits spec t p → transformation spec p name (value_of t) ≡ Gives w → IsOfType spec p w
  given_typed t p w fits gives =
      let v = value_of t in
      let at = some_there (position_from (applies spec p name v) 0 spec.transforms) (any_position (applies spec p name v) spec.transforms 0 ∙ applied_is_outcome spec p name v ∙ ap is_outcome gives) in
      let f = first_found spec p name v spec.transforms 0 at.0 at.1 in
      let types = transform_types spec sound f.place f.transform f.at in
      let phylum : Fits spec t f.transform.phylum = subst (Fits spec t) (sym f.phylum) fits in
      let bound = pattern_typed spec sound f.transform.pattern f.transform.phylum v types.0 f.bound types.1 f.binds (inr (inl (t, phylum, refl))) in
      let typed = transform_typed spec sound f.place f.transform f.at types.0 f.bound types.1 bound in
      let same : Gives (outcome_of spec f.transform.expr f.bound) ≡ Gives w = sym (transformation_found spec p name v at.0 f) ∙ gives in
      let outcome : outcome_of spec f.transform.expr f.bound ≡ w = cc same in
      subst (λ q. IsOfType spec q w) f.phylum (subst (IsOfType spec f.transform.phylum) outcome typed)

  pub made_fits : (t : Term) (p : ℕ) → Fits spec t p → applies_to spec name t ≡ true → fault_to spec name t ≡ None → Fits spec (made_to spec name t) p
  made_fits t p fits on whole =
      let given = is_given spec name t on in
      let v = given.0 in
      let phylum = fits_phylum spec t p fits in
      let typed = given_typed t p v fits (sym (ap (λ q. transformation spec q name (value_of t)) phylum) ∙ given.1) in
      let sure : fault_in v ≡ None = sym (ap (fault_of spec name) given.1) ∙ whole in
      let there = term_there spec sound p v (λ kind is. none_is_some kind (sym sure ∙ ap fault_in is)) typed in
      let made : made_to spec name t ≡ plain spec v p = ap (plain_of spec name t) given.1 ∙ ap (plain spec v) phylum in
      subst (λ s. Fits spec s p) (sym made) (subst (λ w. Fits spec (plain spec w p) p) there.2 (plain_fits spec there.0 p there.1))
    where
      none_is_some : (kind : FaultKind) → ◌≡◌ {A = Option FaultKind} None (Some kind) → ⊥
      none_is_some kind e = cc e
