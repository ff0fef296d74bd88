-- What the first transformation that applies gives.
use Rattle.std.specs.Prelude.{◌≡◌, refl, ℕ, List, Some, slice_get, Result, Ok, Err, MatchResult, IfOk}
use Rattle.std.specs.List.{position_from}
use Rattle.std.proofs.Common.{sym, ap, ◌∙◌, subst, arith, inl, inr}
use Rattle.std.proofs.lemmas.Option.{same_Some}
use Rattle.sg_kinds.specs.Values.{Bytes, Value}
use Rattle.sg_kinds.specs.Terms.{Term}
use Rattle.sg_kinds.specs.ValueOf.{value_of}
use Rattle.sg_kinds.specs.Fits.{Fits}
use Rattle.sg_kinds.specs.OfType.{IsOfType}
use Rattle.sg_kinds.specs.Evaluation.{bound_by}
use Rattle.sg_kinds.specs.Outcome.{outcome_of}
use Rattle.sg_kinds.specs.declared.spec.Transform.{Transform}
use Rattle.sg_eval.proofs.OfTypes.{pattern_typed, transform_typed}
use Rattle.sg_forest.specs.declared.node_id.NodeId.{NodeId}
use Rattle.sg_groves.specs.Grove.{Grove, IsGrove}
use Rattle.sg_groves.specs.Holds.{Holds}
use Rattle.sg_matching.specs.declared.named.TransformFault.{TransformFault}
use Rattle.sg_matching.specs.Under.{value_under}
use Rattle.sg_matching.specs.Refusal.{IsRefused}
use Rattle.sg_matching.specs.Transformation.{Given, Gives, transformation, applies}
use Rattle.sg_matching.proofs.NodeValues.{value_told}
use Rattle.sg_matching.proofs.Matched.{transform_types}
use Rattle.sg_matching.proofs.FirstFound.{first_found, transformation_found}

-- an outcome is what the name gives, and of the phylum
pub record IsGiven (g : Grove) (p : ℕ) (name : Bytes) (t : Term) (w : Value) : Type 0 where
  pub gives : transformation g.spec p name (value_of t) ≡ Gives w
  pub typed : IsOfType g.spec p w

pub applied : (g : Grove) → IsGrove g → (at : NodeId) (name : Bytes) (first : ℕ) (x : Transform) (bound : List Value) (w : Value) (p : ℕ) (t : Term) → Holds g at t → Fits g.spec t p
    → Some first ≡ position_from (applies g.spec p name (value_of t)) 0 g.spec.transforms → slice_get g.spec.transforms first ≡ Some x
    → ((values : List Value) → bound_by g.spec x.pattern (value_under g at) ≡ Some values → bound ≡ values) → w ≡ outcome_of g.spec x.expr bound → IsGiven g p name t w
applied g is at name first x bound w p t holds fits found there binds outcome =
    let spec = g.spec in
    let v = value_of t in
    let f = first_found spec p name v spec.transforms 0 first (sym found) in
    let n = f.number in
    let place : f.place ≡ first = omega (arith, n) in
    let same : f.transform ≡ x = same_Some f.transform x (sym f.at ∙ ap (slice_get spec.transforms) place ∙ there) in
    let bound_is : bound ≡ f.bound = binds f.bound (ap (bound_by spec x.pattern) (value_told g is at t holds) ∙ ap (λ (y : Transform). bound_by spec y.pattern v) (sym same) ∙ f.binds) in
    let w_is : w ≡ outcome_of spec f.transform.expr f.bound = outcome ∙ ap (λ (y : Transform). outcome_of spec y.expr bound) (sym same) ∙ ap (outcome_of spec f.transform.expr) bound_is in
    let types = transform_types spec is.sound f.place f.transform f.at in
    let phylum : Fits spec t f.transform.phylum = subst (Fits spec t) (sym f.phylum) fits in
    let bound_typed = pattern_typed spec is.sound f.transform.pattern f.transform.phylum v types.0 f.bound types.1 f.binds (inr (inl (t, phylum, refl))) in
    let typed = transform_typed spec is.sound f.place f.transform f.at types.0 f.bound types.1 bound_typed in
    record {
      gives = transformation_found spec p name v first f ∙ ap Gives (sym w_is);
      typed = subst (λ q. IsOfType spec q w) f.phylum (subst (IsOfType spec f.transform.phylum) (sym w_is) typed);
    }

pub settled_given : (r : Result Value TransformFault) (d : Given) (v : Value) → d ≡ Gives v → MatchResult r (λ w. w ≡ v) (λ e. IsRefused e (Gives v)) → MatchResult r (λ w. d ≡ Gives w) (λ e. IsRefused e d)
settled_given (Ok w) d v e h = e ∙ ap Gives (sym h)
settled_given (Err f) d v e h = subst (IsRefused f) (sym e) h

pub settled_typed : (r : Result Value TransformFault) (d : Given) (v : Value) (P : Value → Type 0) → P v → MatchResult r (λ w. w ≡ v) (λ e. IsRefused e d) → IfOk r P
settled_typed (Ok w) d v P h same = subst P (sym same) h
settled_typed (Err f) d v P h same = tt
