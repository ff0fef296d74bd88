-- Steps and reasons that are tested one by one.
use Rattle.std.specs.Prelude.{◌≡◌, ℕ, suc, ◌+◌, ◌<◌, ◌≤◌, List, [], ◌∷◌, ◌++◌, length, Some, slice_get}
use Rattle.std.proofs.Common.{refl, sym, ◌∙◌, ap, subst, get_or, drop, add-one, arith, inl, inr}
use Rattle.std.proofs.Math.Seq.{drop-cons}
use Rattle.std.proofs.Math.ListN.{drop_of_length-le}
use Rattle.std.proofs.lemmas.Bool.{cases_lt}
use Rattle.std.proofs.lemmas.Option.{slice_get_within, same_Some}
use Rattle.sg_kinds.specs.declared.spec.Rules.{Rules}
use Rattle.sg_orders.specs.Layerings.{AreLayerings}
use Rattle.sg_reasons.specs.Scenes.{AreLayered}
use Rattle.sg_reasons.specs.Reasons.{Reason, Step, Way, AreReasons, AreSteps, IsAlong, IsCause, IsReason, all_vertices}

-- one step more
pub steps_more : (rules : Rules) (reasons : List Reason) (low p m i : ℕ) (ss items : List Step) (d : Step) → items ≡ ss → i < length items → IsCause rules reasons low p m (get_or items i d).to (get_or items i d).cause
    → (n : ℕ) → AreSteps rules reasons low p (get_or items i d).to (drop (i + 1) ss) n → AreSteps rules reasons low p m (drop i ss) n
steps_more rules reasons low p m i ss items d same inside cause n rest =
    let s = get_or items i d in
    let all : drop i items ≡ s ∷ drop (i + 1) items = drop-cons items i d inside ∙ ap (λ k. s ∷ drop k items) (sym (add-one i)) in
    let whole : drop i ss ≡ s ∷ drop (i + 1) ss = subst (λ xs. drop i xs ≡ s ∷ drop (i + 1) xs) same all in
    subst (λ xs. AreSteps rules reasons low p m xs n) (sym whole) (cause, rest)

pub steps_end : (rules : Rules) (reasons : List Reason) (low p m i : ℕ) (ss : List Step) → length ss ≤ i → AreSteps rules reasons low p m (drop i ss) m
steps_end rules reasons low p m i ss past = subst (λ xs. AreSteps rules reasons low p m xs m) (sym (drop_of_length-le ss past)) refl

-- one reason more
pub first_more : (rules : Rules) (reasons : List Reason) (n : ℕ) (s : Reason) → ((i : ℕ) (r : Reason) → i < n → slice_get reasons i ≡ Some r → IsReason rules reasons (suc i) r)
    → slice_get reasons n ≡ Some s → IsReason rules reasons (n + 1) s → (i : ℕ) (r : Reason) → i < n + 1 → slice_get reasons i ≡ Some r → IsReason rules reasons (suc i) r
first_more rules reasons n s first at is i r under here = elim (cases_lt i n) [
  | inl before ↦ first i r before here
  | inr past ↦
      let same : i ≡ n = omega (arith, under, past) in
      let number : n + 1 ≡ suc i = omega (arith, same) in
      let reason : s ≡ r = same_Some s r (sym at ∙ ap (slice_get reasons) (sym same) ∙ here) in
      subst (λ k. IsReason rules reasons k r) number (subst (IsReason rules reasons (n + 1)) reason is)
]

pub first_all : (rules : Rules) (reasons : List Reason) (n : ℕ) → length reasons ≤ n → ((i : ℕ) (r : Reason) → i < n → slice_get reasons i ≡ Some r → IsReason rules reasons (suc i) r) → AreReasons rules reasons
first_all rules reasons n past first = λ i r at. first i r (let low = slice_get_within reasons i r at in omega (arith, low, past)) at

-- the vertices of a way along a cycle and back
pub along : (cycle : List ℕ) (w : Way) (first : ℕ) → slice_get cycle 0 ≡ Some first → all_vertices w ≡ cycle ++ first ∷ [] → IsAlong cycle w
along [] w first at is = absurd (cc at)
along (c ∷ cs) w first at is =
    let here : c ≡ first = same_Some c first at in
    let head : w.from ≡ c = cc is in
    record {
      some = λ (none : c ∷ cs ≡ []). cc none;
      vertices = is ∙ ap (λ v. (c ∷ cs) ++ v ∷ []) (sym here ∙ sym head);
    }

-- layers that causes may rest on
pub no_layers : (rules : Rules) → AreLayered rules []
no_layers rules X low = absurd (omega (arith, low))

pub all_layered : (rules : Rules) (layers : List (List ℕ)) → AreLayerings rules layers → AreLayered rules layers
all_layered rules layers are X low = are.each X (let count = are.count in omega (arith, low, count))
