-- Lemmas on layers round a goal, and on the least way through them.
use Rattle.std.proofs.Common.{◌≡◌, ℕ, suc, ◌+◌, ◌<◌, ◌≤◌, ◌⊎◌, inl, inr, List, [], ◌∷◌, ◌++◌, Bool, false, length, refl, sym, ap, ◌∙◌, subst, arith, append_assoc, append-nil}
use Rattle.std.specs.Prelude.{◌↔◌}
use Rattle.std.proofs.lemmas.Bool.{cases_lt, false≢true}
use Rattle.sg_sets.specs.Cycles.{NotAfter}
use Rattle.sg_sets.specs.Layers.{IsLayer, AreLayers, IsApart, IsLeastWay}
use Rattle.sg_sets.specs.Members.{has, Has, missing_of}
use Rattle.sg_sets.specs.Paths.{Leads}
use Rattle.sg_sets.specs.Rows.{row_of}
use Rattle.std.proofs.lemmas.List.{get_or_append_left, get_or_push, length_push}
use Rattle.sg_sets.proofs.MembersLemmas.{has-cases, missing_of-lt}

module _ (R : ℕ → ℕ → Type 0) (goal : ℕ) where
  -- the set has just the vertices that are related to a member of the other
  abbrev pub IsBefore : List Bool → List Bool → Type 0
  IsBefore set after = (v : ℕ) → Has set v ↔ ((b : ℕ) × R v b × Has after b)

  -- where the goal alone is after, before it is the first layer
  pub layer-first : (width : ℕ) (set target : List Bool) → length set ≡ width → ((b : ℕ) → Has target b ↔ (b ≡ goal)) → IsBefore set target → IsLayer R goal width 1 set
  layer-first width set target w t before = record {
    width_is = w;
    within = λ v. (
      λ h. let step = (before v).0 h in ([], subst (λ b. R v b) ((t step.0).0 step.2) step.1, omega arith),
      λ h. (before v).1 (goal, direct v h.0 h.1 h.2, (t goal).1 refl),
    );
  }
    where
      direct : (v : ℕ) (via : List ℕ) → Leads R v via goal → length via < 1 → R v goal
      direct v [] leads short = leads
      direct v (b ∷ via) leads short = absurd (omega (arith, short))

  -- a layer and what is before it are the next layer
  pub layer-next : (width m : ℕ) (layer before joined : List Bool) → IsLayer R goal width (suc m) layer → length joined ≡ width → IsBefore before layer → ((v : ℕ) → Has joined v ↔ (Has before v ⊎ Has layer v)) → IsLayer R goal width (suc (suc m)) joined
  layer-next width m layer before joined is w b joins = record {
    width_is = w;
    within = λ v. (
      λ h. elim ((joins v).0 h) [
        | inl new ↦
            let step = (b v).0 new in
            let rest = (is.within step.0).0 step.2 in
            (step.0 ∷ rest.0, (step.1, rest.1), (let s = rest.2 in omega (arith, s)))
        | inr old ↦ let way = (is.within v).0 old in (way.0, way.1, (let s = way.2 in omega (arith, s)))
      ],
      λ h. (joins v).1 (back v h.0 h.1 h.2),
    );
  }
    where
      back : (v : ℕ) (via : List ℕ) → Leads R v via goal → length via < suc (suc m) → Has before v ⊎ Has layer v
      back v [] leads short = inr ((is.within v).1 ([], leads, omega arith))
      back v (x ∷ via) leads short = inl ((b v).1 (x, leads.0, (is.within x).1 (via, leads.1, omega (arith, short))))

  -- along a way to the goal some vertex is in the next layer and not in this one, if the first is not
  pub layer-crosses : (width m : ℕ) (layer next : List Bool) → IsLayer R goal width (suc m) layer → IsLayer R goal width (suc (suc m)) next → (v : ℕ) (via : List ℕ) → Leads R v via goal → has layer v ≡ false → (x : ℕ) × (has layer x ≡ false) × Has next x
  layer-crosses width m layer next is is' v [] leads out =
      absurd (false≢true (sym out ∙ (is.within v).1 ([], leads, omega arith)))
  layer-crosses width m layer next is is' v (x ∷ via) leads out = elim (has-cases layer x) [
    | inr out' ↦ layer-crosses width m layer next is is' x via leads.1 out'
    | inl in' ↦ let way = (is.within x).0 in' in (v, out, (is'.within v).1 (x ∷ way.0, (leads.0, way.1), (let s = way.2 in omega (arith, s))))
  ]

  -- so the next layer misses fewer vertices
  pub missing_of-next : (width m : ℕ) (layer next : List Bool) → IsLayer R goal width (suc m) layer → IsLayer R goal width (suc (suc m)) next → (v : ℕ) (via : List ℕ) → Leads R v via goal → has layer v ≡ false → missing_of next < missing_of layer
  missing_of-next width m layer next is is' v via leads out =
      let x = layer-crosses width m layer next is is' v via leads out in
      missing_of-lt layer next (is.width_is ∙ sym is'.width_is) (λ a h. let way = (is.within a).0 h in (is'.within a).1 (way.0, way.1, (let s = way.2 in omega (arith, s)))) x.0 x.1 x.2

  pub AreLayers-push : (width : ℕ) (layers : List (List Bool)) (layer : List Bool) → AreLayers R goal width layers → IsLayer R goal width (suc (length layers)) layer → AreLayers R goal width (layers ++ layer ∷ [])
  AreLayers-push width layers layer are is k low = elim (cases_lt k (length layers)) [
    | inl before ↦ subst (λ s. IsLayer R goal width (suc k) s) (sym (get_or_append_left layers (layer ∷ []) [] k before)) (are k before)
    | inr after ↦
        let same : k ≡ length layers = (let l = length_push layers layer in omega (arith, l, low, after)) in
        subst (λ s. IsLayer R goal width (suc k) s) (sym (get_or_push layers layer [] k (sym same))) (subst (λ j. IsLayer R goal width (suc j) layer) (sym same) is)
  ]

  -- whatever is the least way on from v by way of m others makes, behind what is there, the least way from the start
  abbrev pub GoesOn : ℕ → ℕ → ℕ → ℕ → List ℕ → Type 0
  GoesOn start v m total way = (via : List ℕ) → IsLeastWay R goal v m via → (all : List ℕ) × (way ++ via ≡ start ∷ all) × IsLeastWay R goal start total all

  -- a vertex of the layer that v is related to
  abbrev pub IsNext : ℕ → List Bool → ℕ → Type 0
  IsNext v layer b = R v b × Has layer b

  pub next-there : (v m width : ℕ) (layer : List Bool) → IsApart R goal v (suc m) → IsLayer R goal width (suc m) layer → (b : ℕ) × IsNext v layer b
  next-there v m width layer apart is = by apart.reached.0 apart.reached.1 apart.reached.2
    where
      by : (via : List ℕ) → Leads R v via goal → length via ≡ suc m → (b : ℕ) × IsNext v layer b
      by [] leads long = absurd (omega (arith, long))
      by (x ∷ via) leads long = (x, (leads.0, (is.within x).1 (via, leads.1, omega (arith, long))))

  pub apart-next : (v m width b : ℕ) (layer : List Bool) → IsApart R goal v (suc m) → IsLayer R goal width (suc m) layer → IsNext v layer b → IsApart R goal b m
  apart-next v m width b layer apart is next = record {
    shortest = λ via leads. let s = apart.shortest (b ∷ via) (next.0, leads) in omega (arith, s);
    reached =
        let way = (is.within b).0 next.1 in
        let s = apart.shortest (b ∷ way.0) (next.0, way.1) in
        let t = way.2 in
        (way.0, way.1, omega (arith, s, t));
  }

  pub least-next : (v m width b : ℕ) (via : List ℕ) (set : List Bool) → IsLayer R goal width (suc m) set → IsNext v set b → ((a : ℕ) → IsNext v set a → b ≤ a) → IsLeastWay R goal b m via → IsLeastWay R goal v (suc m) (b ∷ via)
  least-next v m width b via set is next least way = record {
    leads = (next.0, way.leads);
    long = let l = way.long in omega (arith, l);
    least = by;
  }
    where
      by : (other : List ℕ) → Leads R v other goal → length other ≡ suc m → NotAfter (b ∷ via) other
      by [] leads long = absurd (omega (arith, long))
      by (x ∷ other) leads long =
          let l : length other ≡ m = omega (arith, long) in
          let s : length other < suc m = omega (arith, l) in
          let le = least x (leads.0, (is.within x).1 (other, leads.1, s)) in
          elim (cases_lt b x) [
            | inl lt ↦ inl lt
            | inr ge ↦
                let same : b ≡ x = omega (arith, le, ge) in
                inr (same, way.least other (subst (λ u. Leads R u other goal) (sym same) leads.1) l)
          ]

  pub goes_on-next : (start v m total width b : ℕ) (way : List ℕ) (set : List Bool) → IsLayer R goal width (suc m) set → IsNext v set b → ((a : ℕ) → IsNext v set a → b ≤ a) → GoesOn start v (suc m) total way → GoesOn start b m total (way ++ b ∷ [])
  goes_on-next start v m total width b way set is next least on via l =
      let all = on (b ∷ via) (least-next v m width b via set is next least l) in
      (all.0, append_assoc way (b ∷ []) via ∙ all.1, all.2)

  -- the goal is at the end of the way
  pub goes_on-end : (start v total : ℕ) (way : List ℕ) → IsApart R goal v 0 → GoesOn start v 0 total way → (all : List ℕ) × (way ≡ start ∷ all) × IsLeastWay R goal start total all
  goes_on-end start v total way apart on =
      let all = on [] record { leads = by apart.reached.0 apart.reached.1 apart.reached.2; long = refl; least = λ other leads long. tt } in
      (all.0, sym (append-nil way) ∙ all.1, all.2)
    where
      by : (via : List ℕ) → Leads R v via goal → length via ≡ 0 → R v goal
      by [] leads long = leads
      by (x ∷ via) leads long = absurd (omega (arith, long))

  pub AreLayers-pop : (width : ℕ) (layers rest : List (List Bool)) (layer : List Bool) → layers ≡ rest ++ layer ∷ [] → AreLayers R goal width layers → AreLayers R goal width rest × IsLayer R goal width (suc (length rest)) layer
  AreLayers-pop width layers rest layer e are =
      let long : length layers ≡ length rest + 1 = ap length e ∙ length_push rest layer in (
        λ k low. subst (λ s. IsLayer R goal width (suc k) s) (ap (λ l. row_of l k) e ∙ get_or_append_left rest (layer ∷ []) [] k low) (are k (omega (arith, long, low))),
        subst (λ s. IsLayer R goal width (suc (length rest)) s) (ap (λ l. row_of l (length rest)) e ∙ get_or_push rest layer [] (length rest) refl) (are (length rest) (omega (arith, long))),
      )
