-- Steps are chains of dependencies.
use Rattle.std.specs.Prelude.{◌≡◌, ℕ, ◌<◌, ◌≤◌, List, [], ◌∷◌, length, Some, slice_get, All}
use Rattle.std.proofs.Common.{refl, sym, ◌∙◌, subst}
use Rattle.std.proofs.lemmas.List.Elements.{All-head, All-tail}
use Rattle.std.proofs.lemmas.Option.{slice_get_within, get_or_from_slice_get}
use Rattle.sg_kinds.specs.declared.spec.Rules.{Rules}
use Rattle.sg_kinds.specs.declared.spec.Occurrence.{Occurrence}
use Rattle.sg_kinds.specs.Dependencies.{occurrence, InOperator, Chain, InPhylum, direct, induced, one, more}
use Rattle.sg_kinds.specs.Layers.{Extended, IsLayering, within, layered}
use Rattle.sg_kinds.specs.Visits.{vertex}
use Rattle.sg_dependencies.specs.Vertices.{AreInRange, IsVertex, Numbered}
use Rattle.sg_dependencies.proofs.Numbers.{same_vertex}
use Rattle.sg_dependencies.proofs.Ranges.{phylum_in}
use Rattle.sg_dependencies.proofs.Sound.{operator_vertices}
use Rattle.sg_orders.proofs.Unique.{same_layers}
use Rattle.sg_reasons.specs.declared.why.Cause.TheVariants.{ByEquation, ByPhylum, ByLayers}
use Rattle.sg_reasons.specs.Reasons.{Cause, Step, Reason, AreSteps, IsByEquation, IsByLayers, IsCause, IsInducing}

module _ (rules : Rules) (range : AreInRange rules) (reasons : List Reason) (low : ℕ)
    (knows : (i : ℕ) (r : Reason) → low ≤ i → slice_get reasons i ≡ Some r → InPhylum rules r.phylum r.from r.to) where
  by_equation : (p m n k : ℕ) → IsByEquation rules p m n k → Numbered rules p (InOperator rules p) m n
  by_equation p m n k is = record {
    from = is.named;
    to = is.rule.target;
    related = direct p is.named is.rule.target (record {
      rule = is.rule;
      stands = (k, slice_get_within rules.rules k is.rule is.stands, get_or_from_slice_get rules.rules k is.rule is.rule is.stands);
      of_operator = is.of_operator;
      names = is.names;
      target = refl;
    });
    from_number = is.from;
    to_number = is.to;
  }

  pub by_cause : (p m n : ℕ) (c : Cause) → IsInducing c → IsCause rules reasons low p m n c → Numbered rules p (InOperator rules p) m n
  by_cause p m n (ByEquation k) kind is = by_equation p m n k is
  by_cause p m n (ByPhylum at i) kind is = record {
    from = occurrence at is.reason.from;
    to = occurrence at is.reason.to;
    related = induced p at is.reason.phylum is.reason.from is.reason.to is.placed.phylum (knows i is.reason is.later is.stands);
    from_number = is.placed.from;
    to_number = is.placed.to;
  }
  by_cause p m n (ByLayers at a b) kind is = absurd kind

  by_layers : (layer : ℕ → ℕ → ℕ) → ((X : ℕ) → X < length rules.phyla → IsLayering rules X (layer X)) → (p m n at a b : ℕ) → IsByLayers rules p m n at a b → Numbered rules p (Extended rules layer p) m n
  by_layers layer are p m n at a b is =
      let placed = is.placed in
      let same = same_layers rules is.phylum is.layer (layer is.phylum) is.layers (are is.phylum (phylum_in rules range p at is.phylum placed.phylum)) in
      record {
        from = occurrence at a;
        to = occurrence at b;
        related = layered p at is.phylum a b placed.phylum placed.from_there placed.to_there
            (subst (λ k. k < layer is.phylum a) (same b placed.to_there) (subst (λ k. is.layer b < k) (same a placed.from_there) is.earlier));
        from_number = placed.from;
        to_number = placed.to;
      }

  extended : (layer : ℕ → ℕ → ℕ) (p m n : ℕ) → Numbered rules p (InOperator rules p) m n → Numbered rules p (Extended rules layer p) m n
  extended layer p m n is = record { from = is.from; to = is.to; related = within p is.from is.to is.related; from_number = is.from_number; to_number = is.to_number }

  pub any_cause : (layer : ℕ → ℕ → ℕ) → ((X : ℕ) → X < length rules.phyla → IsLayering rules X (layer X)) → (p m n : ℕ) (c : Cause) → IsCause rules reasons low p m n c → Numbered rules p (Extended rules layer p) m n
  any_cause layer are p m n (ByEquation k) is = extended layer p m n (by_cause p m n (ByEquation k) tt is)
  any_cause layer are p m n (ByPhylum at i) is = extended layer p m n (by_cause p m n (ByPhylum at i) tt is)
  any_cause layer are p m n (ByLayers at a b) is = by_layers layer are p m n at a b is

  -- between vertices
  chain_from : (ss : List Step) (s : Step) (p m n : ℕ) → All (λ (x : Step). IsInducing x.cause) (s ∷ ss) → AreSteps rules reasons low p m (s ∷ ss) n
      → (u v : Occurrence) → IsVertex rules p u → IsVertex rules p v → vertex rules p u ≡ m → vertex rules p v ≡ n → Chain rules p u v
  chain_from [] s p m n kinds steps u v is_u is_v u_is v_is =
      let x = by_cause p m s.to s.cause (All-head (λ (y : Step). IsInducing y.cause) s [] kinds) steps.0 in
      let w = operator_vertices rules range p x.from x.to x.related in
      let from : x.from ≡ u = same_vertex rules p x.from u w.from is_u (x.from_number ∙ sym u_is) in
      let to : x.to ≡ v = same_vertex rules p x.to v w.to is_v (x.to_number ∙ steps.1 ∙ sym v_is) in
      one p u v (subst (λ o. InOperator rules p o v) from (subst (λ o. InOperator rules p x.from o) to x.related))
  chain_from (t ∷ ss) s p m n kinds steps u v is_u is_v u_is v_is =
      let x = by_cause p m s.to s.cause (All-head (λ (y : Step). IsInducing y.cause) s (t ∷ ss) kinds) steps.0 in
      let w = operator_vertices rules range p x.from x.to x.related in
      let from : x.from ≡ u = same_vertex rules p x.from u w.from is_u (x.from_number ∙ sym u_is) in
      more p u x.to v (subst (λ o. InOperator rules p o x.to) from x.related)
      (chain_from ss t p s.to n (All-tail (λ (y : Step). IsInducing y.cause) s (t ∷ ss) kinds) steps.1 x.to v w.to is_v x.to_number v_is)

  pub chain_along : (ss : List Step) (p m n : ℕ) → (ss ≡ [] → ⊥) → All (λ (x : Step). IsInducing x.cause) ss → AreSteps rules reasons low p m ss n
      → (u v : Occurrence) → IsVertex rules p u → IsVertex rules p v → vertex rules p u ≡ m → vertex rules p v ≡ n → Chain rules p u v
  chain_along [] p m n some kinds steps u v is_u is_v u_is v_is = absurd (some refl)
  chain_along (s ∷ ss) p m n some kinds steps u v is_u is_v u_is v_is = chain_from ss s p m n kinds steps u v is_u is_v u_is v_is
