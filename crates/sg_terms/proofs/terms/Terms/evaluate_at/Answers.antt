use Rattle.std.proofs.Common.{◌≡◌, ℕ, List, [], ◌∷◌, ◌++◌, map, Result, Ok, Err, ◌⊎◌, inl, inr, refl, sym, subst}
use Rattle.std.specs.Prelude.{OnErr}
use Rattle.sg_kinds.specs.declared.spec.Rule.{Rule}
use Rattle.sg_kinds.specs.Outcome.{outcome}
use Rattle.sg_pool.specs.Pools.{StandsFor}
use Rattle.sg_eval.specs.declared.journal.Instance.{Instance}
use Rattle.sg_eval.specs.Journal.{now_of}
use Rattle.sg_forest.specs.declared.node_id.NodeId.{NodeId}
use Rattle.sg_groves.specs.Grove.{Grove}
use Rattle.sg_groves.specs.Unchanged.{OnlyStored}
use Rattle.sg_groves.proofs.Frames.{only_more, only_twice}
use Rattle.sg_terms.specs.Occurrences.{value_for, IsBearer, NotedAtMost}
use Rattle.sg_terms.specs.Storable.{IsSlot, IsNoSlot}
use Rattle.sg_terms.proofs.terms.Terms.evaluate_at.Goals as goal

-- nothing, and then one slot
then_slot : (old mid new : Grove) (m : NodeId) (slot : ℕ) → OnlyStored old mid IsNoSlot → OnlyStored mid new (IsSlot m slot) → OnlyStored old new (IsSlot m slot)
then_slot old mid new m slot none one = only_more old new (λ n k. IsNoSlot n k ⊎ IsSlot m slot n k) (IsSlot m slot) within (only_twice old mid new IsNoSlot (IsSlot m slot) none one)
  where
    within : (n : NodeId) (k : ℕ) → (IsNoSlot n k ⊎ IsSlot m slot n k) → IsSlot m slot n k
    within n k (inl never) = absurd never
    within n k (inr is) = is

noted_at_most : (g : Grove) (n : NodeId) (rule : ℕ) (r : Rule) (m : NodeId) (slot : ℕ) (old new : List Instance) → IsBearer g n r m slot → ((new ≡ old) ⊎ (new ≡ old ++ record { node = m; slot = slot; rule = rule } ∷ [])) → NotedAtMost g n rule r old new
noted_at_most g n rule r m slot old new bearer (inl same) = inl same
noted_at_most g n rule r m slot old new bearer (inr gained) = inr (record { node = m; slot = slot; rule = rule }, record { bearer = bearer; rule_is = refl }, gained)

refused : {A E : Type 0} (result : Result A E) (P : Type 0) → P → OnErr result P
refused (Ok x) P p = tt
refused (Err e) P p = p

pub returns-clause-outcome : goal.returns-clause-outcome
returns-clause-outcome c =
    λ r at. subst (λ p. StandsFor p c.in_ok-after.after (outcome c.args.self.now.spec r (map (value_for c.args.self.now c.args.n) r.args))) (sym c.store-before.ensures.pool) (c.in_ok-after.ensures.outcome r at)

pub returns-clause-before : goal.returns-clause-before
returns-clause-before c = rw c.outcome_at.ensures.trees at c.store-before.ensures.before

pub returns-clause-kept : goal.returns-clause-kept
returns-clause-kept c = then_slot _ _ _ c.bearer-slot.result.0 c.bearer-slot.result.1 c.outcome_at.ensures.kept c.store-before.ensures.kept

pub returns-clause-noted : goal.returns-clause-noted
returns-clause-noted c = c.in_ok-after.ensures.noted

pub returns-in_err-after-clause-noted_err : goal.returns-in_err-after-clause-noted_err
returns-in_err-after-clause-noted_err c =
    λ r at. refused c.from_residual.result (NotedAtMost c.args.self.now c.args.n c.args.rule r (now_of c.args.journal.now) (now_of c.outcome_at.new.journal))
    (noted_at_most c.args.self.now c.args.n c.args.rule r _ _ (now_of c.args.journal.now) (now_of c.outcome_at.new.journal) (c.bearer-slot.ensures r at) c.in_err-after.ensures.err)
