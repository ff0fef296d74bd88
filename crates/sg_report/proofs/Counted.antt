-- How many entries a journal gained.
use Rattle.std.specs.Prelude.{◌≡◌, ◌≢◌, refl, ◌+◌, ◌≤◌, List, [], length, AllPairs, Contains}
use Rattle.std.proofs.Common.{ap, arith, inl, inr, length-append}
use Rattle.sg_kinds.specs.Terms.{Term}
use Rattle.sg_kinds.specs.Places.{Place}
use Rattle.sg_kinds.specs.Nets.{Reference}
use Rattle.sg_kinds.specs.Specification.{rules_of}
use Rattle.sg_kinds.specs.Instances.{instances}
use Rattle.sg_kinds.specs.declared.spec.Spec.{Spec}
use Rattle.sg_eval.specs.declared.journal.Instance.{Instance}
use Rattle.sg_forest.specs.declared.node_id.NodeId.{NodeId}
use Rattle.sg_groves.specs.Grove.{Grove}
use Rattle.sg_groves.proofs.InstancesOnce.{instances_apart}
use Rattle.sg_terms.specs.Entries.{Gained, GainedAll}
use Rattle.sg_exchanges.specs.Noted.{Noted}
use Rattle.sg_commands.proofs.Counting.{gained_most, gained_count}
use Rattle.sg_report.specs.Lines.{equations}

module _ (g : Grove) (root : NodeId) (t : Term) (set : List (Reference Place)) (was now : List Instance) where
  -- what came is gained from nothing on
  fresh : (got : Gained g root t (Contains set) was now) → Gained g root t (Contains set) [] got.entries
  fresh got = record { refs = got.refs; entries = got.entries; are = got.are; appended = refl; once = got.once; among = got.among }

  pub rise_most : Gained g root t (Contains set) was now → (length was ≤ length now) × (length now ≤ length was + length set)
  rise_most got =
      let most = gained_most g root t set [] got.entries refl (fresh got) in
      let long = ap length got.appended in
      let both = length-append was got.entries in
      (omega (arith, long, both), omega (arith, long, both, most))

  pub rise_all : AllPairs ◌≢◌ set → GainedAll g root t (Contains set) was now → length now ≡ length was + length set
  unfolding fresh
  rise_all once all =
      let count = gained_count g root t set [] all.gained.entries refl once (record { gained = fresh all.gained; every = all.every }) in
      let long = ap length all.gained.appended in
      let both = length-append was all.gained.entries in
      omega (arith, long, both, count)

module _ (spec : Spec) (t : Term) (was now : List Instance) where
  -- all equations of a term, and some
  pub each_rose : (g : Grove) (root : NodeId) → GainedAll g root t (Contains (instances (rules_of spec) t)) was now → length now ≡ length was + equations spec t
  each_rose g root all = rise_all g root t (instances (rules_of spec) t) was now (instances_apart spec t) all

  pub some_rose : Noted spec t (Contains (instances (rules_of spec) t)) was now → (length was ≤ length now) × (length now ≤ length was + equations spec t)
  some_rose (inl same) = let long = ap length same in (omega (arith, long), omega (arith, long))
  some_rose (inr some) = rise_most some.grove some.root t (instances (rules_of spec) t) was now some.gained
