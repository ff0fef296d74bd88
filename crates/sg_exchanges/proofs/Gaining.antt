-- Entries of a tree that is the same in another grove.
use Rattle.std.specs.Prelude.{◌≡◌, List, [], ◌∷◌, Some, slice_get}
use Rattle.std.proofs.Common.{sym, subst}
use Rattle.sg_kinds.specs.Terms.{Term}
use Rattle.sg_kinds.specs.Places.{Place}
use Rattle.sg_kinds.specs.Nets.{Reference, net_of}
use Rattle.sg_kinds.specs.Instances.{site_of}
use Rattle.sg_kinds.specs.Specification.{rules_of}
use Rattle.sg_kinds.specs.declared.spec.Spec.{Spec}
use Rattle.sg_eval.specs.declared.journal.Instance.{Instance}
use Rattle.sg_forest.specs.declared.node_id.NodeId.{NodeId}
use Rattle.sg_groves.specs.Grove.{Grove}
use Rattle.sg_terms.specs.Entries.{AreEntries, GainedAll, IsEntry}
use Rattle.sg_exchanges.specs.Roots.{KeepsTree}
use Rattle.sg_exchanges.proofs.Trees.{climbs_on}

module _ (old new : Grove) (root : NodeId) (k : KeepsTree old new root) (t : Term) where
  entry_on : (a : Reference Place) (e : Instance) → IsEntry old root t a e → IsEntry new root t a e
  entry_on a e entry = record {
    way = climbs_on old new root k a.node e.node entry.way;
    slot_is = entry.slot_is;
    site = entry.site;
    found = subst (λ (s : Spec). site_of (rules_of s) (net_of t) a ≡ Some entry.site) (sym k.spec) entry.found;
    rule_is = subst (λ (s : Spec). slice_get s.rules e.rule ≡ Some entry.site.rule) (sym k.spec) entry.rule_is;
  }

  entries_on : (xs : List (Reference Place)) (es : List Instance) → AreEntries old root t xs es → AreEntries new root t xs es
  entries_on [] [] are = are
  entries_on [] (e ∷ es) are = absurd are
  entries_on (x ∷ xs) [] are = absurd are
  entries_on (x ∷ xs) (e ∷ es) are = (entry_on x e are.0, entries_on xs es are.1)

  pub gained_on : (refs : Reference Place → Type 0) (was now : List Instance) → GainedAll old root t refs was now → GainedAll new root t refs was now
  gained_on refs was now all =
      let g = all.gained in
      record { gained = record { refs = g.refs; entries = g.entries; are = entries_on g.refs g.entries g.are; appended = g.appended; once = g.once; among = g.among }; every = all.every }
