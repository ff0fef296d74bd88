-- Lists of entries that grow by lists of entries.
use Rattle.std.specs.Prelude.{◌≡◌, ◌⊎◌, zero, suc, All, List, [], ◌∷◌, ◌++◌, Contains, Some, slice_get}
use Rattle.std.proofs.Common.{sym, ap, ◌∙◌, subst, inl, inr, arith, append_assoc}
use Rattle.std.proofs.lemmas.List.{append-nil}
use Rattle.std.proofs.lemmas.List.Elements.{All-contains, Contains-append_left, Contains-append_right, Contains-append_cases}
use Rattle.sg_kinds.specs.Terms.{Term}
use Rattle.sg_kinds.specs.Places.{Place}
use Rattle.sg_kinds.specs.Nets.{Reference, net_of}
use Rattle.sg_kinds.specs.Instances.{site_of}
use Rattle.sg_kinds.specs.Specification.{rules_of}
use Rattle.sg_kinds.specs.declared.spec.Spec.{Spec}
use Rattle.sg_eval.specs.declared.journal.Instance.{Instance}
use Rattle.sg_forest.specs.declared.node_id.NodeId.{NodeId}
use Rattle.sg_groves.specs.Grove.{Grove}
use Rattle.sg_groves.specs.Unchanged.{OnlyStored}
use Rattle.sg_groves.proofs.Frames.{only_climbed}
use Rattle.sg_groves.proofs.Lists.{contains_none, contains_first, contains_later, apart_none, apart_append}
use Rattle.sg_attrib.proofs.Placed.{Slots}
use Rattle.sg_terms.specs.Entries.{IsEntry, AreEntries, Gained, GainedAll}

member : (P : Reference Place → Type 0) (xs : List (Reference Place)) (a : Reference Place) → All P xs → Contains xs a → P a
member P xs a all has = All-contains P xs a all has

pub all_of : (P : Reference Place → Type 0) (xs : List (Reference Place)) → ((a : Reference Place) → Contains xs a → P a) → All P xs
all_of P [] each i d low = absurd (omega (arith, low))
all_of P (x ∷ xs) each zero d low = each x (contains_first x xs)
all_of P (x ∷ xs) each (suc i) d low = all_of P xs (λ y has. each y (contains_later x xs y has)) i d (omega (arith, low))

-- one list of entries after another
entries_join : (g : Grove) (root : NodeId) (t : Term) (xs ys : List (Reference Place)) (es fs : List Instance) → AreEntries g root t xs es → AreEntries g root t ys fs → AreEntries g root t (xs ++ ys) (es ++ fs)
entries_join g root t [] ys [] fs one two = two
entries_join g root t [] ys (e ∷ es) fs one two = absurd one
entries_join g root t (x ∷ xs) ys [] fs one two = absurd one
entries_join g root t (x ∷ xs) ys (e ∷ es) fs one two = (one.0, entries_join g root t xs ys es fs one.1 two)

module _ (old new : Grove) (changed : Slots) (only : OnlyStored old new changed) (root : NodeId) (t : Term) where
  entry_before : (a : Reference Place) (e : Instance) → IsEntry new root t a e → IsEntry old root t a e
  entry_before a e entry = record {
    way = only_climbed old new changed only a.node e.node root entry.way;
    slot_is = entry.slot_is;
    site = entry.site;
    found = subst (λ (s : Spec). site_of (rules_of s) (net_of t) a ≡ Some entry.site) only.spec entry.found;
    rule_is = subst (λ (s : Spec). slice_get s.rules e.rule ≡ Some entry.site.rule) only.spec entry.rule_is;
  }

  entries_before : (xs : List (Reference Place)) (es : List Instance) → AreEntries new root t xs es → AreEntries old root t xs es
  entries_before [] [] are = are
  entries_before [] (e ∷ es) are = absurd are
  entries_before (x ∷ xs) [] are = absurd are
  entries_before (x ∷ xs) (e ∷ es) are = (entry_before x e are.0, entries_before xs es are.1)

  -- the entries are those of the grove before too
  pub gained_before : (refs : Reference Place → Type 0) (was now : List Instance) → Gained new root t refs was now → Gained old root t refs was now
  gained_before refs was now g = record { refs = g.refs; entries = g.entries; are = entries_before g.refs g.entries g.are; appended = g.appended; once = g.once; among = g.among }

  pub gained_all_before : (refs : Reference Place → Type 0) (was now : List Instance) → GainedAll new root t refs was now → GainedAll old root t refs was now
  unfolding gained_before
  gained_all_before refs was now g = record { gained = gained_before refs was now g.gained; every = g.every }

module _ (g : Grove) (root : NodeId) (t : Term) where
  pub gained_more : (few more : Reference Place → Type 0) (was now : List Instance) → ((a : Reference Place) → few a → more a) → Gained g root t few was now → Gained g root t more was now
  gained_more few more was now within gained = record { refs = gained.refs; entries = gained.entries; are = gained.are; appended = gained.appended; once = gained.once; among = all_of more gained.refs (λ a has. within a (member few gained.refs a gained.among has)) }

  pub gained_same : (few more : Reference Place → Type 0) (was now : List Instance) → ((a : Reference Place) → few a → more a) → ((a : Reference Place) → more a → few a) → GainedAll g root t few was now → GainedAll g root t more was now
  unfolding gained_more
  gained_same few more was now within back gained = record { gained = gained_more few more was now within gained.gained; every = λ a is. gained.every a (back a is) }

  pub gained_nothing : (refs : Reference Place → Type 0) (was : List Instance) → Gained g root t refs was was
  gained_nothing refs was = record { refs = []; entries = []; are = tt; appended = sym (append-nil was); once = apart_none; among = all_of refs [] (λ a has. absurd (contains_none a has)) }

  module _ (one two both : Reference Place → Type 0) (was between now : List Instance)
      (apart : (a : Reference Place) → one a → two a → ⊥) (first : (a : Reference Place) → one a → both a) (second : (a : Reference Place) → two a → both a) where
    pub gained_twice : Gained g root t one was between → Gained g root t two between now → Gained g root t both was now
    gained_twice p q = record {
      refs = p.refs ++ q.refs;
      entries = p.entries ++ q.entries;
      are = entries_join g root t p.refs q.refs p.entries q.entries p.are q.are;
      appended = q.appended ∙ ap (λ l. l ++ q.entries) p.appended ∙ append_assoc was p.entries q.entries;
      once = apart_append p.refs q.refs p.once q.once (λ a in_one in_two. apart a (member one p.refs a p.among in_one) (member two q.refs a q.among in_two));
      among = all_of both (p.refs ++ q.refs) (λ a has. elim (Contains-append_cases p.refs q.refs a has) [ inl here ↦ first a (member one p.refs a p.among here) | inr there ↦ second a (member two q.refs a q.among there) ]);
    }

    pub gained_all_twice : ((a : Reference Place) → both a → one a ⊎ two a) → GainedAll g root t one was between → GainedAll g root t two between now → GainedAll g root t both was now
    unfolding gained_twice
    gained_all_twice split p q = record {
      gained = gained_twice p.gained q.gained;
      every = λ a is. elim (split a is) [
        | inl here ↦ Contains-append_left p.gained.refs q.gained.refs a (p.every a here)
        | inr there ↦ Contains-append_right p.gained.refs q.gained.refs a (q.every a there)
      ];
    }
