-- A pool after an entry is put in.
use Rattle.std.specs.Prelude.{◌≡◌, ◌≢◌, refl, ℕ, ◌<◌, Bool, true, false, not, List, [], ◌∷◌, ◌++◌, map, length, Some, slice_get, if◌then◌else◌}
use Rattle.std.specs.List.{list_any}
use Rattle.std.proofs.Common.{sym, ◌∙◌, ap, subst, arith, get_or}
use mathlib.Core.Bool.{true≢false}
use Rattle.std.proofs.lemmas.List.{get_or_default, map-append}
use Rattle.std.proofs.lemmas.Map.Views.{list_any-from_Contains}
use Rattle.std.proofs.lemmas.List.Quantifiers.{all_pairs_push}
use Rattle.indexmap.specs.IndexSet.{insert_key}
use Rattle.sg_kinds.specs.Values.{Value}
use Rattle.sg_pool.specs.Pools.{has_value, with_value, AreDifferent}
use Rattle.sg_pool.specs.PoolEntries.{PoolEntry, entry_value, kid_numbers, same_entry}
use Rattle.sg_pool.specs.declared.pool.Measure.{Measure}
use Rattle.sg_pool.specs.PoolView.{pooled_values, AreBelow, measure_of, IsPooled}
use Rattle.sg_pool.specs.SameEntry.{entry_is}
use Rattle.sg_pool.proofs.Pooled.{has_itself, has_same, values_from-push, ordered_push, length-values_of, value_at_place, entry_value-stays}

module _ (es : List PoolEntry) (ms : List Measure) (e : PoolEntry) (old : IsPooled es ms) (below : AreBelow (length (pooled_values es)) (kid_numbers e)) where
  abbrev here : Value
  here = entry_value (pooled_values es) e

  -- the value is there exactly where the entry is
  same : list_any (same_entry e) es ≡ has_value (pooled_values es) here
  same = has_same es e old.ordered old.different below

  pub values_inserted : pooled_values (insert_key same_entry es e) ≡ with_value (pooled_values es) here
  values_inserted = by (list_any (same_entry e) es) refl
    where
      by : (b : Bool) → list_any (same_entry e) es ≡ b → pooled_values (insert_key same_entry es e) ≡ with_value (pooled_values es) here
      by true h = rw (h, ← same, h) refl
      by false h = rw (h, ← same, h) (values_from-push [] es e)

  fresh : has_value (pooled_values es) here ≡ false → (k : ℕ) (d : Value) → k < length (pooled_values es) → get_or (pooled_values es) k d ≢ here
  fresh h k d l w = true≢false (sym (list_any-from_Contains has_itself here (pooled_values es) (k, l, get_or_default (pooled_values es) k here d l ∙ w)) ∙ h)

  pub stays_pooled : IsPooled (insert_key same_entry es e) (if list_any (same_entry e) es then ms else ms ++ measure_of here ∷ [])
  stays_pooled = by (list_any (same_entry e) es) refl
    where
      by : (b : Bool) → list_any (same_entry e) es ≡ b → IsPooled (insert_key same_entry es e) (if list_any (same_entry e) es then ms else ms ++ measure_of here ∷ [])
      by true h = rw h old
      by false h = rw h (record {
        ordered = ordered_push 0 es e old.ordered (subst (λ n. AreBelow n (kid_numbers e)) (length-values_of es ∙ (omega arith)) below);
        different = subst AreDifferent (sym (values_from-push [] es e)) (all_pairs_push ◌≢◌ (pooled_values es) here old.different (fresh (sym same ∙ h)));
        measures = ap (λ l. l ++ measure_of here ∷ []) old.measures ∙ sym (map-append measure_of (pooled_values es) (here ∷ [])) ∙ ap (map measure_of) (sym (values_from-push [] es e));
      })

  -- the entry's place has its value
  pub stands_inserted : (i : ℕ) (k : PoolEntry) → slice_get (insert_key same_entry es e) i ≡ Some k → same_entry e k ≡ true → slice_get (pooled_values (insert_key same_entry es e)) i ≡ Some here
  stands_inserted i k at h = value_at_place (insert_key same_entry es e) i e stays_pooled.ordered (at ∙ ap Some (sym (entry_is e k h))) ∙ ap Some (by (list_any (same_entry e) es) refl)
    where
      by : (b : Bool) → list_any (same_entry e) es ≡ b → entry_value (pooled_values (insert_key same_entry es e)) e ≡ here
      by true h = rw h refl
      by false h = rw (h, values_from-push [] es e) (entry_value-stays (pooled_values es) (here ∷ []) e below)

-- the same, as the calls on the parts of a pool tell it
module _ (es keys : List PoolEntry) (ms : List Measure) (vs : List Value) (e : PoolEntry) (old : IsPooled es ms) (view : pooled_values es ≡ vs) (below : AreBelow (length vs) (kid_numbers e)) (insert : keys ≡ insert_key same_entry es e) where
  here_below : AreBelow (length (pooled_values es)) (kid_numbers e)
  here_below = subst (λ l. AreBelow (length l) (kid_numbers e)) (sym view) below

  pub pooled_pushed : (pushed : List Measure) (m : Measure) (b : Bool) → m ≡ measure_of (entry_value vs e) → b ≡ not (list_any (same_entry e) es) → b ≡ true → pushed ≡ ms ++ m ∷ [] → IsPooled keys pushed
  pooled_pushed pushed m b measure added new push =
      let none : list_any (same_entry e) es ≡ false = is_false (list_any (same_entry e) es) (sym added ∙ new) in
      let now : (if list_any (same_entry e) es then ms else ms ++ measure_of (entry_value (pooled_values es) e) ∷ []) ≡ pushed = rw none (ap (λ l. ms ++ measure_of (entry_value l e) ∷ []) view ∙ ap (λ x. ms ++ x ∷ []) (sym measure) ∙ sym push) in
      subst (λ l. IsPooled l pushed) (sym insert) (subst (IsPooled (insert_key same_entry es e)) now (stays_pooled es ms e old here_below))
    where
      is_false : (b : Bool) → not b ≡ true → b ≡ false
      is_false true h = sym h
      is_false false h = refl

  pub pooled_kept : (b : Bool) → b ≡ not (list_any (same_entry e) es) → b ≡ false → IsPooled keys ms
  pooled_kept b added there =
      let some : list_any (same_entry e) es ≡ true = is_true (list_any (same_entry e) es) (sym added ∙ there) in
      let now : (if list_any (same_entry e) es then ms else ms ++ measure_of (entry_value (pooled_values es) e) ∷ []) ≡ ms = rw some refl in
      subst (λ l. IsPooled l ms) (sym insert) (subst (IsPooled (insert_key same_entry es e)) now (stays_pooled es ms e old here_below))
    where
      is_true : (b : Bool) → not b ≡ false → b ≡ true
      is_true true h = refl
      is_true false h = sym h

  pub with_inserted : pooled_values keys ≡ with_value vs (entry_value vs e)
  with_inserted = ap pooled_values insert ∙ values_inserted es ms e old here_below ∙ ap (λ l. with_value l (entry_value l e)) view

  pub stands_kept : (i : ℕ) → ((k : PoolEntry) × (slice_get keys i ≡ Some k) × (same_entry e k ≡ true)) → slice_get (pooled_values keys) i ≡ Some (entry_value vs e)
  stands_kept i h = ap (λ l. slice_get (pooled_values l) i) insert ∙ stands_inserted es ms e old here_below i h.0 (ap (λ l. slice_get l i) (sym insert) ∙ h.1) h.2 ∙ ap (λ l. Some (entry_value l e)) view
