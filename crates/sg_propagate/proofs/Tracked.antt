-- What a trail tells still where numbers are stored.
use Rattle.std.specs.Prelude.{◌≡◌, ◌⊎◌, ℕ, Bool, true, false, List, [], ◌∷◌, ◌++◌, length, Option, Some, None, slice_get, option_and_then, Contains}
use Rattle.std.proofs.Common.{refl, sym, ap, ◌∙◌, subst, inl, inr, arith}
use Rattle.std.proofs.lemmas.Bool.{cases_lt}
use Rattle.std.proofs.lemmas.List.Elements.{Contains-append_left, Contains-append_right, Contains-append_cases}
use Rattle.std.proofs.lemmas.Option.{none-some, same_Some, slice_get_within, slice_get_past}
use Rattle.sg_kinds.proofs.Elementary.{slice_get-there}
use Rattle.sg_kinds.specs.Typing.{slot_type}
use Rattle.sg_kinds.specs.declared.spec.Spec.{Spec}
use Rattle.sg_forest.specs.declared.node_id.NodeId.{NodeId}
use Rattle.sg_forest.specs.Node as forest
use Rattle.sg_groves.specs.declared.kind.Kind.{Kind}
use Rattle.sg_groves.specs.declared.part.Part.{Part}
use Rattle.sg_groves.specs.Grove.{Grove, nodes, IsTyped, IsGrove}
use Rattle.sg_groves.specs.Stored.{number_at}
use Rattle.sg_groves.specs.Unchanged.{KeepsPart, OnlyStored}
use Rattle.sg_groves.proofs.Frames.{only_climbed}
use Rattle.sg_groves.proofs.Lists.{contains_first, contains_either, contains_later, contains_none}
use Rattle.sg_terms.specs.Found.{op_at}
use Rattle.sg_terms.specs.Storable.{IsStorable}
use Rattle.sg_terms.proofs.Same.{IsTyped-grown}
use Rattle.sg_terms.proofs.Written.{storable_again}
use Rattle.sg_trail.specs.declared.entry.WasStored.{WasStored}
use Rattle.sg_trail.specs.Trails.{IsCovered, Way, is_of, was_in}
use Rattle.sg_trail.proofs.Telling.{IsOf, covered_tells, of_from, of_to, same_tells}
use Rattle.sg_trail.proofs.Saving.{covered_more}
use Rattle.sg_kinds.specs.Dependencies.{IsAttr}
use Rattle.sg_kinds.specs.Specification.{rules_of}
use Rattle.sg_propagate.specs.Moves.{IsTracked}
use Rattle.sg_propagate.specs.Scenes.{AreTops}

-- a slot is covered or not
pub covered_or_not : (es : List WasStored) (n : NodeId) (slot : ℕ) → IsCovered es n slot ⊎ (IsCovered es n slot → ⊥)
covered_or_not [] n slot = inr (λ c. contains_none c.entry c.listed)
covered_or_not (e ∷ es) n slot = by (is_of e n slot) refl (covered_or_not es n slot)
  where
    by : (b : Bool) → is_of e n slot ≡ b → IsCovered es n slot ⊎ (IsCovered es n slot → ⊥) → IsCovered (e ∷ es) n slot ⊎ (IsCovered (e ∷ es) n slot → ⊥)
    by true test rest = let is = of_from e n slot test in inl (record { entry = e; listed = contains_first e es; node_is = is.node_is; slot_is = is.slot_is })
    by false test (inl c) = inl (record { entry = c.entry; listed = contains_later e es c.entry c.listed; node_is = c.node_is; slot_is = c.slot_is })
    by false test (inr none) = inr (λ c. elim (contains_either e es c.entry c.listed) [
      | inl same ↦ not_of test (record { node_is = ap (λ (z : WasStored). z.node) same ∙ c.node_is; slot_is = ap (λ (z : WasStored). z.slot) same ∙ c.slot_is })
      | inr later ↦ none (record { entry = c.entry; listed = later; node_is = c.node_is; slot_is = c.slot_is })
    ])
      where
        not_of : is_of e n slot ≡ false → IsOf e n slot → ⊥
        not_of differs is = let both : true ≡ false = sym (of_to e n slot is) ∙ differs in cc both

module _ (old new : Grove) (changed : NodeId → ℕ → Type 0) (only : OnlyStored old new changed) where
  -- nodes of operators are so still
  pub op_same : (n : NodeId) → op_at new n ≡ op_at old n
  op_same n = by (nodes old n) refl
    where
      by : (o : Option (forest.Node Kind Part)) → nodes old n ≡ o → op_at new n ≡ option_and_then (λ x. x.label.op) o
      by None found = ap (option_and_then (λ (x : forest.Node Kind Part). x.label.op)) (only.shape.dead n found)
      by (Some x) found = let now = only.shape.kept n x found in ap (option_and_then (λ (y : forest.Node Kind Part). y.label.op)) now.1 ∙ ap (λ (l : Kind). l.op) now.2

  -- and have numbers in the same slots
  pub number_was : (n : NodeId) (slot id : ℕ) → number_at new n slot ≡ Some id → (was : ℕ) × (number_at old n slot ≡ Some was)
  number_was n slot id number = by (nodes old n) refl
    where
      by : (o : Option (forest.Node Kind Part)) → nodes old n ≡ o → (was : ℕ) × (number_at old n slot ≡ Some was)
      by None found = absurd (none-some id (sym (ap (option_and_then (λ (x : forest.Node Kind Part). slice_get x.part.values slot)) (only.shape.dead n found)) ∙ number))
      by (Some x) found =
          let now = only.shape.kept n x found in
          let parts = only.parts n x now.0 found now.1 in
          let low = slice_get_within now.0.part.values slot id (sym (ap (option_and_then (λ (y : forest.Node Kind Part). slice_get y.part.values slot)) now.1) ∙ number) in
          let count = parts.count in
          let there = slice_get-there x.part.values slot (omega (arith, low, count)) in
          (there.0, ap (option_and_then (λ (y : forest.Node Kind Part). slice_get y.part.values slot)) found ∙ there.1)

  pub number_now : (n : NodeId) (slot id : ℕ) → number_at old n slot ≡ Some id → (now : ℕ) × (number_at new n slot ≡ Some now)
  number_now n slot id number = by (nodes old n) refl
    where
      by : (o : Option (forest.Node Kind Part)) → nodes old n ≡ o → (now : ℕ) × (number_at new n slot ≡ Some now)
      by None found = absurd (none-some id (sym (ap (option_and_then (λ (x : forest.Node Kind Part). slice_get x.part.values slot)) found) ∙ number))
      by (Some x) found =
          let now = only.shape.kept n x found in
          let parts = only.parts n x now.0 found now.1 in
          let low = slice_get_within x.part.values slot id (sym (ap (option_and_then (λ (y : forest.Node Kind Part). slice_get y.part.values slot)) found) ∙ number) in
          let count = parts.count in
          let there = slice_get-there now.0.part.values slot (omega (arith, low, count)) in
          (there.0, ap (option_and_then (λ (y : forest.Node Kind Part). slice_get y.part.values slot)) now.1 ∙ there.1)

  -- what may be stored may be so still
  pub storable_still : (n : NodeId) (slot id : ℕ) → IsStorable old n slot id → IsStorable new n slot id
  storable_still n slot id s = record {
    op = s.op;
    is = op_same n ∙ s.is;
    type = s.type;
    has_type = subst (λ (z : Spec). slot_type z s.op 0 slot ≡ Some s.type) (sym only.spec) s.has_type;
    typed = subst (λ (z : Spec). IsTyped z new.pool s.type id) (sym only.spec) (IsTyped-grown old.spec old.pool new.pool only.pool s.type id s.typed);
  }

  -- a number that no store changes is the same
  number_kept : (n : NodeId) (slot : ℕ) → ((op id : ℕ) → op_at old n ≡ Some op → number_at old n slot ≡ Some id → changed n slot → ⊥) → number_at new n slot ≡ number_at old n slot
  number_kept n slot out = by (nodes old n) refl
    where
      values_by : (x y : forest.Node Kind Part) → nodes old n ≡ Some x → KeepsPart x.label x.part y.part (changed n) → (o : Option ℕ) → x.label.op ≡ o → slice_get y.part.values slot ≡ slice_get x.part.values slot
      values_by x y found parts None op = ap (λ vs. slice_get vs slot) (parts.leaf op)
      values_by x y found parts (Some op) is = elim (cases_lt slot (length x.part.values)) [
        | inl low ↦
            let there = slice_get-there x.part.values slot low in
            parts.others slot (out op there.0 (ap (option_and_then (λ (z : forest.Node Kind Part). z.label.op)) found ∙ is) (ap (option_and_then (λ (z : forest.Node Kind Part). slice_get z.part.values slot)) found ∙ there.1))
        | inr past ↦ (let count = parts.count in slice_get_past y.part.values slot (omega (arith, past, count)) ∙ sym (slice_get_past x.part.values slot past))
      ]

      by : (o : Option (forest.Node Kind Part)) → nodes old n ≡ o → number_at new n slot ≡ option_and_then (λ x. slice_get x.part.values slot) o
      by None found = ap (option_and_then (λ (x : forest.Node Kind Part). slice_get x.part.values slot)) (only.shape.dead n found)
      by (Some x) found =
          let now = only.shape.kept n x found in
          ap (option_and_then (λ (y : forest.Node Kind Part). slice_get y.part.values slot)) now.1 ∙ values_by x now.0 found (only.parts n x now.0 found now.1) x.label.op refl

  -- the trail tells what it told where each changed slot of a node of an operator is covered
  pub tracked_still : (first : Grove) (top : NodeId) (way : Way) → ((n : NodeId) (op slot id : ℕ) → op_at old n ≡ Some op → number_at old n slot ≡ Some id → changed n slot → IsCovered way.entries n slot) → IsTracked first old top way → IsTracked first new top way
  tracked_still first top way cover is = record {
    numbers = λ n slot. elim (covered_or_not way.entries n slot) [
      | inl c ↦ covered_tells n slot way.entries c (number_at new n slot) (number_at old n slot) ∙ is.numbers n slot
      | inr none ↦ ap (was_in way.entries n slot) (number_kept n slot (λ op id at number ch. none (cover n op slot id at number ch))) ∙ is.numbers n slot
    ];
    storable = λ e has. storable_still e.node e.slot e.number (is.storable e has);
    covered = λ n op slot id inside at number.
        let was = number_was n slot id number in
        is.covered n op slot was.0 (record { path = inside.path; climbs = only_climbed old new changed only inside.path n top inside.climbs }) (sym (op_same n) ∙ at) was.1;
  }

-- an entry more, with the number that its slot has
pub tracked_push : (first g : Grove) → IsGrove g → (top : NodeId) (way to : Way) (n : NodeId) (op slot id : ℕ) → op_at g n ≡ Some op → number_at g n slot ≡ Some id → to.entries ≡ way.entries ++ record { node = n; slot = slot; number = id } ∷ [] → IsTracked first g top way → IsTracked first g top to
tracked_push first g is top way to n op slot id at number pushed tracked =
    let here : WasStored = record { node = n; slot = slot; number = id } in
    let all : IsTracked first g top (record { at = to.at; detached = to.detached; entries = way.entries ++ here ∷ [] }) = record {
      numbers = λ m k.
          same_tells m k way.entries here (number_at g m k) (λ of. ap (λ z. number_at g z k) (sym of.node_is) ∙ ap (number_at g n) (sym of.slot_is) ∙ number) ∙ tracked.numbers m k;
      storable = λ e has. elim (Contains-append_cases way.entries (here ∷ []) e has) [
        | inl old ↦ tracked.storable e old
        | inr new ↦ elim (contains_either here [] e new) [
          | inl same ↦ subst (λ (z : WasStored). IsStorable g z.node z.slot z.number) same (storable_again g is n slot id op number at)
          | inr none ↦ absurd (contains_none e none)
        ]
      ];
      covered = λ m q k j inside is_op has. covered_more way.entries (way.entries ++ here ∷ []) m k (λ e old. Contains-append_left way.entries (here ∷ []) e old) (tracked.covered m q k j inside is_op has);
    } in
    record {
      numbers = λ m k. ap (λ es. was_in es m k (number_at g m k)) pushed ∙ all.numbers m k;
      storable = λ e has. all.storable e (subst (λ es. Contains es e) pushed has);
      covered = λ m q k j inside is_op has. subst (λ es. IsCovered es m k) (sym pushed) (all.covered m q k j inside is_op has);
    }

pub pushed_covers : (way to : Way) (n : NodeId) (slot id : ℕ) → to.entries ≡ way.entries ++ record { node = n; slot = slot; number = id } ∷ [] → IsCovered to.entries n slot
pushed_covers way to n slot id pushed =
    let here : WasStored = record { node = n; slot = slot; number = id } in
    record { entry = here; listed = subst (λ es. Contains es here) (sym pushed) (Contains-append_right way.entries (here ∷ []) here (contains_first here [])); node_is = refl; slot_is = refl }

-- the tops are so still
pub tops_still : (old new : Grove) (changed : NodeId → ℕ → Type 0) → OnlyStored old new changed → (top left : NodeId) → AreTops old top left → AreTops new top left
tops_still old new changed only top left tops =
    let one = only.shape.kept top tops.top_live.node tops.top_live.found in
    let two = only.shape.kept left tops.left_live.node tops.left_live.found in
    record {
      top_live = record { node = one.0; found = one.1 };
      left_live = record { node = two.0; found = two.1 };
      phyla = λ x y at_top at_left.
          let first : x ≡ one.0 = same_Some x one.0 (sym at_top ∙ one.1) in
          let second : y ≡ two.0 = same_Some y two.0 (sym at_left ∙ two.1) in
          ap (λ z. z.label.phylum) first ∙ ap (λ (l : Kind). l.phylum) one.2 ∙ tops.phyla tops.top_live.node tops.left_live.node tops.top_live.found tops.left_live.found ∙ sym (ap (λ z. z.label.phylum) second ∙ ap (λ (l : Kind). l.phylum) two.2);
      slots = λ x slot id at_top attr number.
          let first : x ≡ one.0 = same_Some x one.0 (sym at_top ∙ one.1) in
          let phylum : x.label.phylum ≡ tops.top_live.node.label.phylum = ap (λ z. z.label.phylum) first ∙ ap (λ (l : Kind). l.phylum) one.2 in
          let attr_was : IsAttr (rules_of old.spec) tops.top_live.node.label.phylum slot = subst (λ (s : Spec). IsAttr (rules_of s) tops.top_live.node.label.phylum slot) only.spec (subst (λ X. IsAttr (rules_of new.spec) X slot) phylum attr) in
          let was = number_was old new changed only top slot id number in
          let other = tops.slots tops.top_live.node slot was.0 tops.top_live.found attr_was was.1 in
          number_now old new changed only left slot other.0 other.1;
    }
