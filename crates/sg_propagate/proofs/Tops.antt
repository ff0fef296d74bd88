-- The tops of two trees of one phylum: the numbers of their attributes, and what may be handed from one to the other.
use Rattle.std.specs.Prelude.{◌≡◌, ◌⊎◌, ℕ, zero, suc, ◌+◌, ◌<◌, Bool, true, false, [], ◌∷◌, length, map, Option, Some, None, slice_get, option_map, option_and_then, unwrap_or, MatchOption}
use Rattle.std.proofs.Common.{refl, sym, ap, ◌∙◌, subst, inl, inr, arith}
use Rattle.std.proofs.lemmas.Bool.{cases_eq, cases_lt, false≢true}
use Rattle.std.proofs.lemmas.List.{length-map}
use Rattle.std.proofs.lemmas.Option.{none-some, same_Some, slice_get_within}
use Rattle.sg_kinds.proofs.Elementary.{option_map_some, slice_get-All, slice_get-before, slice_get-there}
use Rattle.sg_kinds.specs.Dependencies.{IsAttr}
use Rattle.sg_kinds.specs.Fits.{MayHold}
use Rattle.sg_kinds.specs.Specification.{attrs_of, has_shape, is_inherited, is_leaf_shape, is_way_inherited, locals_of, phylum_of, rules_of}
use Rattle.sg_kinds.specs.Typing.{attr_types, slot_type, slots_there}
use Rattle.sg_kinds.specs.declared.spec.Attr.{Attr}
use Rattle.sg_kinds.specs.declared.spec.Local.{Local}
use Rattle.sg_kinds.specs.declared.spec.Operator.{Operator}
use Rattle.sg_kinds.specs.declared.spec.Phylum.{Phylum}
use Rattle.sg_kinds.specs.declared.spec.Spec.{Spec}
use Rattle.sg_plans.proofs.Equations.{leaf_inherits_nothing, no_leaf_operator}
use Rattle.sg_plans.proofs.Nodes.{leaf_fits}
use Rattle.sg_forest.specs.declared.node_id.NodeId.{NodeId}
use Rattle.sg_forest.specs.Node as forest
use Rattle.sg_forest.specs.Trees.{IsLive}
use Rattle.sg_forest.specs.Steps.{SameSort}
use Rattle.sg_forest.proofs.Paths.{cases_id}
use Rattle.sg_groves.specs.declared.kind.Kind.{Kind}
use Rattle.sg_groves.specs.declared.part.Part.{Part}
use Rattle.sg_groves.specs.Grove.{Grove, nodes, IsTyped, IsLeaf, IsOperation, IsGrove}
use Rattle.sg_groves.specs.Stored.{number_at}
use Rattle.sg_groves.specs.Unchanged.{OnlyStored}
use Rattle.sg_groves.proofs.Frames.{only_itself, only_more, only_number, only_twice}
use Rattle.sg_terms.specs.Found.{op_at}
use Rattle.sg_terms.specs.Storable.{IsSlot, IsStorable}
use Rattle.sg_terms.proofs.Written.{storable_again}
use Rattle.sg_trail.proofs.Saving.{op_there, operation_is, slot_there}
use Rattle.sg_propagate.specs.Moves.{IsSlotAt}
use Rattle.sg_propagate.specs.Scenes.{AreTops}
use Rattle.sg_propagate.proofs.Tracked.{storable_still}

-- an inherited slot is one of the phylum's attributes
pub inherited_attr : (spec : Spec) (X slot : ℕ) → is_inherited spec.phyla X slot ≡ true → IsAttr (rules_of spec) X slot
inherited_attr spec X slot inherited = by (slice_get (attrs_of spec.phyla X) slot) refl inherited
  where
    by : (o : Option Attr) → slice_get (attrs_of spec.phyla X) slot ≡ o → unwrap_or (option_map (λ (a : Attr). is_way_inherited a.way) o) false ≡ true → IsAttr (rules_of spec) X slot
    by None at is = absurd (false≢true is)
    by (Some a) at is = slice_get_within (attrs_of spec.phyla X) slot a at

-- what a test says of another record of the same specification
pub tested : (s z : Spec) (X Y slot : ℕ) (b r : Bool) → z ≡ s → Y ≡ X → b ≡ is_inherited z.phyla Y slot → b ≡ r → is_inherited s.phyla X slot ≡ r
tested s z X Y slot b r spec phylum test is = ap (λ (w : Spec). is_inherited w.phyla X slot) (sym spec) ∙ ap (λ W. is_inherited z.phyla W slot) (sym phylum) ∙ sym test ∙ is

leaf_slot : (a b slot id : ℕ) → slice_get (a ∷ []) slot ≡ Some id → (other : ℕ) × (slice_get (b ∷ []) slot ≡ Some other)
leaf_slot a b zero id e = (b, refl)
leaf_slot a b (suc slot) id e = absurd (none-some id e)

module _ (g : Grove) (is : IsGrove g) where
  leaf_is : (n : NodeId) (x : forest.Node Kind Part) → nodes g n ≡ Some x → x.label.op ≡ None → IsLeaf g x
  leaf_is n x found none = by x.label.op none (is.each n x found)
    where
      by : (o : Option ℕ) → o ≡ None → MatchOption o (IsLeaf g x) (IsOperation g x) → IsLeaf g x
      by None e leaf = leaf
      by (Some op) e operation = absurd (none-some op (sym e))

  leaf_shaped : (n : NodeId) (x : forest.Node Kind Part) → nodes g n ≡ Some x → x.label.op ≡ None → has_shape g.spec.phyla is_leaf_shape x.label.phylum ≡ true
  leaf_shaped n x found none = let leaf = leaf_is n x found none in leaf_fits g.spec x.label.phylum leaf.value x.label.phylum (refl, leaf.held)

  op_found : (n : NodeId) (x : forest.Node Kind Part) (op : ℕ) → nodes g n ≡ Some x → x.label.op ≡ Some op → op_at g n ≡ Some op
  op_found n x op found some = ap (option_and_then (λ (y : forest.Node Kind Part). y.label.op)) found ∙ some

  -- a node whose phylum has an inherited attribute is one of an operator
  pub inherits_op : (n : NodeId) (x : forest.Node Kind Part) (slot : ℕ) → nodes g n ≡ Some x → is_inherited g.spec.phyla x.label.phylum slot ≡ true → (op : ℕ) × (op_at g n ≡ Some op)
  inherits_op n x slot found inherited = by x.label.op refl
    where
      by : (o : Option ℕ) → x.label.op ≡ o → (op : ℕ) × (op_at g n ≡ Some op)
      by None none = absurd (false≢true (sym (leaf_inherits_nothing g.spec is.sound.shapes x.label.phylum slot (leaf_shaped n x found none)) ∙ inherited))
      by (Some op) some = (op, op_found n x op found some)

  -- the phylum of a node is there
  pub phylum_low : (n : NodeId) (x : forest.Node Kind Part) → nodes g n ≡ Some x → x.label.phylum < length g.spec.phyla
  phylum_low n x found = by x.label.op refl
    where
      held : (leaf : IsLeaf g x) (o : Option Phylum) → slice_get g.spec.phyla x.label.phylum ≡ o → MatchOption o ⊥ (λ (p : Phylum). MayHold g.spec p.shape leaf.value) → x.label.phylum < length g.spec.phyla
      held leaf None at none = absurd none
      held leaf (Some p) at may = slice_get_within g.spec.phyla x.label.phylum p at

      by : (o : Option ℕ) → x.label.op ≡ o → x.label.phylum < length g.spec.phyla
      by None none = let leaf = leaf_is n x found none in held leaf (slice_get g.spec.phyla x.label.phylum) refl leaf.held
      by (Some op) some =
          let operation = operation_is g is n x op found (op_found n x op found some) in
          let o = option_map_some (λ (p : Operator). p.phylum) (slice_get g.spec.ops op) x.label.phylum operation.phylum in
          let low = slice_get-All (λ (p : Operator). p.phylum < length g.spec.phyla) g.spec.ops op o.0 is.sound.shapes.ops o.1 in
          subst (λ X. X < length g.spec.phyla) o.2 low

  own_type : (X slot : ℕ) → IsAttr (rules_of g.spec) X slot → (type : ℕ) × (slice_get (attr_types g.spec (Some X)) slot ≡ Some type)
  own_type X slot attr = slice_get-there (attr_types g.spec (Some X)) slot (let long = length-map (attrs_of g.spec.phyla X) (λ (a : Attr). a.of) in omega (arith, attr, long))

  -- an attribute of its phylum has the same type at each operator
  attr_type : (n : NodeId) (x : forest.Node Kind Part) (op slot type : ℕ) → nodes g n ≡ Some x → op_at g n ≡ Some op → slice_get (attr_types g.spec (Some x.label.phylum)) slot ≡ Some type → slot_type g.spec op 0 slot ≡ Some type
  attr_type n x op slot type found at has =
      let operation = operation_is g is n x op found at in
      slice_get-before (attr_types g.spec (phylum_of g.spec.ops op)) (map (λ (l : Local). l.of) (locals_of g.spec.ops op)) slot type (ap (λ o. slice_get (attr_types g.spec o) slot) operation.phylum ∙ has)

  attr_number : (n : NodeId) (x : forest.Node Kind Part) (op slot : ℕ) → nodes g n ≡ Some x → op_at g n ≡ Some op → IsAttr (rules_of g.spec) x.label.phylum slot → (id : ℕ) × (number_at g n slot ≡ Some id)
  attr_number n x op slot found at attr =
      let type = own_type x.label.phylum slot attr in
      slot_there g is n op slot at (slice_get_within (slots_there g.spec op 0) slot type.0 (attr_type n x op slot type.0 found at type.1))

  module _ (top left : NodeId) (one : IsLive (nodes g) top) (two : IsLive (nodes g) left) (phyla : SameSort (λ (k : Kind). k.phylum) (nodes g) top left) where
    left_number : (x : forest.Node Kind Part) (slot id : ℕ) → nodes g top ≡ Some x → IsAttr (rules_of g.spec) x.label.phylum slot → number_at g top slot ≡ Some id → (other : ℕ) × (number_at g left slot ≡ Some other)
    left_number x slot id found attr number = by two.node.label.op refl
      where
        same : x.label.phylum ≡ two.node.label.phylum
        same = phyla x two.node found two.found

        leaves : (o : Option ℕ) → x.label.op ≡ o → two.node.label.op ≡ None → (other : ℕ) × (number_at g left slot ≡ Some other)
        leaves (Some op) some none =
            let at = op_found top x op found some in
            let operation = operation_is g is top x op found at in
            let shaped : has_shape g.spec.phyla is_leaf_shape x.label.phylum ≡ true = ap (has_shape g.spec.phyla is_leaf_shape) same ∙ leaf_shaped left two.node two.found none in
            absurd (false≢true (sym (no_leaf_operator g.spec is.sound.shapes op x.label.phylum operation.phylum (op_there g is top op at)) ∙ shaped))
        leaves None none_top none =
            let here = leaf_is top x found none_top in
            let there = leaf_is left two.node two.found none in
            let value : slice_get (here.id ∷ []) slot ≡ Some id = sym (ap (λ ids. slice_get ids slot) here.values) ∙ sym (ap (option_and_then (λ (y : forest.Node Kind Part). slice_get y.part.values slot)) found) ∙ number in
            let other = leaf_slot here.id there.id slot id value in
            (other.0, ap (option_and_then (λ (y : forest.Node Kind Part). slice_get y.part.values slot)) two.found ∙ ap (λ ids. slice_get ids slot) there.values ∙ other.1)

        by : (o : Option ℕ) → two.node.label.op ≡ o → (other : ℕ) × (number_at g left slot ≡ Some other)
        by None none = leaves x.label.op refl none
        by (Some op) some = attr_number left two.node op slot two.found (op_found left two.node op two.found some) (subst (λ X. IsAttr (rules_of g.spec) X slot) same attr)

    pub tops_there : AreTops g top left
    tops_there = record { top_live = one; left_live = two; phyla = phyla; slots = left_number }

  -- an inherited attribute has numbers at both, and that of one may be stored at the other
  module _ (top left : NodeId) (tops : AreTops g top left) (x : forest.Node Kind Part) (found : nodes g top ≡ Some x) (slot : ℕ) (inherited : is_inherited g.spec.phyla x.label.phylum slot ≡ true) where
    abbrev y : forest.Node Kind Part
    y = tops.left_live.node

    same_phylum : x.label.phylum ≡ y.label.phylum
    same_phylum = tops.phyla x y found tops.left_live.found

    attr : IsAttr (rules_of g.spec) x.label.phylum slot
    attr = inherited_attr g.spec x.label.phylum slot inherited

    left_op : (op : ℕ) × (op_at g left ≡ Some op)
    left_op = inherits_op left y slot tops.left_live.found (ap (λ X. is_inherited g.spec.phyla X slot) (sym same_phylum) ∙ inherited)

    pub handed_number : (id : ℕ) × (number_at g left slot ≡ Some id)
    handed_number = attr_number left y left_op.0 slot tops.left_live.found left_op.1 (subst (λ X. IsAttr (rules_of g.spec) X slot) same_phylum attr)

    pub handed_storable : (id : ℕ) → number_at g left slot ≡ Some id → IsStorable g top slot id
    handed_storable id number =
        let top_op = inherits_op top x slot found inherited in
        let st = storable_again g is left slot id left_op.0 number left_op.1 in
        let type = own_type x.label.phylum slot attr in
        let has = attr_type left y left_op.0 slot type.0 tops.left_live.found left_op.1 (ap (λ X. slice_get (attr_types g.spec (Some X)) slot) (sym same_phylum) ∙ type.1) in
        let same_op : st.op ≡ left_op.0 = same_Some st.op left_op.0 (sym st.is ∙ left_op.1) in
        let same : st.type ≡ type.0 = same_Some st.type type.0 (sym st.has_type ∙ ap (λ o. slot_type g.spec o 0 slot) same_op ∙ has) in
        record { op = top_op.0; is = top_op.1; type = type.0; has_type = attr_type top x top_op.0 slot type.0 found top_op.1 type.1; typed = subst (λ t. IsTyped g.spec g.pool t id) same st.typed }

-- the inherited values of the first slots are handed over
pub record IsTakingOver (first now : Grove) (top left : NodeId) (k : ℕ) : Type 0 where
  pub stored : OnlyStored first now (IsSlotAt top)
  pub same : (slot : ℕ) → number_at now left slot ≡ number_at first left slot
  pub handed : (x : forest.Node Kind Part) (slot : ℕ) → slot < k → nodes first top ≡ Some x → is_inherited first.spec.phyla x.label.phylum slot ≡ true → number_at now top slot ≡ number_at first left slot

pub taking_first : (g : Grove) (top left : NodeId) → IsTakingOver g g top left 0
taking_first g top left = record { stored = only_itself g (IsSlotAt top); same = λ slot. refl; handed = λ x slot low found inherited. absurd (omega (arith, low)) }

module _ (first now : Grove) (top left : NodeId) (k : ℕ) (x : forest.Node Kind Part) (found : nodes first top ≡ Some x) (t : IsTakingOver first now top left k) where
  -- a slot that is not inherited
  pub taking_skip : is_inherited first.spec.phyla x.label.phylum k ≡ false → IsTakingOver first now top left (k + 1)
  taking_skip none = record {
    stored = t.stored;
    same = t.same;
    handed = λ y slot low at inherited. elim (cases_lt slot k) [
      | inl less ↦ t.handed y slot less at inherited
      | inr past ↦
          let here : slot ≡ k = omega (arith, low, past) in
          let same : y ≡ x = same_Some y x (sym at ∙ found) in
          absurd (false≢true (sym none ∙ ap (λ j. is_inherited first.spec.phyla x.label.phylum j) (sym here) ∙ ap (λ (z : forest.Node Kind Part). is_inherited first.spec.phyla z.label.phylum slot) (sym same) ∙ inherited))
    ];
  }

  -- what the next slot needs
  module _ (is : IsGrove first) (tops : AreTops first top left) (inherited : is_inherited first.spec.phyla x.label.phylum k ≡ true) where
    pub taking_number : (id : ℕ) × (number_at now left k ≡ Some id)
    taking_number = let was = handed_number first is top left tops x found k inherited in (was.0, t.same k ∙ was.1)

    pub taking_storable : (id : ℕ) → number_at now left k ≡ Some id → IsStorable now top k id
    taking_storable id number = storable_still first now (IsSlotAt top) t.stored top k id (handed_storable first is top left tops x found k inherited id (sym (t.same k) ∙ number))

  -- and the slot where it is stored
  module _ (new : Grove) (id : ℕ) (number : number_at now left k ≡ Some id) (only : OnlyStored now new (IsSlot top k)) (stored : number_at new top k ≡ Some id) where
    kept : (n : NodeId) (slot : ℕ) → (IsSlot top k n slot → ⊥) → number_at new n slot ≡ number_at now n slot
    kept n slot out = only_number now new (IsSlot top k) only n slot out

    -- the other node's number stays, also where it is the same node
    left_same : (slot : ℕ) → (left ≡ top) ⊎ (left ≡ top → ⊥) → (slot ≡ k) ⊎ (slot ≡ k → ⊥) → number_at new left slot ≡ number_at now left slot
    left_same slot (inl node) (inl here) = ap (λ n. number_at new n slot) node ∙ ap (number_at new top) here ∙ stored ∙ sym number ∙ sym (ap (number_at now left) here)
    left_same slot (inl node) (inr other) = kept left slot (λ s. other s.same)
    left_same slot (inr apart) here = kept left slot (λ s. apart s.node)

    pub taking_next : IsTakingOver first new top left (k + 1)
    taking_next = record {
      stored = only_more first new (λ n slot. IsSlotAt top n slot ⊎ IsSlot top k n slot) (IsSlotAt top) (λ n slot either. elim either [ inl at ↦ at | inr s ↦ s.node ]) (only_twice first now new (IsSlotAt top) (IsSlot top k) t.stored only);
      same = λ slot. left_same slot (cases_id left top) (cases_eq slot k) ∙ t.same slot;
      handed = λ y slot low at inherited. elim (cases_lt slot k) [
        | inl less ↦ kept top slot (λ s. let same = s.same in absurd (omega (arith, same, less))) ∙ t.handed y slot less at inherited
        | inr past ↦
            let here : slot ≡ k = omega (arith, low, past) in
            ap (number_at new top) here ∙ stored ∙ sym number ∙ t.same k ∙ sym (ap (number_at first left) here)
      ];
    }
