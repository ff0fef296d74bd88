-- What the question needs whether an argument shows another value.
use Rattle.std.specs.Prelude.{◌≡◌, ◌≢◌, ℕ, suc, ◌+◌, ◌<◌, ◌≤◌, List, [], ◌∷◌, length, Option, Some, slice_get, option_map, unwrap_or, Contains}
use Rattle.std.proofs.Common.{sym, ap, ◌∙◌, subst, inl, inr, get_or, take, arith}
use Rattle.std.proofs.lemmas.List.{take_all}
use Rattle.std.proofs.lemmas.List.Elements.{Contains-append_cases}
use Rattle.sg_kinds.proofs.Kids.{take_more}
use Rattle.sg_groves.proofs.Lists.{contains_either, contains_none}
use Rattle.std.proofs.lemmas.Option.{same_Some}
use Rattle.sg_kinds.specs.Instances.{attr_count}
use Rattle.sg_kinds.specs.Dependencies.{IsAttr, phylum_there}
use Rattle.sg_kinds.specs.Specification.{args_of, rules_of}
use Rattle.sg_kinds.specs.declared.spec.Occurrence.{Occurrence}
use Rattle.sg_forest.specs.declared.node_id.NodeId.{NodeId}
use Rattle.sg_forest.specs.Node as forest
use Rattle.sg_forest.specs.Trees.{IsChild}
use Rattle.sg_groves.specs.declared.kind.Kind.{Kind}
use Rattle.sg_groves.specs.declared.part.Part.{Part}
use Rattle.sg_groves.specs.Grove.{Grove, nodes, IsGrove}
use Rattle.sg_groves.specs.Stored.{number_at, value_there}
use Rattle.sg_pool.specs.Pools.{value_at}
use Rattle.sg_kinds.specs.Evaluation.{untyped}
use Rattle.sg_dependencies.specs.Vertices.{IsVertex, locals_there}
use Rattle.sg_terms.specs.Found.{op_at}
use Rattle.sg_terms.specs.Occurrences.{node_there}
use Rattle.sg_attrib.proofs.Nodes.{operation_is}
use Rattle.sg_propagate.specs.Worklist.{Worklist}
use Rattle.sg_propagate.specs.Scenes.{AreTops, ShowsOther, own, at_top, below}
use Rattle.sg_propagate.proofs.Updating.{HasOneNumber}
use Rattle.sg_propagate.proofs.Exits.{argument_there, child_low, child_there}

module _ (g : Grove) (is : IsGrove g) (top left n : NodeId) (w : Worklist) (op : ℕ) (o : Occurrence) (tops : AreTops g top left) (at : op_at g n ≡ Some op) (vertex : IsVertex (rules_of g.spec) op o) where
  abbrev there : (m : NodeId) × (node_there g.trees n o.at ≡ Some m) × (id : ℕ) × (number_at g m o.slot ≡ Some id)
  there = argument_there g is n op o at vertex

  pub arg_low : (k : ℕ) → o.at ≡ suc k → (x : forest.Node Kind Part) → nodes g n ≡ Some x → k < x.label.arity
  arg_low k e x found = child_low g is n k there.0 (ap (node_there g.trees n) (sym e) ∙ there.1) x found

  pub arg_node : (k : ℕ) (m : NodeId) → o.at ≡ suc k → IsChild (nodes g) m n k → node_there g.trees n o.at ≡ Some m
  arg_node k m e hangs = ap (node_there g.trees n) e ∙ child_there g is n m k hangs

  module _ (k : ℕ) (e : o.at ≡ suc k) (m : NodeId) (hangs : IsChild (nodes g) m n k) (same : m ≡ top) where
    pub top_number : (id : ℕ) × (number_at g top o.slot ≡ Some id)
    top_number =
        let node : there.0 ≡ top = same_Some there.0 m (sym there.1 ∙ arg_node k m e hangs) ∙ same in
        (there.2, ap (λ c. number_at g c o.slot) (sym node) ∙ there.3)

    top_attr : (x : forest.Node Kind Part) → nodes g top ≡ Some x → IsAttr (rules_of g.spec) x.label.phylum o.slot
    top_attr x found =
        let lists = is.forest.linked.upward n k m hangs in
        let operation = operation_is g is n lists.node op lists.found at in
        let arg : slice_get (args_of g.spec.ops op) k ≡ Some x.label.phylum = operation.kids k m x lists.lists (ap (nodes g) same ∙ found) in
        let low : o.slot < attr_count (rules_of g.spec) (phylum_there g.spec.ops op (suc k)) + locals_there (rules_of g.spec) op (suc k) = subst (λ j. o.slot < attr_count (rules_of g.spec) (phylum_there g.spec.ops op j) + locals_there (rules_of g.spec) op j) e vertex in
        let here : o.slot < attr_count (rules_of g.spec) (Some x.label.phylum) + 0 = subst (λ p. o.slot < attr_count (rules_of g.spec) p + 0) arg low in
        omega (arith, here)

    pub left_number : (id : ℕ) × (number_at g left o.slot ≡ Some id)
    left_number = let x = tops.top_live in let number = top_number in tops.slots x.node o.slot number.0 x.found (top_attr x.node x.found) number.1

    -- at the new top the values are compared
    pub shows_top : value_there g top o.slot ≢ value_there g left o.slot → ShowsOther g top left n w o
    shows_top differs = at_top k e (arg_node k m e hangs ∙ ap (λ c. Some c) same) differs

    pub top_shows : ShowsOther g top left n w o → value_there g top o.slot ≢ value_there g left o.slot
    top_shows (own zero_at has) = absurd (omega (arith, zero_at, e))
    top_shows (at_top j f is_top differs) = differs
    top_shows (below j c f is_c apart has) = absurd (apart (same_Some c m (sym is_c ∙ arg_node k m e hangs) ∙ same))

    -- and values are others exactly where their numbers are
    module _ (one : HasOneNumber g.pool) (a b : ℕ) (a_is : number_at g top o.slot ≡ Some a) (b_is : number_at g left o.slot ≡ Some b) (a_low : a < length g.pool) (b_low : b < length g.pool) where
      a_value : value_there g top o.slot ≡ value_at g.pool a
      a_value = ap (λ (i : Option ℕ). unwrap_or (option_map (value_at g.pool) i) untyped) a_is

      b_value : value_there g left o.slot ≡ value_at g.pool b
      b_value = ap (λ (i : Option ℕ). unwrap_or (option_map (value_at g.pool) i) untyped) b_is

      pub numbers_show : a ≢ b → ShowsOther g top left n w o
      numbers_show differ = shows_top (λ same. differ (one a b a_low b_low (sym a_value ∙ same ∙ b_value)))

      pub show_numbers : ShowsOther g top left n w o → a ≢ b
      show_numbers shows same = top_shows shows (a_value ∙ ap (value_at g.pool) same ∙ sym b_value)

  -- elsewhere its slot is noted
  module _ (k : ℕ) (e : o.at ≡ suc k) (m : NodeId) (hangs : IsChild (nodes g) m n k) (apart : m ≢ top) where
    pub shows_below : Contains w.changed (m.key, o.slot) → ShowsOther g top left n w o
    shows_below has = below k m e (arg_node k m e hangs) apart has

    pub below_shows : ShowsOther g top left n w o → Contains w.changed (m.key, o.slot)
    below_shows (own zero_at has) = absurd (omega (arith, zero_at, e))
    below_shows (at_top j f is_top differs) = absurd (apart (same_Some m top (sym (arg_node k m e hangs) ∙ is_top)))
    below_shows (below j c f is_c other has) = subst (λ d. Contains w.changed (d.key, o.slot)) (same_Some c m (sym is_c ∙ arg_node k m e hangs)) has

pub own_shows : (g : Grove) (top left n : NodeId) (w : Worklist) (o : Occurrence) → o.at ≡ 0 → ShowsOther g top left n w o → Contains w.changed (n.key, o.slot)
own_shows g top left n w o e (own zero_at has) = has
own_shows g top left n w o e (at_top j f is_top differs) = absurd (omega (arith, e, f))
own_shows g top left n w o e (below j c f is_c apart has) = absurd (omega (arith, e, f))

-- of these none shows another value
abbrev pub ShowsNone : Grove → NodeId → NodeId → NodeId → Worklist → List Occurrence → Type 0
ShowsNone g top left n w os = (o : Occurrence) → Contains os o → ShowsOther g top left n w o → ⊥

module _ (g : Grove) (top left n : NodeId) (w : Worklist) (os : List Occurrence) where
  pub shows_none_yet : ShowsNone g top left n w (take 0 os)
  shows_none_yet o has shows = contains_none o has

  pub shows_none_more : (i : ℕ) (o : Occurrence) → i < length os → o ≡ get_or os i o → ShowsNone g top left n w (take i os) → (ShowsOther g top left n w o → ⊥) → ShowsNone g top left n w (take (i + 1) os)
  shows_none_more i o low at before not a has shows = elim (Contains-append_cases (take i os) (o ∷ []) a (subst (λ xs. Contains xs a) (take_more os i o low at) has)) [
    | inl early ↦ before a early shows
    | inr late ↦ elim (contains_either o [] a late) [
      | inl same ↦ not (subst (ShowsOther g top left n w) (sym same) shows)
      | inr none ↦ contains_none a none
    ]
  ]

  pub shows_none_all : (i : ℕ) → length os ≤ i → ShowsNone g top left n w (take i os) → ShowsNone g top left n w os
  shows_none_all i long none o has = none o (subst (λ xs. Contains xs o) (sym (take_all i os long)) has)
