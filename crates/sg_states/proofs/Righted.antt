-- What the nodes of a right tree show is what their term has from scratch.
use Rattle.std.specs.Prelude.{◌≡◌, refl, ℕ, zero, suc, ◌<◌, Bool, true, false, not, List, [], ◌∷◌, length, map, Option, Some, None, slice_get, option_map, option_and_then, unwrap_or, MatchOption}
use Rattle.std.specs.Option.{is_some}
use Rattle.std.proofs.Common.{sym, ap, ◌∙◌, subst, arith, inl, inr, length-append}
use Rattle.std.proofs.lemmas.List.{length-map}
use Rattle.std.proofs.lemmas.Bool.{false≢true}
use Rattle.std.proofs.lemmas.Option.{none-some, same_Some, slice_get_within}
use Rattle.sg_kinds.specs.Values.{Bytes, Value, Fault}
use Rattle.sg_kinds.specs.Terms.{Term, Terms, Node}
use Rattle.sg_kinds.specs.Fits.{Fits}
use Rattle.sg_kinds.specs.Places.{Place, sub}
use Rattle.sg_kinds.specs.Nets.{Reference, Holding, label_of, net_of, phylum_at}
use Rattle.sg_kinds.specs.Instances.{Site, site_of, instances, attr_count}
use Rattle.sg_kinds.specs.Dependencies.{is_inherited_there, occurrence}
use Rattle.sg_kinds.specs.FromScratch.{scratch, site_value, value_in, leaf_or}
use Rattle.sg_kinds.specs.declared.marks.FaultKind.TheVariants.{Fuel}
use Rattle.sg_orders.specs.Keys.{operation, operator_in}
use Rattle.sg_kinds.specs.Specification.{args_of, attrs_of, locals_of, phylum_of, is_inherited, is_way_inherited, rules_of}
use Rattle.sg_kinds.specs.Typing.{slot_type, slots_there, attr_types}
use Rattle.sg_kinds.proofs.InView.{schemes_in_views, slot_type_in_view}
use Rattle.sg_kinds.specs.declared.spec.Spec.{Spec}
use Rattle.sg_kinds.specs.declared.spec.Attr.{Attr}
use Rattle.sg_kinds.specs.declared.spec.Local.{Local}
use Rattle.sg_forest.specs.declared.node_id.NodeId.{NodeId}
use Rattle.sg_forest.specs.Trees.{IsRoot}
use Rattle.sg_forest.specs.Node as forest
use Rattle.sg_groves.specs.declared.kind.Kind.{Kind}
use Rattle.sg_groves.specs.declared.part.Part.{Part}
use Rattle.sg_groves.specs.Grove.{Grove, nodes, spec_shown, IsGrove, IsLeaf, IsOperation}
use Rattle.sg_groves.specs.Holds.{Holds, IsPlaced}
use Rattle.sg_groves.specs.IsRight.{IsRight}
use Rattle.sg_groves.specs.Stored.{number_at, value_there}
use Rattle.sg_groves.proofs.Held.{one_term, node_held}
use Rattle.sg_dependencies.specs.Vertices.{IsVertex}
use Rattle.sg_plans.proofs.Nodes.{IsNodeAt, node_label, node_at, some_term, leaf_or_node, fitting_phylum, below_at}
use Rattle.sg_plans.proofs.Bearers.{owed_site}
use Rattle.sg_terms.specs.Found.{op_at}
use Rattle.sg_attrib.proofs.Nodes.{leaf_value_there, label_op, op_label, not_held}
use Rattle.sg_unparse.specs.Along.{node_along, kid_of, stored}
use Rattle.sg_unparse.specs.Begins.{none_typed}
use Rattle.sg_unparse.specs.Cells.{reference, marks_of, unparsed}
use Rattle.sg_unparse.proofs.Placed.{climbs_along, occurrence_stored}
use Rattle.sg_states.proofs.Alike.{ShowsSame, marks_alike, unparsed_same}

-- slots and vertices
types_long : (spec : Spec) (o : Option ℕ) → length (attr_types spec o) ≡ attr_count (rules_of spec) o
types_long spec None = refl
types_long spec (Some X) = length-map (attrs_of spec.phyla X) (λ (a : Attr). a.of)

own_vertex : (spec : Spec) (op slot p : ℕ) → slot_type spec op 0 slot ≡ Some p → IsVertex (rules_of spec) op (occurrence 0 slot)
own_vertex spec op slot p is =
    let low = slice_get_within (slots_there spec op 0) slot p is in
    let long = length-append (attr_types spec (phylum_of spec.ops op)) (map (λ (l : Local). l.of) (locals_of spec.ops op)) in
    let attrs = types_long spec (phylum_of spec.ops op) in
    let locals = length-map (locals_of spec.ops op) (λ (l : Local). l.of) in
    omega (arith, low, long, attrs, locals)

attr_vertex : (spec : Spec) (op slot X : ℕ) → phylum_of spec.ops op ≡ Some X → slot < attr_count (rules_of spec) (Some X) → IsVertex (rules_of spec) op (occurrence 0 slot)
attr_vertex spec op slot X is low = (let e = ap (attr_count (rules_of spec)) is in omega (arith, low, e))

attr_low : (spec : Spec) (op k slot p X : ℕ) → slice_get (args_of spec.ops op) k ≡ Some X → slot_type spec op (suc k) slot ≡ Some p → slot < attr_count (rules_of spec) (Some X)
attr_low spec op k slot p X arg is =
    let low = slice_get_within (slots_there spec op (suc k)) slot p is in
    let long = types_long spec (slice_get (args_of spec.ops op) k) in
    let e = ap (attr_count (rules_of spec)) arg in
    omega (arith, low, long, e)

-- a leaf has one slot
one_slot : (xs : List ℕ) (id slot n : ℕ) → xs ≡ id ∷ [] → slice_get xs slot ≡ Some n → slot ≡ 0
one_slot xs id zero n e at = refl
one_slot xs id (suc slot) n e at = absurd (none-some n (sym (ap (λ l. slice_get l (suc slot)) e) ∙ at))

module _ (g : Grove) (is : IsGrove g) where
  no_op : (root : NodeId) (t : Term) (m : NodeId) (u : Place) → IsPlaced g root t u m → (q : ℕ) (v : Value) → label_of (sub t u) ≡ Holding q v → op_at g m ≡ None
  no_op root t m u placed q v label = by (op_at g m) refl
    where
      by : (o : Option ℕ) → op_at g m ≡ o → op_at g m ≡ None
      by None e = e
      by (Some op) e = absurd (not_held op q v (sym label ∙ op_label g is m root t u placed op e))

  leaf_slot : (m : NodeId) (slot n : ℕ) → op_at g m ≡ None → number_at g m slot ≡ Some n → slot ≡ 0
  leaf_slot m slot n leaf number = by (nodes g m) refl leaf number
    where
      shaped : (x : forest.Node Kind Part) → (o : Option ℕ) → o ≡ None → MatchOption o (IsLeaf g x) (IsOperation g x) → IsLeaf g x
      shaped x None e l = l
      shaped x (Some op) e l = absurd (none-some op (sym e))

      by : (o : Option (forest.Node Kind Part)) → nodes g m ≡ o → option_and_then (λ x. x.label.op) o ≡ None → option_and_then (λ x. slice_get x.part.values slot) o ≡ Some n → slot ≡ 0
      by None found leaf number = absurd (none-some n number)
      by (Some x) found leaf number =
          let l = shaped x x.label.op leaf (is.each m x found) in
          one_slot x.part.values l.id slot n l.values number

  -- the root of a right tree, whose phylum has no inherited attribute
  module _ (root : NodeId) (t : Term) (top : IsRoot (nodes g) root) (holds : Holds g root t) (right : IsRight g root)
      (X : ℕ) (fits : Fits g.spec t X) (none : (slot : ℕ) → is_inherited g.spec.phyla X slot ≡ false) where
    abbrev HasSite : Place → ℕ → Type 0
    HasSite u slot = (i : Site Place) × (site_of (rules_of g.spec) (net_of t) (record { node = u; slot = slot }) ≡ Some i)

    -- an inherited attribute has its equation above
    from_above : (u : Place) (slot : ℕ) → IsNodeAt t u → is_inherited_there (rules_of g.spec) (operator_in t u) 0 slot ≡ true → slot < attr_count (rules_of g.spec) (phylum_of g.spec.ops (operator_in t u)) → HasSite u slot
    from_above [] slot node inherited low =
        let s = some_term t [] node in
        let phylum : phylum_of g.spec.ops (operator_in t []) ≡ Some X = sym (ap (phylum_at g.spec.ops) node) ∙ fitting_phylum g.spec t X fits in
        absurd (false≢true (sym (none slot) ∙ sym (ap (λ o. unwrap_or (option_map (λ Y. is_inherited g.spec.phyla Y slot) o) false) phylum) ∙ inherited))
    from_above (k ∷ w) slot node inherited low =
        let b = below_at g.spec t X fits k w node in
        let there : is_inherited_there (rules_of g.spec) (operator_in t w) (suc k) slot ≡ true =
        ap (λ o. unwrap_or (option_map (λ Y. is_inherited g.spec.phyla Y slot) o) false) (b.arg ∙ sym b.left) ∙ inherited in
        let count : attr_count (rules_of g.spec) (phylum_of g.spec.ops (operator_in t (k ∷ w))) ≡ attr_count (rules_of g.spec) (slice_get (args_of g.spec.ops (operator_in t w)) k) =
        ap (attr_count (rules_of g.spec)) (b.left ∙ sym b.arg) in
        let s = owed_site g.spec t X is.sound fits w (occurrence (suc k) slot) b.above (omega (arith, low, count)) there in
        (record { node = w; rule = s.rule }, s.found)

    inherited_low : (op slot : ℕ) → is_inherited_there (rules_of g.spec) op 0 slot ≡ true → slot < attr_count (rules_of g.spec) (phylum_of g.spec.ops op)
    inherited_low op slot h = by (phylum_of g.spec.ops op) h
      where
        attr : (Y : ℕ) (o : Option Attr) → slice_get (attrs_of g.spec.phyla Y) slot ≡ o → is_inherited g.spec.phyla Y slot ≡ true → slot < length (attrs_of g.spec.phyla Y)
        attr Y None e h = absurd (false≢true (sym (ap (λ o. unwrap_or (option_map (λ (a : Attr). is_way_inherited a.way) o) false) e) ∙ h))
        attr Y (Some a) e h = slice_get_within (attrs_of g.spec.phyla Y) slot a e

        by : (o : Option ℕ) → unwrap_or (option_map (λ Y. is_inherited g.spec.phyla Y slot) o) false ≡ true → slot < attr_count (rules_of g.spec) o
        by None h = absurd (false≢true h)
        by (Some Y) h = attr Y (slice_get (attrs_of g.spec.phyla Y) slot) refl h

    has_site : (u : Place) (slot : ℕ) → IsNodeAt t u → IsVertex (rules_of g.spec) (operator_in t u) (occurrence 0 slot) → HasSite u slot
    has_site u slot node there = by (is_inherited_there (rules_of g.spec) (operator_in t u) 0 slot) refl
      where
        by : (b : Bool) → is_inherited_there (rules_of g.spec) (operator_in t u) 0 slot ≡ b → HasSite u slot
        by true inherited = from_above u slot node inherited (inherited_low (operator_in t u) slot inherited)
        by false own = (let s = owed_site g.spec t X is.sound fits u (occurrence 0 slot) node there (ap not own) in (record { node = u; rule = s.rule }, s.found))

    -- what has an equation is right
    site_right : (u : Place) (slot : ℕ) (x : Term) → sub t u ≡ Some x → HasSite u slot → stored g root (record { node = u; slot = slot }) ≡ value_in g.spec t (record { node = u; slot = slot })
    site_right u slot x at site =
        let n = node_held g is u root t x holds at in
        let same : right.term ≡ t = one_term g root right.term t right.holds holds in
        let found : site_of (rules_of g.spec) (net_of right.term) (record { node = u; slot = slot }) ≡ Some site.0 =
        ap (λ z. site_of (rules_of g.spec) (net_of z) (record { node = u; slot = slot })) same ∙ site.1 in
        ap (λ m. value_there g m slot) (climbs_along g is root u n.0 n.1)
        ∙ right.right u n.0 slot site.0 n.1 found
        ∙ ap (λ z. value_in g.spec z (record { node = u; slot = slot })) same

    -- a leaf has its own value
    leaf_scratch : (m : ℕ) (a : Reference Place) (p : ℕ) (v : Value) → label_of (sub t a.node) ≡ Holding p v → scratch g.spec (net_of t) m a ≡ v
    leaf_scratch zero a p v label = ap (λ l. leaf_or l (Fault Fuel)) label
    leaf_scratch (suc m) a p v label = ap (λ l. leaf_or l (site_value g.spec (net_of t) (scratch g.spec (net_of t) m) (site_of (rules_of g.spec) (net_of t) a))) label

    leaf_right : (u : Place) (op n k slot : ℕ) (elided : Bool) (ts : Terms) (p q : ℕ) (v : Value) (x : Term) → sub t u ≡ Some (Node op n elided ts) → slot_type g.spec op (suc k) slot ≡ Some p → sub t (k ∷ u) ≡ Some x
        → label_of (sub t (k ∷ u)) ≡ Holding q v → stored g root (record { node = k ∷ u; slot = slot }) ≡ value_in g.spec t (record { node = k ∷ u; slot = slot })
    leaf_right u op n k slot elided ts p q v x at has there label =
        let above = node_held g is u root t (Node op n elided ts) holds at in
        let m = node_held g is (k ∷ u) root t x holds there in
        let placed : IsPlaced g root t u above.0 = record { top = top; holds = holds; way = above.1 } in
        let own : op_at g above.0 ≡ Some op = label_op g is above.0 root t u placed op (ap label_of at) in
        let kid = occurrence_stored g is above.0 op own (occurrence (suc k) slot) (ap is_some has) in
        let along : node_along g root (k ∷ u) ≡ kid.1.node = ap (λ z. unwrap_or (kid_of g z k) root) (climbs_along g is root u above.0 above.1) ∙ ap (λ o. unwrap_or o root) kid.1.there in
        let same : kid.1.node ≡ m.0 = sym along ∙ climbs_along g is root (k ∷ u) m.0 m.1 in
        let number : number_at g m.0 slot ≡ Some kid.1.id = ap (λ z. number_at g z slot) (sym same) ∙ kid.1.number in
        let below : IsPlaced g root t (k ∷ u) m.0 = record { top = top; holds = holds; way = m.1 } in
        let leaf : op_at g m.0 ≡ None = no_op root t m.0 (k ∷ u) below q v label in
        let first : slot ≡ 0 = leaf_slot m.0 slot kid.1.id leaf number in
        ap (λ z. value_there g z slot) (climbs_along g is root (k ∷ u) m.0 m.1)
        ∙ ap (value_there g m.0) first
        ∙ leaf_value_there g is m.0 root t (k ∷ u) below q v label
        ∙ sym (leaf_scratch (length (instances (rules_of g.spec) t)) (record { node = k ∷ u; slot = slot }) q v label)

    -- whatever a node of an operator shows is right
    shown_right : (u : Place) (op n : ℕ) (elided : Bool) (ts : Terms) → sub t u ≡ Some (Node op n elided ts) → ShowsSame g.spec (stored g root) (value_in g.spec t) u op
    shown_right u op n elided ts at o p has = by o.at o.slot has
      where
        by : (k slot : ℕ) → slot_type g.spec op k slot ≡ Some p → stored g root (reference u (occurrence k slot)) ≡ value_in g.spec t (reference u (occurrence k slot))
        by zero slot h =
            let node = node_label t u op (ap label_of at) in
            let same : operator_in t u ≡ op = ap (λ w. operation (label_of w)) at in
            site_right u slot (Node op n elided ts) at (has_site u slot node (subst (λ z. IsVertex (rules_of g.spec) z (occurrence 0 slot)) (sym same) (own_vertex g.spec op slot p h)))
        by (suc k) slot h =
            let node = node_label t u op (ap label_of at) in
            let same : operator_in t u ≡ op = ap (λ w. operation (label_of w)) at in
            let arg = arg_there op k slot h in
            let kid = (node_at g.spec t X fits u node).kid k arg.0 (ap (λ z. slice_get (args_of g.spec.ops z) k) same ∙ arg.1) in
            elim (leaf_or_node t (k ∷ u) kid.0 kid.1) [
              | inl leaf ↦ leaf_right u op n k slot elided ts p leaf.0 leaf.1 kid.0 at h kid.1 leaf.3
              | inr below ↦
                  let b = below_at g.spec t X fits k u below in
                  let phylum : b.phylum ≡ arg.0 = same_Some b.phylum arg.0 (sym b.arg ∙ (ap (λ z. slice_get (args_of g.spec.ops z) k) same ∙ arg.1)) in
                  site_right (k ∷ u) slot kid.0 kid.1 (has_site (k ∷ u) slot below
                  (attr_vertex g.spec (operator_in t (k ∷ u)) slot arg.0 (b.left ∙ ap (λ z. Some z) phylum) (attr_low g.spec op k slot p arg.0 arg.1 h)))
            ]
          where
            arg_there : (op k slot : ℕ) → slot_type g.spec op (suc k) slot ≡ Some p → (Y : ℕ) × (slice_get (args_of g.spec.ops op) k ≡ Some Y)
            arg_there op k slot h = some (slice_get (args_of g.spec.ops op) k) refl h
              where
                some : (w : Option ℕ) → slice_get (args_of g.spec.ops op) k ≡ w → slice_get (attr_types g.spec w) slot ≡ Some p → (Y : ℕ) × (slice_get (args_of g.spec.ops op) k ≡ Some Y)
                some None e h = absurd (none-some p h)
                some (Some Y) e h = (Y, e)

    -- also in the view of the grove
    seen_right : (u : Place) (op n : ℕ) (elided : Bool) (ts : Terms) → sub t u ≡ Some (Node op n elided ts) → ShowsSame (spec_shown g) (stored g root) (value_in g.spec t) u op
    seen_right u op n elided ts at o p has = shown_right u op n elided ts at o p (sym (slot_type_in_view g.spec g.view op o.at o.slot) ∙ has)

    -- so the page of the stored values is that of the from-scratch values
    pub stored_marks : (typed others : Place → Option Bytes) → ((u : Place) (x : Term) → sub t u ≡ Some x → typed u ≡ others u)
        → marks_of (spec_shown g) (stored g root) typed t ≡ marks_of (spec_shown g) (value_in g.spec t) others t
    stored_marks typed others alike =
        marks_alike (spec_shown g) (schemes_in_views g.spec g.view is.sound.schemes) (stored g root) (value_in g.spec t) typed others t alike seen_right

    -- and what a node writes alone
    pub stored_alone : (p : Place) (x : Term) → sub t p ≡ Some x → unparsed (spec_shown g) (stored g root) none_typed p x 0 ≡ unparsed (spec_shown g) (value_in g.spec t) none_typed p x 0
    stored_alone p x at =
        unparsed_same (spec_shown g) (schemes_in_views g.spec g.view is.sound.schemes) (stored g root) (value_in g.spec t) none_typed none_typed t (λ u y there. refl) seen_right p x at 0
