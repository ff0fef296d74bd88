-- Selections that get one more element.
use Rattle.std.specs.Prelude.{◌≡◌, ℕ, suc, ◌+◌, ◌<◌, ◌≤◌, Bool, true, false, if◌then◌else◌, nat_lt, min, None, Some}
use Rattle.std.specs.Option.{is_some, option_map_or}
use Rattle.std.proofs.Common.{sym, ap, ◌∙◌, arith}
use Rattle.std.proofs.lemmas.Bool.Decides.{nat_tests}
use Rattle.sg_kinds.specs.Terms.{Term, Leaf, Node, NoTerm, AndTerm, nodes_of, nodes_of_all}
use Rattle.sg_kinds.specs.Places.{Place, sub}
use Rattle.sg_kinds.specs.Sound.{IsSmall, is_pair}
use Rattle.sg_kinds.specs.declared.spec.Spec.{Spec}
use Rattle.sg_forest.specs.declared.node_id.NodeId.{NodeId}
use Rattle.sg_forest.specs.Trees.{Climbs}
use Rattle.sg_groves.specs.Grove.{Grove, nodes, IsGrove}
use Rattle.sg_groves.specs.Holds.{Holds}
use Rattle.sg_groves.proofs.Held.{part_held}
use Rattle.sg_build.proofs.Placed.{part_nodes}
use Rattle.sg_select.specs.Leads.{LeadsTo}
use Rattle.sg_select.specs.Paths.{elements, spine_from}
use Rattle.sg_select.proofs.Leading.{leads_none, leads_some}
use Rattle.sg_states.specs.Selections.{elements_at}
use Rattle.sg_states.specs.States.{State, extension, selected_place}
use Rattle.sg_states.specs.declared.marks.Extended.{Extended}
use Rattle.sg_states.specs.declared.marks.Extended.TheVariants.{Done, NotInList, NoPlace}

-- a list has no more elements than its term has nodes
elements_few : (spec : Spec) (t : Term) → elements spec t ≤ nodes_of t
elements_few spec (Leaf p v) = omega arith
elements_few spec (Node op n elided NoTerm) = omega arith
elements_few spec (Node op n elided (AndTerm x NoTerm)) = omega arith
elements_few spec (Node op n elided (AndTerm x (AndTerm y ts))) = by (is_pair spec op) (elements_few spec y)
  where
    by : (b : Bool) → elements spec y ≤ nodes_of y → (if b then suc (elements spec y) else 0) ≤ suc (nodes_of x + (nodes_of y + nodes_of_all ts))
    by true h = omega (arith, h)
    by false h = omega arith

abbrev choice : Bool → Bool → Extended
choice listed more = if listed then (if more then Done else NoPlace) else NotInList

module _ (g : Grove) (is : IsGrove g) (root : NodeId) (st : State) (holds : Holds g root st.term) (small : IsSmall st.term) where
  pub none_told : LeadsTo g root (spine_from g.spec st.term (selected_place st)) None → NotInList ≡ extension g.spec st
  none_told leads = sym (ap (λ o. choice (is_some o) (nat_lt st.spot.selection.count (elements_at g.spec st.term (selected_place st)))) (leads_none g root (spine_from g.spec st.term (selected_place st)) leads))

  module _ (spine : NodeId) (count r most : ℕ) (leads : LeadsTo g root (spine_from g.spec st.term (selected_place st)) (Some spine)) (elements_are : (s : Term) → Holds g spine s → r ≡ min (elements g.spec s) most)
      (wide : 65536 ≤ most) (same : count ≡ st.spot.selection.count) where
    abbrev v : (v : Place) × (spine_from g.spec st.term (selected_place st) ≡ Some v) × Climbs (nodes g) v spine root
    v = leads_some g root spine (spine_from g.spec st.term (selected_place st)) leads

    abbrev s : (s : Term) × Holds g spine s × (sub st.term v.0 ≡ Some s)
    s = part_held g is v.0 spine root st.term v.2 holds

    count_is : elements_at g.spec st.term (selected_place st) ≡ elements g.spec s.0
    count_is =
        ap (λ o. option_map_or (λ v. option_map_or (elements g.spec) (sub st.term v) 0) o 0) v.1
        ∙ ap (λ o. option_map_or (elements g.spec) o 0) s.2

    r_is : r ≡ elements g.spec s.0
    r_is =
        let few = elements_few g.spec s.0 in
        let nodes = part_nodes st.term v.0 s.0 s.2 in
        let all = small.0 in
        let is = elements_are s.0 s.1 in
        omega (arith, few, nodes, all, is, wide)

    listed : (b : Bool) → choice (is_some (spine_from g.spec st.term (selected_place st))) b ≡ choice true b
    listed b = ap (λ o. choice (is_some o) b) v.1

    less : (a b : ℕ) → a < b → nat_lt a b ≡ true
    less a b h = grind (arith, nat_tests)

    not_less : (a b : ℕ) → b ≤ a → nat_lt a b ≡ false
    not_less a b h = grind (arith, nat_tests)

    pub full_told : r ≤ count → NoPlace ≡ extension g.spec st
    full_told h =
        let at_most : elements_at g.spec st.term (selected_place st) ≤ st.spot.selection.count = (let a = count_is in let b = r_is in omega (arith, a, b, h, same)) in
        sym (listed (nat_lt st.spot.selection.count (elements_at g.spec st.term (selected_place st))) ∙ ap (choice true) (not_less st.spot.selection.count (elements_at g.spec st.term (selected_place st)) at_most))

    pub more_there : count < r → st.spot.selection.count < elements_at g.spec st.term (selected_place st)
    more_there h = (let a = count_is in let b = r_is in omega (arith, a, b, h, same))

    pub more_told : count < r → Done ≡ extension g.spec st
    more_told h = sym (listed (nat_lt st.spot.selection.count (elements_at g.spec st.term (selected_place st))) ∙ ap (choice true) (less st.spot.selection.count (elements_at g.spec st.term (selected_place st)) (more_there h)))
