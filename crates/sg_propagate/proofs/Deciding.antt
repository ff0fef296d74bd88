-- An argument shows another value exactly where it has one.
use Rattle.std.specs.Prelude.{◌≡◌, ◌≢◌, ℕ, zero, suc, ◌+◌, ◌<◌, List, [], ◌∷◌, ◌++◌, Contains, Option, Some, None, slice_get}
use Rattle.std.proofs.Common.{refl, sym, ap, ◌∙◌, subst, inl, inr, arith}
use Rattle.std.proofs.lemmas.Option.{same_Some}
use Rattle.sg_kinds.specs.Terms.{Term}
use Rattle.sg_kinds.specs.Places.{Place, sub}
use Rattle.sg_kinds.specs.Nets as nets
use Rattle.sg_kinds.specs.Nets.{Reference, label_of, net_of, phylum_at, referred}
use Rattle.sg_kinds.specs.Instances.{Site, attr_count}
use Rattle.sg_kinds.specs.Specification.{args_of, rules_of}
use Rattle.sg_kinds.specs.Dependencies.{phylum_there}
use Rattle.sg_kinds.specs.declared.plans.Plans.{Plans}
use Rattle.sg_kinds.specs.declared.spec.Occurrence.{Occurrence}
use Rattle.sg_kinds.specs.declared.spec.Rule.{Rule}
use Rattle.sg_kinds.specs.declared.spec.Spec.{Spec}
use Rattle.sg_forest.specs.declared.node_id.NodeId.{NodeId}
use Rattle.sg_forest.specs.Trees.{Climbs}
use Rattle.sg_forest.proofs.Paths.{cases_id, same_id}
use Rattle.sg_groves.specs.Evaluated.{HasChanged}
use Rattle.sg_groves.specs.Grove.{Grove, nodes, IsGrove}
use Rattle.sg_groves.specs.Stored.{value_there}
use Rattle.sg_groves.proofs.Lists.{map_from, map_to}
use Rattle.sg_groves.proofs.Ways.{one_node}
use Rattle.sg_dependencies.specs.Vertices.{locals_there}
use Rattle.sg_plans.specs.Planned.{IsPlanned}
use Rattle.sg_plans.specs.Segments.{IsOutside}
use Rattle.sg_plans.proofs.Nodes.{fitting_phylum, node_at}
use Rattle.sg_terms.specs.Found.{op_at}
use Rattle.sg_terms.specs.Occurrences.{node_there}
use Rattle.sg_attrib.specs.Visited.{IsArgument}
use Rattle.sg_attrib.proofs.Nodes.{StandsThere, op_node, stands_there}
use Rattle.sg_attrib.proofs.Evaluated.{argument_vertex}
use Rattle.sg_propagate.specs.Worklist.{Worklist}
use Rattle.sg_propagate.specs.Scenes.{Scene, term_now, value_was, IsOther, IsStaged, IsFine, AreFine, ShowsOther, own, at_top, below}
use Rattle.sg_propagate.specs.Moves.{IsOnStage}
use Rattle.sg_propagate.proofs.Staged.{same_ref}
use Rattle.sg_propagate.proofs.Stepped.{placed_here, op_here}

-- a slot that is noted has another value
pub noted_other : (plans : Plans) (sc : Scene) (g : Grove) → IsGrove g → (w : Worklist) → IsStaged plans sc g w → (a : Reference Place) (m : NodeId) → Climbs (nodes g) a.node m sc.root → Contains w.changed (m.key, a.slot) → IsOther sc a
noted_other plans sc g is w staged a m climbs has =
    let one = staged.noted (m.key, a.slot) has in
    let node : m ≡ one.node = same_id m one.node (ap (λ (x : ℕ × ℕ). x.0) one.is) in
    subst (IsOther sc) (same_ref g is sc.root m staged.placed.top one.ref a (subst (λ c. Climbs (nodes g) one.ref.node c sc.root) (sym node) one.climbs) climbs (sym (ap (λ (x : ℕ × ℕ). x.1) one.is))) one.other

module _ (plans : Plans) (sc : Scene) (g : Grove) (is : IsGrove g) (w : Worklist) (top left n : NodeId) (v : Place) (on : IsOnStage plans sc g w top left n v) (r : ℕ) (x : Rule) (at : slice_get g.spec.rules r ≡ Some x) (op_is : op_at g n ≡ Some x.op)
    (fine : AreFine sc g w (IsArgument (rules_of sc.spec) r (term_now sc) v)) where
  abbrev t : Term
  t = term_now sc

  abbrev ref : Occurrence → Reference Place
  ref o = referred (net_of (term_now sc)) v o

  plan : IsPlanned g.spec plans t
  plan = subst (λ (s : Spec). IsPlanned s plans t) (sym on.staged.spec_is) on.staged.planned

  here : slice_get sc.spec.rules r ≡ Some x
  here = ap (λ (s : Spec). slice_get s.rules r) (sym on.staged.spec_is) ∙ at

  module _ (o : Occurrence) (names : Contains x.args o) where
    st : StandsThere g is n sc.root t v o.at
    st = stands_there g is plans n sc.root t v x.op o plan (placed_here plans sc g is w top left n v on) op_is (argument_vertex g is r x at o names)

    fine_here : IsFine sc g w (ref o) st.node
    fine_here = fine (ref o) st.node (record { rule = x; at = here; occurrence = o; names = names; is = refl }) st.climbs

    own_node : o.at ≡ 0 → st.node ≡ n
    own_node e = same_Some st.node n (sym st.there ∙ ap (node_there g.trees n) e)

    -- where the argument is at the top
    module _ (k : ℕ) (e : o.at ≡ suc k) (same : st.node ≡ top) where
      top_ref : ref o ≡ record { node = sc.place; slot = o.slot }
      top_ref =
          let s = on.staged.placed in
          same_ref g is sc.root top s.top (ref o) (record { node = sc.place; slot = o.slot }) (subst (λ c. Climbs (nodes g) (ref o).node c sc.root) same st.climbs) (subst (λ c. Climbs (nodes g) sc.place c sc.root) on.top_is s.way) refl

      top_kept : value_there g left o.slot ≡ value_was sc (ref o)
      top_kept =
          let vertex : o.slot < attr_count (rules_of g.spec) (slice_get (args_of g.spec.ops x.op) k) + 0 = subst (λ j. o.slot < attr_count (rules_of g.spec) (phylum_there g.spec.ops x.op j) + locals_there (rules_of g.spec) x.op j) e (argument_vertex g is r x at o names) in
          by (slice_get (args_of g.spec.ops x.op) k) refl vertex
        where
          by : (a : Option ℕ) → slice_get (args_of g.spec.ops x.op) k ≡ a → o.slot < attr_count (rules_of g.spec) a + 0 → value_there g left o.slot ≡ value_was sc (ref o)
          by None arg low = absurd (omega (arith, low))
          by (Some X) arg low =
              let node = node_at g.spec t plan.root plan.fits v (op_node g is n sc.root t v (placed_here plans sc g is w top left n v on) x.op op_is) in
              let s = node.kid k X (ap (λ q. slice_get (args_of g.spec.ops q) k) (op_here plans sc g is w top left n v on x.op op_is) ∙ arg) in
              let phylum : phylum_at g.spec.ops (label_of (sub t (k ∷ v))) ≡ Some X = ap (λ l. phylum_at g.spec.ops (label_of l)) s.1 ∙ fitting_phylum g.spec s.0 X s.2 in
              let place : k ∷ v ≡ sc.place = sym (ap (nets.node_there (net_of t) v) e) ∙ ap (λ (b : Reference Place). b.node) top_ref in
              let at_place : phylum_at sc.spec.ops (label_of (sub t sc.place)) ≡ Some X = ap (λ (z : Spec). phylum_at z.ops (label_of (sub t sc.place))) (sym on.staged.spec_is) ∙ ap (λ u. phylum_at g.spec.ops (label_of (sub t u))) (sym place) ∙ phylum in
              let attr : o.slot < attr_count (rules_of sc.spec) (Some X) = subst (λ (z : Spec). o.slot < attr_count (rules_of z) (Some X)) on.staged.spec_is (omega (arith, low)) in
              ap (λ c. value_there g c o.slot) (sym on.left_is) ∙ on.staged.kept X o.slot at_place attr ∙ ap (value_was sc) (sym top_ref)

    pub other_sound : ShowsOther g top left n w o → IsOther sc (ref o)
    other_sound (own e has) = noted_other plans sc g is w on.staged (ref o) st.node st.climbs (subst (λ c. Contains w.changed (c.key, o.slot)) (sym (own_node e)) has)
    other_sound (at_top k e there differs) =
        let same : st.node ≡ top = same_Some st.node top (sym st.there ∙ there) in
        λ equal. differs (ap (λ c. value_there g c o.slot) (sym same) ∙ fine_here.right ∙ equal ∙ sym (top_kept k e same))
    other_sound (below k m e there apart has) = noted_other plans sc g is w on.staged (ref o) st.node st.climbs (subst (λ c. Contains w.changed (c.key, o.slot)) (same_Some m st.node (sym there ∙ st.there)) has)

    pub other_complete : IsOther sc (ref o) → ShowsOther g top left n w o
    other_complete other = by o.at refl
      where
        far_by : (k : ℕ) → o.at ≡ suc k → (st.node ≢ top) → (y : List ℕ) → k ∷ v ≡ y ++ sc.place → ⊥
        far_by k e apart [] same =
            let s = on.staged.placed in
            apart (one_node g is sc.place st.node top sc.root (subst (λ p. Climbs (nodes g) p st.node sc.root) (ap (nets.node_there (net_of t) v) e ∙ same) st.climbs) (subst (λ c. Climbs (nodes g) sc.place c sc.root) on.top_is s.way))
        far_by k e apart (l ∷ y) same = on.outside y (ap rest same)
          where
            rest : List ℕ → List ℕ
            rest [] = []
            rest (z ∷ zs) = zs

        by : (j : ℕ) → o.at ≡ j → ShowsOther g top left n w o
        by zero e =
            let far : IsOutside sc.place (ref o).node = λ y same. on.outside y (sym (ap (nets.node_there (net_of t) v) e) ∙ same) in
            own e (subst (λ c. Contains w.changed (c.key, o.slot)) (own_node e) (fine_here.noted far other))
        by (suc k) e = elim (cases_id st.node top) [
          | inl same ↦ at_top k e (st.there ∙ ap (λ c. Some c) same) (λ equal. other (sym fine_here.right ∙ ap (λ c. value_there g c o.slot) same ∙ equal ∙ top_kept k e same))
          | inr apart ↦
              let far : IsOutside sc.place (ref o).node = λ y same. far_by k e apart y (sym (ap (nets.node_there (net_of t) v) e) ∙ same) in
              below k st.node e st.there apart (fine_here.noted far other)
        ]

  abbrev site : Site Place
  site = record { node = v; rule = x }

  pub dirty : (o : Occurrence) → Contains x.args o → ShowsOther g top left n w o → HasChanged sc.spec sc.was sc.place sc.part site
  dirty o names shows = record { arg = ref o; named = map_to (referred (net_of t) v) x.args o names; changed = other_sound o names shows }

  pub clean : ((o : Occurrence) → Contains x.args o → ShowsOther g top left n w o → ⊥) → HasChanged sc.spec sc.was sc.place sc.part site → ⊥
  clean none has =
      let found = map_from (referred (net_of t) v) x.args has.arg has.named in
      none found.0 found.1 (other_complete found.0 found.1 (subst (IsOther sc) (sym found.2) has.changed))
