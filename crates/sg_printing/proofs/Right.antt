-- The values that a node of an operator keeps for its synthesized attributes are their from-scratch values.
use Rattle.std.specs.Prelude.{◌≡◌, refl, ℕ, Bool, true, false, not, [], map, Some, None, IsSome, slice_get, option_map, unwrap_or}
use Rattle.std.specs.Option.{is_some}
use Rattle.std.proofs.Common.{sym, ap, ◌∙◌, subst, arith}
use Rattle.std.proofs.lemmas.Option.{slice_get_within, slice_get-map}
use Rattle.sg_kinds.specs.Terms.{Term, Node}
use Rattle.sg_kinds.specs.Places.{Place}
use Rattle.sg_kinds.specs.Nets.{label_of, net_of}
use Rattle.sg_kinds.specs.Instances.{site_of, attr_count}
use Rattle.sg_kinds.specs.Dependencies.{occurrence}
use Rattle.sg_kinds.specs.FromScratch.{value_in}
use Rattle.sg_orders.specs.Keys.{operation, operator_in}
use Rattle.sg_kinds.specs.Specification.{attrs_of, phylum_of, is_inherited, is_way_inherited, rules_of}
use Rattle.sg_kinds.specs.declared.spec.Spec.{Spec}
use Rattle.sg_kinds.specs.declared.spec.Attr.{Attr}
use Rattle.sg_kinds.specs.Typing.{slot_type}
use Rattle.sg_kinds.proofs.Elementary.{slice_get-before}
use Rattle.sg_forest.specs.declared.node_id.NodeId.{NodeId}
use Rattle.sg_groves.specs.Grove.{Grove, IsGrove}
use Rattle.sg_groves.specs.Holds.{IsPlaced}
use Rattle.sg_groves.specs.Stored.{number_at, value_there}
use Rattle.sg_groves.proofs.Held.{one_term}
use Rattle.sg_dependencies.specs.Proper.{is_owed}
use Rattle.sg_dependencies.specs.Vertices.{IsVertex}
use Rattle.sg_plans.proofs.Nodes.{node_label}
use Rattle.sg_plans.proofs.Bearers.{owed_site}
use Rattle.sg_attrib.proofs.Nodes.{label_op}
use Rattle.sg_terms.specs.Found.{op_at}
use Rattle.sg_unparse.proofs.Placed.{occurrence_stored, number_there}
use Rattle.sg_printing.specs.At.{IsAt}

-- an attribute of an operator's phylum
pub record IsOf (spec : Spec) (op slot : ℕ) (a : Attr) : Type 0 where
  pub phylum : ℕ
  pub of : phylum_of spec.ops op ≡ Some phylum
  pub there : slice_get (attrs_of spec.phyla phylum) slot ≡ Some a

module _ (spec : Spec) (op slot : ℕ) (a : Attr) (is : IsOf spec op slot a) where
  its_type : slot_type spec op 0 slot ≡ Some a.of
  its_type = slice_get-before _ _ slot a.of
      (ap (λ o. slice_get (elim o [ None ↦ [] | Some X ↦ map (λ (b : Attr). b.of) (attrs_of spec.phyla X) ]) slot) is.of
      ∙ slice_get-map (λ (b : Attr). b.of) (attrs_of spec.phyla is.phylum) slot
      ∙ ap (option_map (λ (b : Attr). b.of)) is.there)

  its_vertex : IsVertex (rules_of spec) op (occurrence 0 slot)
  its_vertex =
      let low = slice_get_within (attrs_of spec.phyla is.phylum) slot a is.there in
      let e = ap (attr_count (rules_of spec)) is.of in
      omega (arith, low, e)

  its_own : is_way_inherited a.way ≡ false → is_owed (rules_of spec) op 0 slot ≡ true
  its_own way =
      ap (λ o. not (unwrap_or (option_map (λ X. is_inherited spec.phyla X slot) o) false)) is.of
      ∙ ap (λ o. not (unwrap_or (option_map (λ (b : Attr). is_way_inherited b.way) o) false)) is.there
      ∙ ap not way

-- what is kept for a synthesized attribute
pub record IsKept (g : Grove) (n : NodeId) (t : Term) (u : Place) (slot : ℕ) : Type 0 where
  pub number : IsSome (number_at g n slot)
  pub value : value_there g n slot ≡ value_in g.spec t (record { node = u; slot = slot })

pub kept : (g : Grove) → IsGrove g → (root n : NodeId) (t : Term) (u : Place) (op k : ℕ) (elided : Bool) (ts : _) → IsAt g root n t u (Node op k elided ts) → (slot : ℕ) (a : Attr) → IsOf g.spec op slot a → is_way_inherited a.way ≡ false → IsKept g n t u slot
kept g is root n t u op k elided ts at slot a of way = record { number = number; value = value }
  where
    placed : IsPlaced g root t u n
    placed = record { top = at.whole.top; holds = at.whole.holds; way = at.way }

    own : op_at g n ≡ Some op
    own = label_op g is n root t u placed op (ap label_of at.part)

    number : IsSome (number_at g n slot)
    number =
        let it = occurrence_stored g is n op own (occurrence 0 slot) (ap is_some (its_type g.spec op slot a of)) in
        number_there g is n n (occurrence 0 slot) it.0 it.1 refl

    value : value_there g n slot ≡ value_in g.spec t (record { node = u; slot = slot })
    value =
        let same : operator_in t u ≡ op = ap (λ w. operation (label_of w)) at.part in
        let site = owed_site g.spec t g.spec.root is.sound at.fits u (occurrence 0 slot) (node_label t u op (ap label_of at.part))
        (subst (λ z. IsVertex (rules_of g.spec) z (occurrence 0 slot)) (sym same) (its_vertex g.spec op slot a of))
        (ap (λ z. is_owed (rules_of g.spec) z 0 slot) same ∙ its_own g.spec op slot a of way) in
        let term : at.whole.right.term ≡ t = one_term g root at.whole.right.term t at.whole.right.holds at.whole.holds in
        at.whole.right.right u n slot (record { node = u; rule = site.rule }) at.way
        (ap (λ z. site_of (rules_of g.spec) (net_of z) (record { node = u; slot = slot })) term ∙ site.found)
        ∙ ap (λ z. value_in g.spec z (record { node = u; slot = slot })) term
