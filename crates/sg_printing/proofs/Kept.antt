-- What a node of a whole term keeps for an attribute of its phylum is the from-scratch value, also of an inherited one
-- and of a leaf's own.
use Rattle.std.specs.Prelude.{◌≡◌, refl, ℕ, zero, suc, ◌<◌, Bool, true, false, List, [], ◌∷◌, length, map, Option, Some, None, IsSome, slice_get, option_map, unwrap_or, MatchOption}
use Rattle.std.specs.Option.{is_some}
use Rattle.std.proofs.Common.{sym, ap, ◌∙◌, subst, arith}
use Rattle.std.proofs.lemmas.Bool.{false≢true}
use Rattle.std.proofs.lemmas.Option.{same_Some, slice_get_within, slice_get-map}
use Rattle.sg_kinds.specs.Values.{Value, Fault}
use Rattle.sg_kinds.specs.declared.marks.FaultKind.TheVariants.{Fuel}
use Rattle.sg_kinds.specs.Terms.{Term, Leaf, Node}
use Rattle.sg_kinds.specs.Places.{Place, sub}
use Rattle.sg_kinds.specs.Nets.{NodeLabel, Holding, label_of, net_of}
use Rattle.sg_kinds.specs.Instances.{site_of, attr_count, instances}
use Rattle.sg_kinds.specs.Dependencies.{occurrence}
use Rattle.sg_kinds.specs.FromScratch.{leaf_or, site_value, scratch, value_in}
use Rattle.sg_kinds.specs.Fits.{MayHold, Fits}
use Rattle.sg_orders.specs.Keys.{operator_in}
use Rattle.sg_kinds.specs.Sound.{IsSound, IsShaped, IsValue}
use Rattle.sg_kinds.specs.Specification.{args_of, attrs_of, phylum_of, is_inherited, is_way_inherited, rules_of}
use Rattle.sg_kinds.specs.Typing.{slot_type}
use Rattle.sg_kinds.specs.declared.marks.Shape.{Shape}
use Rattle.sg_kinds.specs.declared.marks.Shape.TheVariants.{Truths, Numbers, Texts, Lexemes, Ordinary, Optional, Listed, OptionalListed}
use Rattle.sg_kinds.specs.declared.spec.Attr.{Attr}
use Rattle.sg_kinds.specs.declared.spec.Phylum.{Phylum}
use Rattle.sg_kinds.specs.declared.spec.Spec.{Spec}
use Rattle.sg_kinds.proofs.Elementary.{slice_get-before, slice_get-there}
use Rattle.sg_forest.specs.declared.node_id.NodeId.{NodeId}
use Rattle.sg_groves.specs.Grove.{Grove, IsGrove}
use Rattle.sg_groves.specs.Holds.{IsPlaced}
use Rattle.sg_groves.specs.Stored.{number_at, value_there}
use Rattle.sg_groves.proofs.Held.{one_term, held_fits}
use Rattle.sg_dependencies.specs.Proper.{is_owed}
use Rattle.sg_dependencies.specs.Vertices.{IsVertex}
use Rattle.sg_plans.proofs.Nodes.{IsNodeAt, fitting_phylum, node_above, node_at}
use Rattle.sg_plans.proofs.Bearers.{owed_site}
use Rattle.sg_attrib.proofs.Nodes.{label_op, leaf_value_there}
use Rattle.sg_build.proofs.Told.{number_there}
use Rattle.sg_unparse.proofs.Placed as placed
use Rattle.sg_printing.specs.At.{IsAt}
use Rattle.sg_printing.proofs.Right.{IsOf, IsKept, kept}
use Rattle.sg_printing.proofs.Along.{at_holds, at_live}

-- a leaf's phylum has one attribute
one_value : (p : ℕ) (attrs : List Attr) → IsValue p attrs → length attrs ≡ 1
one_value p [] is = absurd is
one_value p (a ∷ []) is = refl
one_value p (a ∷ b ∷ rest) is = absurd is

held_value : (spec : Spec) (p : ℕ) (x : Phylum) (s : Shape) (v : Value) → MayHold spec s v → IsShaped spec p x s → IsValue p x.attrs
held_value spec p x Truths v may shaped = shaped.1
held_value spec p x Numbers v may shaped = shaped.1
held_value spec p x Texts v may shaped = shaped.1
held_value spec p x (Lexemes l) v may shaped = shaped.1
held_value spec p x Ordinary v may shaped = absurd may
held_value spec p x Optional v may shaped = absurd may
held_value spec p x Listed v may shaped = absurd may
held_value spec p x OptionalListed v may shaped = absurd may

leaf_slot : (spec : Spec) → IsSound spec → (q : ℕ) (v : Value) (p slot : ℕ) → Fits spec (Leaf q v) p → slot < length (attrs_of spec.phyla p) → slot ≡ 0
leaf_slot spec sound q v p slot fits low = by (slice_get spec.phyla p) refl fits.1 low
  where
    by : (o : Option Phylum) → slice_get spec.phyla p ≡ o → MatchOption o ⊥ (λ x. MayHold spec x.shape v) → slot < length (unwrap_or (option_map (λ (x : Phylum). x.attrs) o) []) → slot ≡ 0
    by None at may low = absurd may
    by (Some x) at may low = let one = one_value p x.attrs (held_value spec p x x.shape v may (sound.shapes.phyla p x at).shape) in omega (arith, one, low)

-- the value of a leaf is its own
leaf_scratch : (spec : Spec) (t : Term) (u : Place) (slot q : ℕ) (v : Value) → label_of (sub t u) ≡ Holding q v → (n : ℕ) → scratch spec (net_of t) n (record { node = u; slot = slot }) ≡ v
leaf_scratch spec t u slot q v label zero = ap (λ (l : NodeLabel). leaf_or l (Fault Fuel)) label
leaf_scratch spec t u slot q v label (suc n) =
    ap (λ (l : NodeLabel). leaf_or l (site_value spec (net_of t) (scratch spec (net_of t) n) (site_of (rules_of spec) (net_of t) (record { node = u; slot = slot })))) label

module _ (g : Grove) (is : IsGrove g) (root n : NodeId) (t : Term) (u : Place) where
  -- of a leaf
  leaf_kept : (q : ℕ) (v : Value) → IsAt g root n t u (Leaf q v) → (p slot : ℕ) → Fits g.spec (Leaf q v) p → slot < length (attrs_of g.spec.phyla p) → IsKept g n t u slot
  leaf_kept q v at p slot fits low =
      let first : 0 ≡ slot = sym (leaf_slot g.spec is.sound q v p slot fits low) in
      let live = at_live g is root n t u (Leaf q v) at in
      let leaf = placed.term_op g is n live (Leaf q v) (at_holds g is root n t u (Leaf q v) at) in
      let here : IsPlaced g root t u n = record { top = at.whole.top; holds = at.whole.holds; way = at.way } in
      subst (IsKept g n t u) first (record {
        number = number_there g is n live leaf;
        value = leaf_value_there g is n root t u here q v (ap label_of at.part) ∙ sym (leaf_scratch g.spec t u 0 q v (ap label_of at.part) (length (instances (rules_of g.spec) t)));
      })

  module _ (op k : ℕ) (elided : Bool) (ts : _) (at : IsAt g root n t u (Node op k elided ts)) (p slot : ℕ) (fits : Fits g.spec (Node op k elided ts) p) (a : Attr) (there : slice_get (attrs_of g.spec.phyla p) slot ≡ Some a) where
    abbrev node : Term
    node = Node op k elided ts

    of : phylum_of g.spec.ops op ≡ Some p
    of = fitting_phylum g.spec node p fits

    among : IsOf g.spec op slot a
    among = record { phylum = p; of = of; there = there }

    own_type : slot_type g.spec op 0 slot ≡ Some a.of
    own_type = slice_get-before _ _ slot a.of
        (ap (λ o. slice_get (elim o [ None ↦ [] | Some X ↦ map (λ (b : Attr). b.of) (attrs_of g.spec.phyla X) ]) slot) of
        ∙ slice_get-map (λ (b : Attr). b.of) (attrs_of g.spec.phyla p) slot
        ∙ ap (option_map (λ (b : Attr). b.of)) there)

    -- each attribute of a node of an operator has a number
    numbered : IsSome (number_at g n slot)
    numbered =
        let here : IsPlaced g root t u n = record { top = at.whole.top; holds = at.whole.holds; way = at.way } in
        let own = label_op g is n root t u here op (ap label_of at.part) in
        let it = placed.occurrence_stored g is n op own (occurrence 0 slot) (ap is_some own_type) in
        placed.number_there g is n n (occurrence 0 slot) it.0 it.1 refl

    module _ (way : is_way_inherited a.way ≡ true) where
      inherited : is_inherited g.spec.phyla p slot ≡ true
      inherited = ap (λ o. unwrap_or (option_map (λ (b : Attr). is_way_inherited b.way) o) false) there ∙ way

      -- the root inherits nothing
      no_root : u ≡ [] → ⊥
      no_root top =
          let whole : t ≡ node = same_Some t node (sym (ap (sub t) top) ∙ at.part) in
          let above = held_fits g is root at.whole.top.node t at.whole.top.found at.whole.holds in
          let q = at.whole.top.node.label.phylum in
          let same : q ≡ p = same_Some q p (sym (fitting_phylum g.spec node q (subst (λ s. Fits g.spec s q) whole above)) ∙ of) in
          false≢true (sym (at.whole.free slot) ∙ ap (λ X. is_inherited g.spec.phyla X slot) same ∙ inherited)

      -- another node has it by an equation of the node above
      value_below : (j : ℕ) (w : Place) → u ≡ j ∷ w → value_there g n slot ≡ value_in g.spec t (record { node = u; slot = slot })
      value_below j w below =
          let part : sub t (j ∷ w) ≡ Some node = sym (ap (sub t) below) ∙ at.part in
          let above : IsNodeAt t w = node_above t j w node part in
          let over = node_at g.spec t g.spec.root at.fits w above in
          let arg = over.arg j node part in
          let same : arg.0 ≡ p = same_Some arg.0 p (sym (fitting_phylum g.spec node arg.0 arg.2) ∙ of) in
          let named : slice_get (args_of g.spec.ops (operator_in t w)) j ≡ Some p = arg.1 ∙ ap Some same in
          let low : slot < length (attrs_of g.spec.phyla p) = slice_get_within (attrs_of g.spec.phyla p) slot a there in
          let count = ap (attr_count (rules_of g.spec)) named in
          let vertex : IsVertex (rules_of g.spec) (operator_in t w) (occurrence (suc j) slot) = omega (arith, count, low) in
          let owed : is_owed (rules_of g.spec) (operator_in t w) (suc j) slot ≡ true = ap (λ o. unwrap_or (option_map (λ X. is_inherited g.spec.phyla X slot) o) false) named ∙ inherited in
          let site = owed_site g.spec t g.spec.root is.sound at.fits w (occurrence (suc j) slot) above vertex owed in
          let term : at.whole.right.term ≡ t = one_term g root at.whole.right.term t at.whole.right.holds at.whole.holds in
          at.whole.right.right u n slot (record { node = w; rule = site.rule }) at.way
          (ap (λ z. site_of (rules_of g.spec) (net_of z) (record { node = u; slot = slot })) term
          ∙ ap (λ v. site_of (rules_of g.spec) (net_of t) (record { node = v; slot = slot })) below ∙ site.found)
          ∙ ap (λ z. value_in g.spec z (record { node = u; slot = slot })) term

      inherited_value : value_there g n slot ≡ value_in g.spec t (record { node = u; slot = slot })
      inherited_value = by u refl
        where
          by : (w : Place) → u ≡ w → value_there g n slot ≡ value_in g.spec t (record { node = u; slot = slot })
          by [] top = absurd (no_root top)
          by (j ∷ w) below = value_below j w below

    node_kept : IsKept g n t u slot
    node_kept = by (is_way_inherited a.way) refl
      where
        by : (b : Bool) → is_way_inherited a.way ≡ b → IsKept g n t u slot
        by false way = kept g is root n t u op k elided ts at slot a among way
        by true way = record { number = numbered; value = inherited_value way }

  pub its_kept : (x : Term) → IsAt g root n t u x → (p slot : ℕ) → Fits g.spec x p → slot < length (attrs_of g.spec.phyla p) → IsKept g n t u slot
  its_kept (Leaf q v) at p slot fits low = leaf_kept q v at p slot fits low
  its_kept (Node op k elided ts) at p slot fits low =
      let a = slice_get-there (attrs_of g.spec.phyla p) slot low in
      node_kept op k elided ts at p slot fits a.0 a.1
