-- What stands at the place of a node.
use Rattle.std.specs.Prelude.{◌≡◌, refl, ℕ, zero, suc, Bool, true, false, cond, [], ◌∷◌, Some, None, slice_get, option_map, unwrap_or}
use Rattle.std.specs.Option.{option_map_or}
use Rattle.std.proofs.Common.{sym, ap, ◌∙◌, subst}
use Rattle.std.proofs.lemmas.Option.{none-some, same_Some}
use Rattle.sg_kinds.specs.Fits.{Fits}
use Rattle.sg_kinds.specs.Places.{Place, sub}
use Rattle.sg_kinds.specs.Terms.{Term, Leaf, Node, NoTerm, AndTerm}
use Rattle.sg_kinds.specs.declared.spec.Spec.{Spec}
use Rattle.sg_forest.specs.declared.node_id.NodeId.{NodeId}
use Rattle.sg_forest.specs.Trees.{IsChild, IsLive}
use Rattle.sg_groves.specs.Grove.{Grove, nodes, IsGrove}
use Rattle.sg_groves.specs.Holds.{Holds, IsPlaced}
use Rattle.sg_build.proofs.Told.{the_term}
use Rattle.sg_script.specs.declared.message.Message.TheVariants as message
use Rattle.sg_select.proofs.Leading.{held, kid_there, leads_some, sub_there}
use Rattle.sg_select.specs.Around.{kids}
use Rattle.sg_select.specs.Leads.{LeadsTo}
use Rattle.sg_select.specs.Paths.{is_list_node, spine_from}
pub use Rattle.sg_search.proofs.Given.{fits_phylum}
use Rattle.sg_edits.specs.Choice.{Choice, Picked, Refused, Put, choice_of, FitsThere, IsFit}
use Rattle.sg_edits.specs.Edits.{at_term, element_in, rest_of, term_at}
use Rattle.sg_edits.specs.declared.choice.Choice as declared

-- what is put fits where something of its phylum stood
pub put_fits : (spec : Spec) (t : Term) (c : declared.Choice) (u : Place) (v : Picked) (s : Term) → choice_of c ≡ Put u s v → FitsThere spec t u s → IsFit spec t (choice_of c)
put_fits spec t c u v s e f = subst (IsFit spec t) (sym e) f

module _ (g : Grove) (is : IsGrove g) where
  -- by the term of a node at its place
  pub at_is : (root : NodeId) (t : Term) (u : Place) (n : NodeId) (make : Term → Choice) → IsPlaced g root t u n → IsLive (nodes g) n → at_term t u make ≡ make (the_term g n)
  at_is root t u n make placed live = ap (λ o. option_map_or make o (Refused message.NoPlace)) (sub_there g is root t (the_term g n) u n placed (held g is n live))

  pub fits_there : (root : NodeId) (t : Term) (u : Place) (n : NodeId) (s : Term) (p : ℕ) → IsPlaced g root t u n → IsLive (nodes g) n → Fits g.spec (the_term g n) p → Fits g.spec s p → FitsThere g.spec t u s
  fits_there root t u n s p placed live stood fits = record {
    old = the_term g n;
    there = sub_there g is root t (the_term g n) u n placed (held g is n live);
    phylum = p;
    stood = stood;
    fits = fits;
  }

  pub term_there : (root : NodeId) (t : Term) (u : Place) (n : NodeId) → IsPlaced g root t u n → IsLive (nodes g) n → term_at t u ≡ the_term g n
  term_there root t u n placed live = ap (λ o. unwrap_or o t) (sub_there g is root t (the_term g n) u n placed (held g is n live))

  -- the tree in which a node stands
  pub record IsSomewhere (n : NodeId) : Type 0 where
    pub root : NodeId
    pub term : Term
    pub place : Place
    pub placed : IsPlaced g root term place n

  pub somewhere : (n : NodeId) → IsLive (nodes g) n → IsSomewhere n
  somewhere n live =
      let top = is.forest.linked.rooted n live in
      record {
        root = top.root;
        term = the_term g top.root;
        place = top.path;
        placed = record { top = top.is_root; holds = held g is top.root (record { node = top.is_root.node; found = top.is_root.found }); way = top.climbs };
      }

-- an element's place, and the list's node above it
spine_some : (spec : Spec) (t : Term) (u v : Place) → spine_from spec t u ≡ Some v → unwrap_or (option_map (is_list_node spec) (sub t v)) false ≡ true
spine_some spec t [] v e = absurd (none-some v e)
spine_some spec t (zero ∷ u) v e = by (unwrap_or (option_map (is_list_node spec) (sub t u)) false) refl e
  where
    by : (b : Bool) → unwrap_or (option_map (is_list_node spec) (sub t u)) false ≡ b → cond b (Some u) None ≡ Some v → unwrap_or (option_map (is_list_node spec) (sub t v)) false ≡ true
    by true is h = subst (λ w. unwrap_or (option_map (is_list_node spec) (sub t w)) false ≡ true) (same_Some u v h) is
    by false is h = absurd (none-some v h)
spine_some spec t (suc k ∷ u) v e = absurd (none-some v e)

pub spine_is_list : (g : Grove) → IsGrove g → (n m : NodeId) → IsLive (nodes g) n → ((root : NodeId) (t : Term) (u : Place) → IsPlaced g root t u n → LeadsTo g root (spine_from g.spec t u) (Some m)) → (x : Term) → Holds g m x → is_list_node g.spec x ≡ true
spine_is_list g is n m live leads x holds =
    let at = somewhere g is n live in
    let lead = leads_some g at.root m (spine_from g.spec at.term at.place) (leads at.root at.term at.place at.placed) in
    let placed : IsPlaced g at.root at.term lead.0 m = record { top = at.placed.top; holds = at.placed.holds; way = lead.2 } in
    let there = sub_there g is at.root at.term x lead.0 m placed holds in
    sym (ap (λ o. unwrap_or (option_map (is_list_node g.spec) o) false) there) ∙ spine_some g.spec at.term at.place lead.0 lead.1

-- what follows the element of a list's node is its second child, and the element its first
pub rest_is : (x y : Term) → slice_get (kids x) 1 ≡ Some y → rest_of x ≡ y
rest_is (Leaf p v) y e = absurd (none-some y e)
rest_is (Node op n elided NoTerm) y e = absurd (none-some y e)
rest_is (Node op n elided (AndTerm a NoTerm)) y e = absurd (none-some y e)
rest_is (Node op n elided (AndTerm a (AndTerm b ts))) y e = same_Some b y e

pub element_is : (x y : Term) → slice_get (kids x) 0 ≡ Some y → element_in x ≡ y
element_is (Leaf p v) y e = absurd (none-some y e)
element_is (Node op n elided NoTerm) y e = absurd (none-some y e)
element_is (Node op n elided (AndTerm a ts)) y e = same_Some a y e

pub rest_held : (g : Grove) → IsGrove g → (n rest : NodeId) → IsLive (nodes g) n → IsLive (nodes g) rest → IsChild (nodes g) rest n 1 → rest_of (the_term g n) ≡ the_term g rest
rest_held g is n rest live below child = rest_is (the_term g n) (the_term g rest) (kid_there g is n rest 1 (the_term g n) (the_term g rest) live child (held g is n live) (held g is rest below))

pub element_held : (g : Grove) → IsGrove g → (n first : NodeId) → IsLive (nodes g) n → IsLive (nodes g) first → IsChild (nodes g) first n 0 → element_in (the_term g n) ≡ the_term g first
element_held g is n first live below child = element_is (the_term g n) (the_term g first) (kid_there g is n first 0 (the_term g n) (the_term g first) live child (held g is n live) (held g is first below))
