-- Nodes at places of the tree of a root, and what they hold.
use Rattle.std.specs.Prelude.{◌≡◌, refl, ℕ, ◌≤◌, [], ◌∷◌, length, Option, Some, None, slice_get, option_and_then, MatchOption}
use Rattle.std.proofs.Common.{sym, ap, ◌∙◌, subst, arith}
use Rattle.sg_kinds.specs.Terms.{Term, Leaf, Node}
use Rattle.sg_kinds.specs.Places.{Place, sub}
use Rattle.sg_forest.specs.declared.node_id.NodeId.{NodeId}
use Rattle.sg_forest.specs.Node as forest
use Rattle.sg_forest.specs.Trees.{Climbs, IsChild, IsLive, IsRoot}
use Rattle.sg_groves.specs.declared.kind.Kind.{Kind}
use Rattle.sg_groves.specs.declared.part.Part.{Part}
use Rattle.sg_groves.specs.Grove.{Grove, nodes, IsGrove, IsLeaf, IsOperation}
use Rattle.sg_groves.specs.Holds.{Holds, IsPlaced}
use Rattle.sg_groves.proofs.Held.{one_term, part_held}
use Rattle.sg_terms.specs.Found.{op_at}
use Rattle.sg_build.proofs.Told.{kids_in, the_term, told, told_only, kid_told, opened}
use Rattle.sg_build.proofs.Placed.{way_over, way_ends}
use Rattle.sg_select.specs.Around.{kids}
use Rattle.sg_select.specs.Leads.{LeadsTo}

pub kids_same : (x : Term) → kids x ≡ kids_in x
kids_same (Leaf p v) = refl
kids_same (Node op n elided ts) = refl

-- what an answer says of a place
pub leads_none : (g : Grove) (root : NodeId) (o : Option Place) → LeadsTo g root o None → o ≡ None
leads_none g root None h = refl
leads_none g root (Some v) h = absurd h

pub leads_some : (g : Grove) (root m : NodeId) (o : Option Place) → LeadsTo g root o (Some m) → (v : Place) × (o ≡ Some v) × Climbs (nodes g) v m root
leads_some g root m None h = absurd h
leads_some g root m (Some v) h = (v, refl, h)

pub no_lead : (g : Grove) (root : NodeId) (o : Option Place) → o ≡ None → LeadsTo g root o None
no_lead g root o none = subst (λ z. LeadsTo g root z None) (sym none) tt

pub a_lead : (g : Grove) (root m : NodeId) (o : Option Place) (v : Place) → o ≡ Some v → Climbs (nodes g) v m root → LeadsTo g root o (Some m)
a_lead g root m o v some way = subst (λ z. LeadsTo g root z (Some m)) (sym some) way

module _ (g : Grove) (is : IsGrove g) where
  -- a node at a place holds the subterm there
  pub sub_there : (root : NodeId) (t x : Term) (u : Place) (n : NodeId) → IsPlaced g root t u n → Holds g n x → sub t u ≡ Some x
  sub_there root t x u n placed holds =
      let part = part_held g is u n root t placed.way placed.holds in
      part.2 ∙ ap Some (one_term g n part.0 x part.1 holds)

  -- its child at the child's place
  pub kid_placed : (root : NodeId) (t : Term) (u : Place) (n kid : NodeId) (k : ℕ) → IsPlaced g root t u n → IsChild (nodes g) kid n k → IsPlaced g root t (k ∷ u) kid
  kid_placed root t u n kid k placed child = record { top = placed.top; holds = placed.holds; way = (n, child, placed.way) }

  pub kid_there : (n kid : NodeId) (k : ℕ) (x y : Term) → IsLive (nodes g) n → IsChild (nodes g) kid n k → Holds g n x → Holds g kid y → slice_get (kids x) k ≡ Some y
  kid_there n kid k x y live child holds below =
      ap (λ l. slice_get l k) (kids_same x) ∙ ap (λ z. slice_get (kids_in z) k) (told_only g is n x holds) ∙ kid_told g is n kid k live child
      ∙ ap Some (sym (told_only g is kid y below))

  -- and its parent at the place above
  pub above_placed : (root : NodeId) (t : Term) (u : Place) (n p : NodeId) (k : ℕ) → IsPlaced g root t u n → IsChild (nodes g) n p k
      → (w : Place) × (u ≡ k ∷ w) × IsPlaced g root t w p
  above_placed root t u n p k placed child =
      let over = way_over g u n p root k placed.top child placed.way in
      (over.0, over.2, record { top = placed.top; holds = placed.holds; way = over.1 })

  pub top_placed : (root : NodeId) (t : Term) (u : Place) (n : NodeId) → IsPlaced g root t u n → IsRoot (nodes g) n → u ≡ []
  top_placed root t u n placed top = way_ends g u n root placed.top top placed.way

  pub root_is : (root : NodeId) (t : Term) (n : NodeId) → IsPlaced g root t [] n → n ≡ root
  root_is root t n placed = placed.way

  pub held : (n : NodeId) → IsLive (nodes g) n → Holds g n (the_term g n)
  held n live = told g is n live

  pub child_live : (n p : NodeId) (k : ℕ) → IsChild (nodes g) n p k → IsLive (nodes g) n
  child_live n p k child = record { node = child.node; found = child.found }

  -- so many children are there as the label says
  pub kids_long : (n : NodeId) (to : ℕ) (x : Term) → IsLive (nodes g) n → ((z : forest.Node Kind Part) → nodes g n ≡ Some z → to ≤ z.label.arity) → Holds g n x → to ≤ length (kids x)
  kids_long n to x live few holds = by (op_at g n) refl
    where
      leaf_arity_is : (z : forest.Node Kind Part) → nodes g n ≡ Some z → op_at g n ≡ None → z.label.arity ≡ 0
      leaf_arity_is z found at =
          let none : z.label.op ≡ None = ap (option_and_then (λ (y : forest.Node Kind Part). y.label.op)) (sym found) ∙ at in
          let leaf : IsLeaf g z = subst (λ (o : Option ℕ). MatchOption o (IsLeaf g z) (IsOperation g z)) none (is.each n z found) in
          leaf.arity

      by : (o : Option ℕ) → op_at g n ≡ o → to ≤ length (kids x)
      by (Some op) at =
          let over = opened g is n op at in
          let count = over.count in
          let arity = over.arity live.node live.found in
          let low = few live.node live.found in
          let same : length (kids x) ≡ length (kids_in (the_term g n)) = ap length (kids_same x) ∙ ap (λ z. length (kids_in z)) (told_only g is n x holds) in
          omega (arith, count, arity, low, same)
      by None at =
          let low = few live.node live.found in
          let none = leaf_arity_is live.node live.found at in
          omega (arith, low, none)
