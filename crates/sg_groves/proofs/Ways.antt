-- Nodes and their places: one each.
use Rattle.std.specs.Prelude.{◌≡◌, refl, ℕ, zero, suc, ◌≤◌, [], ◌∷◌, length}
use Rattle.std.proofs.Common.{sym, ap, ◌∙◌, subst, arith}
use Rattle.std.specs.FinMap as finmap
use Rattle.sg_kinds.specs.Places.{Place}
use Rattle.sg_forest.specs.declared.node_id.NodeId.{NodeId}
use Rattle.sg_forest.specs.Trees.{IsLive, IsRoot, IsChild, Climbs}
use Rattle.sg_forest.proofs.Paths.{one_kid, one_path}
use Rattle.sg_forest.proofs.Depth.{path-lt-count}
use Rattle.sg_groves.specs.Grove.{Grove, nodes, IsGrove}
use Rattle.sg_groves.specs.TermAt.{way_within, way_at}

module _ (g : Grove) (is : IsGrove g) where
  pub one_node : (u : Place) (n m root : NodeId) → Climbs (nodes g) u n root → Climbs (nodes g) u m root → n ≡ m
  one_node [] n m root one two = one ∙ sym two
  one_node (k ∷ u) n m root one two =
      let above : one.0 ≡ two.0 = one_node u one.0 two.0 root one.2 two.2 in
      let first = is.forest.linked.upward one.0 k n one.1 in
      let second = is.forest.linked.upward one.0 k m (subst (λ p. IsChild (nodes g) m p k) (sym above) two.1) in
      one_kid (nodes g) one.0 n m k first second

  climber_live : (u : Place) (n root : NodeId) → IsRoot (nodes g) root → Climbs (nodes g) u n root → IsLive (nodes g) n
  climber_live [] n root top same = let here : IsRoot (nodes g) n = subst (IsRoot (nodes g)) (sym same) top in record { node = here.node; found = here.found }
  climber_live (k ∷ u) n root top climbs = record { node = climbs.1.node; found = climbs.1.found }

  way_is_within : (u : Place) (n root : NodeId) (most : ℕ) → length u ≤ most → IsRoot (nodes g) root → Climbs (nodes g) u n root → way_within g most n ≡ u
  way_is_within [] n root zero enough top same = refl
  way_is_within [] n root (suc most) enough top same = let here : IsRoot (nodes g) n = subst (IsRoot (nodes g)) (sym same) top in rw (here.found, here.top) refl
  way_is_within (k ∷ u) n root zero enough top climbs = absurd (omega (arith, enough))
  way_is_within (k ∷ u) n root (suc most) enough top climbs =
      rw (climbs.1.found, climbs.1.hangs) (ap (λ v. k ∷ v) (way_is_within u climbs.0 root most (omega (arith, enough)) top climbs.2))

  pub way_is : (u : Place) (n root : NodeId) → IsRoot (nodes g) root → Climbs (nodes g) u n root → way_at g n ≡ u
  way_is u n root top climbs =
      let few = path-lt-count (nodes g) is.forest.linked g.trees.nodes (finmap.len g.trees.nodes) refl (λ m live. (live.node, live.found)) u n root (climber_live u n root top climbs) climbs in
      way_is_within u n root (finmap.len g.trees.nodes) (omega (arith, few)) top climbs

  pub one_way : (u v : Place) (n root other : NodeId) → IsRoot (nodes g) root → IsRoot (nodes g) other → Climbs (nodes g) u n root → Climbs (nodes g) v n other → (u ≡ v) × (root ≡ other)
  one_way u v n root other top also one two = one_path (nodes g) u v n root other top also one two
