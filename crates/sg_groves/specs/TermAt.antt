-- The term that a node holds and the place where it stands, as functions.
use Rattle.std.specs.Prelude.{ℕ, zero, suc, [], ◌∷◌, map, Some, None}
use Rattle.std.specs.Option.{option_map_or}
use Rattle.std.specs.FinMap as finmap
use Rattle.sg_kinds.specs.Evaluation.{untyped}
use Rattle.sg_kinds.specs.Terms.{Term, Leaf, kids_of}
use Rattle.sg_kinds.specs.Places.{Place}
use Rattle.sg_forest.specs.declared.node_id.NodeId.{NodeId}
use Rattle.sg_forest.specs.Trees.{room_below}
use Rattle.sg_groves.specs.Grove.{Grove, nodes}
use Rattle.sg_groves.specs.Holds.{term_over}

-- the term under a node, if no way down from it is longer than a number of steps
abbrev pub term_within : Grove → ℕ → NodeId → Term
term_within g zero n = Leaf 0 untyped
term_within g (suc most) n = elim (nodes g n) [
  | None ↦ Leaf 0 untyped
  | Some x ↦ term_over g.pool x.label x.part
      (kids_of (map (term_within g most) x.kids))
]

abbrev pub term_at : Grove → NodeId → Term
term_at g n = term_within g (suc (room_below g.trees n)) n

-- the place of a node below its root, if no more steps than a number lead up to that
abbrev pub way_within : Grove → ℕ → NodeId → Place
way_within g zero n = []
way_within g (suc most) n = option_map_or (λ x. option_map_or (λ u. u.1 ∷ way_within g most u.0) x.up []) (nodes g n) []

abbrev pub way_at : Grove → NodeId → Place
way_at g n = way_within g (finmap.len g.trees.nodes) n
