use Rattle.std.proofs.Common.{◌+◌, ◌*◌, ℕ, Bool, drop}
use Rattle.sg_kinds.specs.Places.{Place}
use Rattle.sg_kinds.specs.Terms.{Terms, Node}
use Rattle.sg_forest.specs.Trees.{room_below}
use Rattle.sg_forest.specs.declared.node_id.NodeId.{NodeId}
use Rattle.sg_unparse.specs.Along.{IsAlong, node_along, items_in, kids_in}
use Rattle.sg_unparse.specs.Cells.{goes_on}
use Rattle.sg_unparse.specs.Written.{Wrote}
use Rattle.sg_unparse.specs.declared.writer.Writer.{Writer}
use Rattle.sg_unparse.proofs.unparsing.+node.Given as goal

abbrev pub decreases-write_child : goal.decreases-write_child
decreases-write_child l = 6 * room_below l.shown.now.terms.now.trees l.site.now.node

abbrev pub decreases-write_item : goal.decreases-write_item
decreases-write_item l = 6 * room_below l.shown.now.terms.now.trees l.site.now.node + 1

abbrev pub decreases-write_items : goal.decreases-write_items
decreases-write_items l = 6 * room_below l.shown.now.terms.now.trees l.site.now.node + 2

abbrev pub decreases-write_scheme : goal.decreases-write_scheme
decreases-write_scheme l = 6 * room_below l.shown.now.terms.now.trees l.n + 3

abbrev pub decreases-content : goal.decreases-content
decreases-content l = 6 * room_below l.shown.now.terms.now.trees l.n + 4

abbrev pub decreases-node : goal.decreases-node
decreases-node l = 6 * room_below l.shown.now.terms.now.trees l.n + 5

-- what is left decides
abbrev pub invariant-write_items-loop-item : goal.invariant-write_items-loop-item
invariant-write_items-loop-item l =
    (root : NodeId) (u : Place) (k : ℕ) (elided : Bool) (ts : Terms) (end : Writer) → IsAlong l.shown.terms.now root u l.site.node (Node l.site.op k elided ts)
    → Wrote (node_along l.shown.terms.now root) l.w end (items_in l.shown.terms.now root l.shown.captured l.shown.text.now u l.site.op (goes_on ts) (drop l.item-index l.items) (drop l.next (kids_in l.shown.terms.now root l.shown.captured l.shown.text.now u ts)))
    → Wrote (node_along l.shown.terms.now root) l.initial.w end (items_in l.shown.terms.now root l.shown.captured l.shown.text.now u l.site.op (goes_on ts) l.items (kids_in l.shown.terms.now root l.shown.captured l.shown.text.now u ts))
