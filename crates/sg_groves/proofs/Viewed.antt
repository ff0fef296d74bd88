-- A grove shown in another view: each node is what it was and holds the same term.
use Rattle.std.specs.Prelude.{ℕ, Option, Some, None, MatchOption}
use Rattle.sg_kinds.specs.Terms.{Term}
use Rattle.sg_kinds.specs.Places.{Place}
use Rattle.sg_forest.specs.declared.node_id.NodeId.{NodeId}
use Rattle.sg_forest.specs.Node.{Node}
use Rattle.sg_groves.specs.declared.kind.Kind.{Kind}
use Rattle.sg_groves.specs.declared.part.Part.{Part}
use Rattle.sg_groves.specs.Grove.{Grove, IsLeaf, IsOperation, IsNode, IsGrove}
use Rattle.sg_groves.specs.Holds.{Holds, IsPlaced}
use Rattle.sg_groves.specs.IsRight.{IsRight}

module _ (g : Grove) (v : ℕ) where
  pub IsNode-view : (x : Node Kind Part) → IsNode g x → IsNode (record g { view = v }) x
  IsNode-view x is = by x.label.op is
    where
      by : (o : Option ℕ) → MatchOption o (IsLeaf g x) (IsOperation g x) → MatchOption o (IsLeaf (record g { view = v }) x) (IsOperation (record g { view = v }) x)
      by None l = record { arity = l.arity; scheme = l.scheme; elided = l.elided; id = l.id; value = l.value; values = l.values; stands = l.stands; held = l.held }
      by (Some op) o = record { phylum = o.phylum; arity = o.arity; kids = o.kids; scheme = o.scheme; values = o.values }

  pub IsGrove-view : IsGrove g → IsGrove (record g { view = v })
  IsGrove-view is = record { sound = is.sound; unknown = is.unknown; forest = is.forest; each = λ n x found. IsNode-view x (is.each n x found) }

  pub Holds-view : (n : NodeId) (t : Term) → Holds g n t → Holds (record g { view = v }) n t
  Holds-view n t h = record { tree = h.tree; stands = h.stands; term = h.term }

  pub IsPlaced-view : (root : NodeId) (t : Term) (u : Place) (n : NodeId) → IsPlaced g root t u n → IsPlaced (record g { view = v }) root t u n
  IsPlaced-view root t u n p = record { top = p.top; holds = Holds-view root t p.holds; way = p.way }

  pub IsRight-view : (n : NodeId) → IsRight g n → IsRight (record g { view = v }) n
  IsRight-view n r = record { term = r.term; holds = Holds-view n r.term r.holds; right = r.right }
