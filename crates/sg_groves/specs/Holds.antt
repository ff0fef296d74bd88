-- The terms that nodes hold.
use Rattle.std.specs.Prelude.{◌≡◌, List, Some, None}
use Rattle.sg_kinds.specs.Values.{Value}
use Rattle.sg_kinds.specs.Terms.{Term, Terms, Leaf, Node, NoTerm, AndTerm}
use Rattle.sg_kinds.specs.Places.{Place}
use Rattle.sg_forest.specs.declared.node_id.NodeId.{NodeId}
use Rattle.sg_forest.specs.Trees.{IsRoot, Climbs}
use Rattle.sg_forest.specs.Tree.{Tree, Row, node, end, beside, Stands}
use Rattle.sg_groves.specs.declared.kind.Kind.{Kind}
use Rattle.sg_groves.specs.declared.part.Part.{Part}
use Rattle.sg_groves.specs.Grove.{Grove, nodes}
use Rattle.sg_groves.specs.Stored.{kept}

-- the term of a node over these terms: of its operator, with its scheme number and its mark, or its leaf
abbrev pub term_over : List Value → Kind → Part → Terms → Term
term_over pool kind part ts = elim kind.op [
  | None ↦ Leaf kind.phylum
      (kept pool part 0)
  | Some op ↦ Node op part.scheme part.elided ts
]

-- the term of a tree, where the values are those of a pool
abbrev mutual
  pub term_of : List Value → Tree Kind Part → Term
  term_of pool (node kind part ts) = term_over pool kind part (terms_under pool ts)

  pub terms_under : List Value → Row Kind Part → Terms
  terms_under pool end = NoTerm
  terms_under pool (beside t ts) = AndTerm (term_of pool t) (terms_under pool ts)

-- a node holds a term
pub record Holds (g : Grove) (n : NodeId) (t : Term) : Type 0 where
  pub tree : Tree Kind Part
  pub stands : Stands (nodes g) n tree
  pub term : term_of g.pool tree ≡ t

-- a node stands at a place of the term that a root holds
pub record IsPlaced (g : Grove) (root : NodeId) (t : Term) (u : Place) (n : NodeId) : Type 0 where
  pub top : IsRoot (nodes g) root
  pub holds : Holds g root t
  pub way : Climbs (nodes g) u n root
