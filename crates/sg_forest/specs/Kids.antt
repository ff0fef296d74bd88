-- The children that a node keeps, as a list.
use Rattle.std.specs.Prelude.{List, [], ◌∷◌}
use Rattle.sg_forest.specs.declared.node_id.NodeId.{NodeId}
use Rattle.sg_forest.specs.declared.kids.Form.{Form}
use Rattle.sg_forest.specs.declared.kids.Form.TheVariants.{Empty, One, Two, Three, Long}

abbrev pub kids_of : Form → List NodeId
kids_of Empty = []
kids_of (One a) = a ∷ []
kids_of (Two a b) = a ∷ b ∷ []
kids_of (Three a b c) = a ∷ b ∷ c ∷ []
kids_of (Long kids) = kids.items
