-- The term of a value that fits a phylum, with scheme number 0 and nothing elided.
use Rattle.std.specs.Prelude.{ℕ, false, List, [], ◌∷◌}
use Rattle.sg_kinds.specs.Values.{Value, Values, Tree, NoValue, AndValue}
use Rattle.sg_kinds.specs.Terms.{Term, Terms, Leaf, Node, NoTerm, AndTerm}
use Rattle.sg_kinds.specs.Specification.{Spec, args_of}

abbrev mutual
  pub plain : Spec → Value → ℕ → Term
  plain spec (Tree op vs) p = Node op 0 false (plain_all spec vs (args_of spec.ops op))
  plain spec v p = Leaf p v

  pub plain_all : Spec → Values → List ℕ → Terms
  plain_all spec NoValue ps = NoTerm
  plain_all spec (AndValue v vs) [] = AndTerm (plain spec v 0) (plain_all spec vs [])
  plain_all spec (AndValue v vs) (p ∷ ps) = AndTerm (plain spec v p) (plain_all spec vs ps)
