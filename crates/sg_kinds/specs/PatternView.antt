-- The patterns of the code, as those of the definitions.
use Rattle.sg_kinds.specs.Values.{Value, Truth, Number, Chars}
use Rattle.sg_kinds.specs.Expressions.{Pattern, Patterns, Exactly, Anything, Variable, MadeAs, Applied, NoPattern, AndPattern}
use Rattle.sg_kinds.specs.declared.pattern.Literal.{Literal}
use Rattle.sg_kinds.specs.declared.pattern.Literal.TheVariants as literal
use Rattle.sg_kinds.specs.declared.pattern.PatternTree.{PatternTree}
use Rattle.sg_kinds.specs.declared.pattern.PatternTree.TheVariants as tree
use Rattle.sg_kinds.specs.declared.pattern.PatternList.{PatternList}
use Rattle.sg_kinds.specs.declared.pattern.PatternList.TheVariants as list

abbrev pub literal_of : Literal → Value
literal_of (literal.Truth b) = Truth b
literal_of (literal.Number z) = Number z
literal_of (literal.Text s) = Chars s

abbrev mutual
  pub pattern_of : PatternTree → Pattern
  pattern_of (tree.Literal x) = Exactly (literal_of x)
  pattern_of tree.Anything = Anything
  pattern_of tree.Variable = Variable
  pattern_of (tree.Made made p) = MadeAs made p
  pattern_of (tree.Operator op ps) = Applied op (patterns_of ps)

  pub patterns_of : PatternList → Patterns
  patterns_of list.End = NoPattern
  patterns_of (list.More' p x q xs) = AndPattern (pattern_of x) (patterns_of xs)
