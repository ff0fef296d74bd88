-- How tightly operators bind: a level for each rule of the grammar of expressions, from 1 for `? :` to 10 for atoms.
use Rattle.std.specs.Prelude.{ℕ, ◌+◌, ◌-◌, ◌==◌, Bool, not, ◌||◌, if◌then◌else◌, Option, Some, None}
use Rattle.sg_text.specs.declared.symbols.Symbol.{Symbol}
use Rattle.sg_text.specs.declared.symbols.Symbol.TheVariants as sign
use Rattle.sg_ast.specs.declared.expr.Infix.{Infix}
use Rattle.sg_ast.specs.declared.expr.Infix.TheVariants.{Or, And, Equal, Unequal, Below, AtMost, Above, AtLeast, Cons, Join, Add, Sub, Mul, Div, Rem}
use Rattle.sg_ast.specs.declared.expr.Prefix.{Prefix}
use Rattle.sg_ast.specs.declared.expr.Prefix.TheVariants.{Minus, Not}

-- the symbol of an operator
abbrev pub symbol_of : Infix → Symbol
symbol_of Or = sign.BarBar
symbol_of And = sign.AmpersandAmpersand
symbol_of Equal = sign.EqualsEquals
symbol_of Unequal = sign.BangEquals
symbol_of Below = sign.Less
symbol_of AtMost = sign.LessEquals
symbol_of Above = sign.Greater
symbol_of AtLeast = sign.GreaterEquals
symbol_of Cons = sign.ColonColon
symbol_of Join = sign.Hash
symbol_of Add = sign.Plus
symbol_of Sub = sign.Minus
symbol_of Mul = sign.Star
symbol_of Div = sign.Slash
symbol_of Rem = sign.Percent

-- the operator of a symbol
abbrev pub infix_of : Symbol → Option Infix
infix_of sign.BarBar = Some Or
infix_of sign.AmpersandAmpersand = Some And
infix_of sign.EqualsEquals = Some Equal
infix_of sign.BangEquals = Some Unequal
infix_of sign.Less = Some Below
infix_of sign.LessEquals = Some AtMost
infix_of sign.Greater = Some Above
infix_of sign.GreaterEquals = Some AtLeast
infix_of sign.ColonColon = Some Cons
infix_of sign.Hash = Some Join
infix_of sign.Plus = Some Add
infix_of sign.Minus = Some Sub
infix_of sign.Star = Some Mul
infix_of sign.Slash = Some Div
infix_of sign.Percent = Some Rem
infix_of _ = None

-- the symbol of a prefix operator
abbrev pub prefix_symbol : Prefix → Symbol
prefix_symbol Minus = sign.Minus
prefix_symbol Not = sign.Bang

-- the level of an operator between operands
abbrev pub level : Infix → ℕ
level Or = 2
level And = 3
level Equal = 4
level Unequal = 4
level Below = 4
level AtMost = 4
level Above = 4
level AtLeast = 4
level Cons = 5
level Join = 6
level Add = 7
level Sub = 7
level Mul = 8
level Div = 8
level Rem = 8

abbrev pub choice_level : ℕ
choice_level = 1

abbrev pub prefix_level : ℕ
prefix_level = 9

abbrev pub atom_level : ℕ
atom_level = 10

-- `::` groups to the right
abbrev pub groups_right : ℕ → Bool
groups_right n = n == 5

-- repeated operators of the other levels group to the left, but comparisons do not repeat
abbrev pub groups_left : ℕ → Bool
groups_left n = not (n == 4 || n == 5)

-- the least level of the left operand of an operator of level n, and of the right one
abbrev pub left_by : ℕ → ℕ
left_by n = if groups_left n then n else n + 1

abbrev pub right_by : ℕ → ℕ
right_by n = if groups_right n then n else n + 1

-- the greatest level of an operator that may stand behind one of level n and its operands
abbrev pub next_by : ℕ → ℕ
next_by n = if groups_left n then n else n - 1
