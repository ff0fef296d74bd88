-- The evaluation of an expression with fuel, strictly and from left to right.
use Rattle.std.specs.Prelude.{ℕ, zero, suc, ◌+◌, ◌*◌, ◌-◌, Bool, true, false, not, cond, ◌&&◌, ℤ, pos, ◌+ℤ◌, ◌-ℤ◌, ◌*ℤ◌, neg_ℤ, int_lt, int_le, int_div, int_rem, List, [], ◌∷◌, ◌++◌, length, nat_eq, nat_le, Option, Some, None, slice_get, option_map, option_and_then, unwrap_or}
use Rattle.std.specs.Fmt.{signed_decimal}
use Rattle.sg_kinds.specs.Values.{Bytes, Value, Values, Truth, Number, Chars, Tree, Fault, NoValue, AndValue, row_of, is_within, is_number, same_value}
use Rattle.sg_kinds.specs.Expressions.{Expr, Exprs, Cases, Pattern, Patterns, Constant, Named, MadeOf, Single, Binary, Logical, Cons, Choice, Apply, Call, Let, With, NoExpr, AndExpr, NoCase, Default, Case, Exactly, Anything, Variable, MadeAs, Applied, NoPattern, AndPattern}
use Rattle.sg_kinds.specs.Specification.{Spec, Function}
use Rattle.sg_kinds.specs.Completing.{completing}
use Rattle.sg_kinds.specs.Placeholder.{placeholder}
use Rattle.sg_kinds.specs.ValueOf as term
use Rattle.sg_kinds.specs.declared.marks.FaultKind.{FaultKind}
use Rattle.sg_kinds.specs.declared.marks.FaultKind.TheVariants.{Fuel, Depth, Size, Divide, Overflow, NoMatch, Convert}
use Rattle.sg_kinds.specs.declared.marks.Made.{Made}
use Rattle.sg_kinds.specs.declared.marks.Made.TheVariants.{Completing, Placeholder}
use Rattle.sg_kinds.specs.declared.marks.Unary.{Unary}
use Rattle.sg_kinds.specs.declared.marks.Unary.TheVariants.{Paren, Negative, Not, TextToNumber, NumberToText, TextLength}
use Rattle.sg_kinds.specs.declared.marks.Sign.{Sign}
use Rattle.sg_kinds.specs.declared.marks.Sign.TheVariants.{Add, Sub, Mul, Div, Rem, Equal, Unequal, Below, AtMost, Above, AtLeast, Join}
use Rattle.sg_kinds.specs.declared.marks.Connective.{Connective}
use Rattle.sg_kinds.specs.declared.marks.Connective.TheVariants.{Both, Either}

-- the outcome of an expression, and the fuel left
pub data Reached : Type 0 where
  Gives : Value → ℕ → Reached

abbrev pub outcome_in : Reached → Value
outcome_in (Gives v left) = v

-- the values of a row of expressions, or the first fault among them, and the fuel left
pub data Operands : Type 0 where
  Every : List Value → ℕ → Operands
  Halted : FaultKind → ℕ → Operands

-- what stands in the place of a value that no operation takes; over a sound specification nothing comes to this
abbrev pub untyped : Value
untyped = Fault NoMatch

-- the value of `[p]` and of `<p>`
abbrev pub made_value : Spec → Made → ℕ → Value
made_value spec Completing p = term.value_of (completing spec p)
made_value spec Placeholder p = term.value_of (placeholder spec p)

-- a number, or `overflow` where it is out of range
abbrev pub in_range : ℤ → Value
in_range z = cond (is_number z) (Number z) (Fault Overflow)

-- `/` and `%`: truncated toward zero, the remainder with the sign of the dividend
abbrev pub quotient : ℤ → ℤ → Value
quotient x (pos zero) = Fault Divide
quotient x y = in_range (int_div x y)

abbrev pub remainder : ℤ → ℤ → Value
remainder x (pos zero) = Fault Divide
remainder x y = cond (is_number (int_div x y)) (Number (int_rem x y)) (Fault Overflow)

-- an operator of two numbers
abbrev pub arithmetic : Sign → ℤ → ℤ → Value
arithmetic Add x y = in_range (x +ℤ y)
arithmetic Sub x y = in_range (x -ℤ y)
arithmetic Mul x y = in_range (x *ℤ y)
arithmetic Div x y = quotient x y
arithmetic Rem x y = remainder x y
arithmetic Below x y = Truth (int_lt x y)
arithmetic AtMost x y = Truth (int_le x y)
arithmetic Above x y = Truth (int_lt y x)
arithmetic AtLeast x y = Truth (int_le y x)
arithmetic sign x y = untyped

-- an operator with two strict operands, on their values
abbrev pub combined : Sign → Value → Value → Value
combined Equal x y = Truth (same_value x y)
combined Unequal x y = Truth (not (same_value x y))
combined Join (Chars x) (Chars y) = Chars (x ++ y)
combined sign (Number x) (Number y) = arithmetic sign x y
combined sign x y = untyped

-- the number that digits write after those that gave n; none where there is another byte
abbrev pub digits_from : ℕ → Bytes → Option ℕ
digits_from n [] = Some n
digits_from n (d ∷ ds) = cond (nat_le 48 d && nat_le d 57) (digits_from (n * 10 + (d - 48)) ds) None

-- the number that one or more digits write
abbrev pub natural : Bytes → Option ℕ
natural [] = None
natural (d ∷ ds) = digits_from 0 (d ∷ ds)

-- a number as an optional `-` and one or more digits
abbrev pub integer : Bytes → Option ℤ
integer [] = None
integer (d ∷ ds) = cond (nat_eq d 45) (option_map (λ n. neg_ℤ (pos n)) (natural ds)) (option_map pos (natural (d ∷ ds)))

abbrev pub converted : Option ℤ → Value
converted None = Fault Convert
converted (Some z) = cond (is_number z) (Number z) (Fault Convert)

-- a form with one operand, on its value
abbrev pub applied : Unary → Value → Value
applied Paren v = v
applied Negative (Number z) = in_range (neg_ℤ z)
applied Not (Truth b) = Truth (not b)
applied TextToNumber (Chars s) = converted (integer s)
applied NumberToText (Number z) = Chars (signed_decimal z)
applied TextLength (Chars s) = Number (pos (length s))
applied f v = untyped

-- what a pattern's variables are bound to, from left to right, where the value matches
abbrev pub nothing_if : Bool → Option (List Value)
nothing_if true = Some []
nothing_if false = None

abbrev mutual
  pub bound_by : Spec → Pattern → Value → Option (List Value)
  bound_by spec (Exactly w) v = nothing_if (same_value w v)
  bound_by spec Anything v = Some []
  bound_by spec Variable v = Some (v ∷ [])
  bound_by spec (MadeAs made p) v = nothing_if (same_value (made_value spec made p) v)
  bound_by spec (Applied op ps) (Tree q vs) = cond (nat_eq op q) (bound_by_all spec ps vs) None
  bound_by spec (Applied op ps) v = None

  pub bound_by_all : Spec → Patterns → Values → Option (List Value)
  bound_by_all spec NoPattern NoValue = Some []
  bound_by_all spec (AndPattern p ps) (AndValue v vs) =
      option_and_then (λ bs. option_map (λ cs. bs ++ cs) (bound_by_all spec ps vs)) (bound_by spec p v)
  bound_by_all spec ps vs = None

-- how the parts of an expression are evaluated: on bindings and fuel
abbrev pub Inside : Type 0
Inside = Expr → List Value → ℕ → Reached

-- a fault met on the way is the outcome of the whole; else it goes on with the value
abbrev pub then_with : Reached → (Value → ℕ → Reached) → Reached
then_with (Gives (Fault kind) left) go = Gives (Fault kind) left
then_with (Gives v left) go = go v left

-- the expressions after those that gave `done`, from left to right, each with the fuel that the one before left
abbrev pub row_with : Reached → (Value → ℕ → Operands) → Operands
row_with (Gives (Fault kind) left) go = Halted kind left
row_with (Gives v left) go = go v left

abbrev pub row_reached : Inside → List Value → Exprs → List Value → ℕ → Operands
row_reached inside done NoExpr env left = Every done left
row_reached inside done (AndExpr e es) env left = row_with (inside e env left)
    (λ v l. row_reached inside (done ++ v ∷ []) es env l)

abbrev pub with_row : Operands → (List Value → ℕ → Reached) → Reached
with_row (Every vs left) go = go vs left
with_row (Halted kind left) go = Gives (Fault kind) left

-- what comes where a pattern matches, with its bindings, and what comes where it does not
abbrev pub if_bound : Option (List Value) → (List Value → ℕ → Reached) → (ℕ → Reached) → ℕ → Reached
if_bound (Some bs) here later left = here bs left
if_bound None here later left = later left

-- the first case whose pattern matches, else the default, else `nomatch`
abbrev pub first_case : Spec → Inside → Value → Cases → List Value → ℕ → Reached
first_case spec inside v NoCase env left = Gives (Fault NoMatch) left
first_case spec inside v (Default e) env left = inside e env left
first_case spec inside v (Case p e rest) env left = if_bound (bound_by spec p v) (λ bs. inside e (env ++ bs))
    (first_case spec inside v rest env) left

-- one of two, by a truth value
abbrev pub choose : Value → (ℕ → Reached) → (ℕ → Reached) → ℕ → Reached
choose (Truth true) chosen other left = chosen left
choose (Truth false) chosen other left = other left
choose v chosen other left = Gives untyped left

-- `&&` and `||` after their first operand
abbrev pub connected : Connective → Value → (ℕ → Reached) → ℕ → Reached
connected Both x second left = choose x second (Gives (Truth false)) left
connected Either x second left = choose x (Gives (Truth true)) second left

-- the body of a function on its arguments
abbrev pub body_of : Spec → ℕ → Option Expr
body_of spec f = option_and_then (λ (g : Function). slice_get spec.exprs g.body) (slice_get spec.functions f)

abbrev pub body_reached : Inside → Option Expr → List Value → ℕ → Reached
body_reached inside None vs left = Gives untyped left
body_reached inside (Some e) vs left = inside e vs left

-- a node of the expression, after its own unit of fuel
abbrev pub step : Spec → Inside → Expr → List Value → ℕ → Reached
step spec inside (Constant v) env left = Gives v left
step spec inside (Named k) env left = Gives (unwrap_or (slice_get env k) untyped) left
step spec inside (MadeOf made p) env left = Gives (made_value spec made p) left
step spec inside (Single f a) env left = then_with (inside a env left) (λ v l. Gives (applied f v) l)
step spec inside (Binary sign a b) env left = then_with (inside a env left)
    (λ x l. then_with (inside b env l) (λ y m. Gives (combined sign x y) m))
step spec inside (Logical c a b) env left = then_with (inside a env left) (λ x l. connected c x (inside b env) l)
step spec inside (Cons op a b) env left = then_with (inside a env left)
    (λ x l. then_with (inside b env l) (λ y m. Gives (Tree op (row_of (x ∷ y ∷ []))) m))
step spec inside (Choice c a b) env left = then_with (inside c env left)
    (λ x l. choose x (inside a env) (inside b env) l)
step spec inside (Apply op es) env left = with_row (row_reached inside [] es env left)
    (λ vs l. Gives (Tree op (row_of vs)) l)
step spec inside (Call f es) env left = with_row (row_reached inside [] es env left)
    (body_reached inside (body_of spec f))
step spec inside (Let a b) env left = then_with (inside a env left) (λ v l. inside b (env ++ v ∷ []) l)
step spec inside (With a cases) env left = then_with (inside a env left) (λ v l. first_case spec inside v cases env l)

-- a value over a limit becomes `size`
abbrev pub clipped : Value → Value
clipped v = cond (is_within v) v (Fault Size)

abbrev pub limited : Reached → Reached
limited (Gives v left) = Gives (clipped v) left

-- an expression on bindings and fuel, where `room` nodes more may be entered and not left
abbrev pub value_within : Spec → ℕ → Expr → List Value → ℕ → Reached
value_within spec room e env zero = Gives (Fault Fuel) zero
value_within spec zero e env (suc left) = Gives (Fault Depth) (suc left)
value_within spec (suc room) e env (suc left) = limited (step spec (value_within spec room) e env left)
