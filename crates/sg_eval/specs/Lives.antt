-- What stands for values while an expression is evaluated.
use Rattle.std.specs.Prelude.{◌≡◌, ℕ, ◌<◌, Bool, true, false, not, cond, List, [], ◌∷◌, ◌++◌, map, Option, Some, None, Result, Ok, Err, IsTrue, ⊤, nat_eq, length, ℤ}
use Rattle.sg_kinds.specs.Values.{Value, Truth, Number, Chars, Tree, Fault, is_within}
use Rattle.sg_pool.specs.Pools.{value_at}
use Rattle.sg_kinds.specs.Evaluation.{Reached, Operands, Gives, Every, Halted}
use Rattle.sg_kinds.specs.declared.marks.FaultKind.TheVariants.{Overflow}
use Rattle.sg_kinds.specs.declared.marks.Connective.{Connective}
use Rattle.sg_kinds.specs.declared.marks.Connective.TheVariants.{Both, Either}
use Rattle.sg_eval.specs.declared.live.Live.{Live}
use Rattle.sg_eval.specs.declared.live.Live.TheVariants as live
use Rattle.sg_eval.specs.declared.live.Stop.{Stop}
use Rattle.sg_eval.specs.declared.live.Stop.TheVariants as stop

-- the value for which one stands in a pool
abbrev pub value_in : List Value → Live → Value
value_in pool live.False = Truth false
value_in pool live.True = Truth true
value_in pool (live.Number z) = Number z
value_in pool (live.Kept k) = value_at pool k

-- a number, or each number among these, is below n
abbrev pub IsKnown : ℕ → Live → Type 0
IsKnown n (live.Kept k) = k < n
IsKnown n l = ⊤

abbrev pub AreKnown : ℕ → List Live → Type 0
AreKnown n [] = ⊤
AreKnown n (l ∷ ls) = IsKnown n l × AreKnown n ls

-- the bindings: the arguments by their numbers, and what was bound since
abbrev pub bindings : List ℕ → List Live → List Live
bindings args env = map live.Kept args ++ env

-- the values of bindings
abbrev pub bound_in : List Value → List ℕ → List Live → List Value
bound_in pool args env = map (value_in pool) (bindings args env)

-- a text or a tree in the limits
abbrev pub is_settled : Value → Bool
is_settled (Chars s) = is_within (Chars s)
is_settled (Tree op vs) = is_within (Tree op vs)
is_settled v = false

-- what an evaluation may give: a truth value or a number as it is, a text or a tree by its number
abbrev pub IsUsable : List Value → Live → Type 0
IsUsable pool (live.Kept k) = IsTrue (is_settled (value_at pool k))
IsUsable pool l = ⊤

abbrev pub AreUsable : List Value → List Live → Type 0
AreUsable pool [] = ⊤
AreUsable pool (l ∷ ls) = IsUsable pool l × AreUsable pool ls

-- an answer of the code is the outcome that was to be reached; want of memory is none
abbrev pub IsReached : List Value → Result Live Stop → ℕ → Reached → Type 0
IsReached pool (Ok l) left r = (r ≡ Gives (value_in pool l) left) × IsUsable pool l
IsReached pool (Err (stop.Fault kind)) left r = r ≡ Gives (Fault kind) left
IsReached pool (Err stop.NoMemory) left r = ⊤

-- the answers of a row of expressions, or why there are none, are those that were to be reached
abbrev pub AreReached : List Value → List Live → ℕ → Operands → Type 0
AreReached pool ls left o = (o ≡ Every (map (value_in pool) ls) left) × AreUsable pool ls

abbrev pub IsHalted : Stop → ℕ → Operands → Type 0
IsHalted (stop.Fault kind) left o = o ≡ Halted kind left
IsHalted stop.NoMemory left o = ⊤

-- whether a value is a tree of this operator
abbrev pub is_tree_of : ℕ → Value → Bool
is_tree_of op (Tree q vs) = nat_eq op q
is_tree_of op v = false

-- whether a pattern matched, and what was put behind the bindings for it
pub record IsMatched (pool : List Value) (o : Option (List Value)) (before after : List Live) (b : Bool) : Type 0 where
  pub more : List Live
  pub pushed : after ≡ before ++ more
  pub known : AreKnown (length pool) more
  pub bound : o ≡ cond b (Some (map (value_in pool) more)) None

-- a number, or the fault that it is out of range
abbrev pub number_or_overflow : Option ℤ → Value
number_or_overflow (Some z) = Number z
number_or_overflow None = Fault Overflow

-- whether a value is a text
abbrev pub is_chars : Value → Bool
is_chars (Chars s) = true
is_chars v = false

-- whether the second operand of `&&` or `||` decides
abbrev pub needs_second : Connective → Bool → Bool
needs_second Both first = first
needs_second Either first = not first
