-- Expressions: their types, their mismatches, and the expressions of the record.
use Rattle.std.specs.Prelude.{ℕ, pos, if◌then◌else◌, List, [], ◌∷◌, ◌++◌, length, Option, Some, None, unwrap_or, is_some}
use Rattle.sg_kinds.specs.Values as value
use Rattle.sg_kinds.specs.Specification.{truths, numbers, texts}
use Rattle.sg_kinds.specs.Expressions as kept
use Rattle.sg_kinds.specs.declared.fault.Position.{Position}
use Rattle.sg_kinds.specs.declared.marks.Made.TheVariants.{Completing}
use Rattle.sg_kinds.specs.declared.marks.Unary.{Unary}
use Rattle.sg_kinds.specs.declared.marks.Unary.TheVariants as unary
use Rattle.sg_kinds.specs.declared.marks.Sign.{Sign}
use Rattle.sg_kinds.specs.declared.marks.Sign.TheVariants as sign
use Rattle.sg_kinds.specs.declared.marks.Connective.TheVariants as connective
use Rattle.sg_ast.specs.Chains.{expr_place, occurrence_place}
use Rattle.sg_ast.specs.Expressions.{Expr, Exprs, Cases, Amount, Chars, Truth, Variable, Attribute, Remote, MadeOf, Paren, Single, Binary, Choice, Call, Let, With, NoExpr, AndExpr, NoCase, Default, Case}
use Rattle.sg_ast.specs.FirstFault.{or_else}
use Rattle.sg_ast.specs.declared.name.Remote as enclosing
use Rattle.sg_ast.specs.declared.expr.Infix.{Infix}
use Rattle.sg_ast.specs.declared.expr.Infix.TheVariants.{Or, And, Equal, Unequal, Below, AtMost, Above, AtLeast, Cons, Join, Add, Sub, Mul, Div, Rem}
use Rattle.sg_ast.specs.declared.expr.Prefix.{Prefix}
use Rattle.sg_ast.specs.declared.expr.Prefix.TheVariants.{Minus, Not}
use Rattle.sg_names.specs.declared.table.Table.{Table}
use Rattle.sg_names.specs.declared.table.Callable.{Callable}
use Rattle.sg_names.specs.declared.table.Callable.TheVariants as callable
use Rattle.sg_names.specs.Lookups as look
use Rattle.sg_types.specs.declared.scope.Variable as scope
use Rattle.sg_types.specs.Types.{unless, untyped, fits_where, do_agree, list_of}
use Rattle.sg_types.specs.Bindings.{Owner, reference_at, remote_at, variable_at, type_there, place_there}
use Rattle.sg_types.specs.Patterns as pattern

-- what an operator between operands takes and gives, but for `==`, `!=` and `::`
abbrev pub taken : Infix → ℕ
taken Or = truths
taken And = truths
taken Join = texts
taken s = numbers

abbrev pub given : Infix → Option ℕ → Option ℕ
given Cons right = right
given Join right = Some texts
given Add right = Some numbers
given Sub right = Some numbers
given Mul right = Some numbers
given Div right = Some numbers
given Rem right = Some numbers
given s right = Some truths

abbrev pub prefix_type : Prefix → ℕ
prefix_type Minus = numbers
prefix_type Not = truths

abbrev pub called_type : Table → Option Callable → Option ℕ
called_type t None = None
called_type t (Some c) = look.result_of t c

-- the one type of the attributes that a reference to enclosing nodes lists
abbrev pub one_type : Table → Owner → enclosing.Remote → Option ℕ
one_type t w r = if look.are_alike t r then type_there (remote_at t w r) else None

-- the type of an expression, if its names mean something; a reference to enclosing nodes whose attributes have several
-- types has that of the first
abbrev pub type_in : Table → Owner → List scope.Variable → Expr → Option ℕ
type_in t w vs (Amount n place) = Some numbers
type_in t w vs (Chars s) = Some texts
type_in t w vs (Truth b place) = Some truths
type_in t w vs (Variable n) = type_there (variable_at t w vs n.text)
type_in t w vs (Attribute r) = type_there (reference_at t w r)
type_in t w vs (Remote r) = if look.are_alike t r then type_there (remote_at t w r) else look.first_type t r.pairs
type_in t w vs (MadeOf made n place) = look.usable_named t n.text
type_in t w vs (Paren a place) = type_in t w vs a
type_in t w vs (Single f a place) = Some (prefix_type f)
type_in t w vs (Binary s a b) = given s (type_in t w vs b)
type_in t w vs (Choice c a b) = type_in t w vs a
type_in t w vs (Call n es) = called_type t (look.callable t n.text)
type_in t w vs (Let n a b place) = type_in t w (vs ++ record { name = n.text; of = type_in t w vs a } ∷ []) b
type_in t w vs (With a q b cs place) = type_in t w (vs ++ pattern.variables_of t q (type_in t w vs a)) b

-- the types of the parameters
abbrev pub params_in : Table → Option Callable → List ℕ
params_in t None = []
params_in t (Some c) = look.params_of t c

-- the first mismatch of an expression where a type is wanted, from its own type, its place and the first mismatch
-- inside
abbrev pub where_wanted : Table → Option ℕ → Option ℕ → Position → Option Position → Option Position
where_wanted t wanted found place inside = or_else (unless (fits_where t wanted found) place) inside

-- of `==` the right operand is the place; of `::` the right one where it is of no list type, else the left one
abbrev pub at_equal : Table → Option ℕ → Option ℕ → Position → Option Position → Option Position → Option Position
at_equal t left right place first second = or_else first (or_else (unless (do_agree t left right) place) second)

abbrev pub at_cons : Table → Option (ℕ × ℕ) → Option ℕ → Position → Position → Option Position → Option Position
    → Option Position
at_cons t None left left_place place first second = or_else first (Some place)
at_cons t (Some x) left left_place place first second = or_else (where_wanted t (Some x.1) left left_place first) second

abbrev pub at_infix : Table → Infix → Option ℕ → Option ℕ → Position → Position → Option Position → Option Position
    → Option Position
at_infix t Equal left right left_place place first second = at_equal t left right place first second
at_infix t Unequal left right left_place place first second = at_equal t left right place first second
at_infix t Cons left right left_place place first second =
    at_cons t (list_of t right) left left_place place first second
at_infix t s left right left_place place first second =
    or_else (where_wanted t (Some (taken s)) left left_place first) (where_wanted t (Some (taken s)) right place second)

-- the place, where there are more arguments than parameters
abbrev pub surplus : Exprs → Position → Option Position
surplus NoExpr place = None
surplus (AndExpr e es) place = Some place

-- the first mismatch inside an expression; a name that means nothing is one, a reference to enclosing nodes whose
-- attributes have several types, and a call with another number of arguments
abbrev mutual
  pub mismatch_in : Table → Owner → List scope.Variable → Expr → Option Position
  mismatch_in t w vs (Amount n place) = None
  mismatch_in t w vs (Chars s) = None
  mismatch_in t w vs (Truth b place) = None
  mismatch_in t w vs (Variable n) = untyped (type_in t w vs (Variable n)) n.place
  mismatch_in t w vs (Attribute r) = untyped (type_in t w vs (Attribute r)) (occurrence_place r.of)
  mismatch_in t w vs (Remote r) = untyped (one_type t w r) r.place
  mismatch_in t w vs (MadeOf made n place) = untyped (look.usable_named t n.text) place
  mismatch_in t w vs (Paren a place) = mismatch_in t w vs a
  mismatch_in t w vs (Single f a place) = where_wanted t (Some (prefix_type f)) (type_in t w vs a) (expr_place a)
      (mismatch_in t w vs a)
  mismatch_in t w vs (Binary s a b) = at_infix t s (type_in t w vs a) (type_in t w vs b) (expr_place a) (expr_place b)
      (mismatch_in t w vs a) (mismatch_in t w vs b)
  mismatch_in t w vs (Choice c a b) =
      or_else (where_wanted t (Some truths) (type_in t w vs c) (expr_place c) (mismatch_in t w vs c))
      (or_else (mismatch_in t w vs a) (where_wanted t (type_in t w vs a) (type_in t w vs b) (expr_place b)
      (mismatch_in t w vs b)))
  mismatch_in t w vs (Call n es) = or_else (unless (is_some (look.callable t n.text)) n.place)
      (mismatch_in_all t w vs n.place es (params_in t (look.callable t n.text)))
  mismatch_in t w vs (Let n a b place) = or_else (mismatch_in t w vs a)
      (mismatch_in t w (vs ++ record { name = n.text; of = type_in t w vs a } ∷ []) b)
  mismatch_in t w vs (With a q b cs place) =
      or_else (mismatch_in t w vs a)
      (or_else (pattern.mismatch_in t q (type_in t w vs a))
      (or_else (mismatch_in t w (vs ++ pattern.variables_of t q (type_in t w vs a)) b)
      (mismatch_in_cases t w vs (type_in t w vs a) (type_in t w (vs
      ++ pattern.variables_of t q (type_in t w vs a)) b) cs)))

  -- each argument where its parameter's type is wanted
  pub mismatch_in_all : Table → Owner → List scope.Variable → Position → Exprs → List ℕ → Option Position
  mismatch_in_all t w vs place es [] = surplus es place
  mismatch_in_all t w vs place NoExpr (p ∷ ps) = Some place
  mismatch_in_all t w vs place (AndExpr e es) (p ∷ ps) =
      or_else (where_wanted t (Some p) (type_in t w vs e) (expr_place e) (mismatch_in t w vs e))
      (mismatch_in_all t w vs place es ps)

  -- the cases after the first, where its type is wanted
  pub mismatch_in_cases : Table → Owner → List scope.Variable → Option ℕ → Option ℕ → Cases → Option Position
  mismatch_in_cases t w vs subject wanted NoCase = None
  mismatch_in_cases t w vs subject wanted (Default e) =
      where_wanted t wanted (type_in t w vs e) (expr_place e) (mismatch_in t w vs e)
  mismatch_in_cases t w vs subject wanted (Case q e cs) =
      let vars = vs ++ pattern.variables_of t q subject in
      or_else (pattern.mismatch_in t q subject)
      (or_else (where_wanted t wanted (type_in t w vars e) (expr_place e) (mismatch_in t w vars e))
      (mismatch_in_cases t w vs subject wanted cs))

-- the first mismatch of an expression where a type is wanted
abbrev pub mismatch_at : Table → Owner → List scope.Variable → Option ℕ → Expr → Option Position
mismatch_at t w vs wanted e = where_wanted t wanted (type_in t w vs e) (expr_place e) (mismatch_in t w vs e)

-- operators of the record
abbrev pub sign_of : Infix → Sign
sign_of Equal = sign.Equal
sign_of Unequal = sign.Unequal
sign_of Below = sign.Below
sign_of AtMost = sign.AtMost
sign_of Above = sign.Above
sign_of AtLeast = sign.AtLeast
sign_of Join = sign.Join
sign_of Add = sign.Add
sign_of Sub = sign.Sub
sign_of Mul = sign.Mul
sign_of Div = sign.Div
sign_of s = sign.Rem

abbrev pub prefix_of : Prefix → Unary
prefix_of Minus = unary.Negative
prefix_of Not = unary.Not

-- the binary operator of a list, 0 where the type is of no list
abbrev pub pair_in : Option (ℕ × ℕ) → ℕ
pair_in None = 0
pair_in (Some x) = x.0

abbrev pub infix_at : Infix → Option (ℕ × ℕ) → kept.Expr → kept.Expr → kept.Expr
infix_at Or list a b = kept.Logical connective.Either a b
infix_at And list a b = kept.Logical connective.Both a b
infix_at Cons list a b = kept.Cons (pair_in list) a b
infix_at s list a b = kept.Binary (sign_of s) a b

abbrev pub infix_in : Table → Infix → Option ℕ → kept.Expr → kept.Expr → kept.Expr
infix_in t s right a b = infix_at s (list_of t right) a b

-- the argument of a builtin
abbrev pub only_in : kept.Exprs → kept.Expr
only_in kept.NoExpr = kept.Named 0
only_in (kept.AndExpr e es) = e

abbrev pub called_in : Option Callable → kept.Exprs → kept.Expr
called_in None es = kept.Named 0
called_in (Some (callable.Operator op)) es = kept.Apply op es
called_in (Some (callable.Function f)) es = kept.Call f es
called_in (Some (callable.Builtin f)) es = kept.Single f (only_in es)

-- the expression of the record, in which parentheses are kept; a name that means nothing has the number 0, and
-- attributes of several types are a term of no phylum
abbrev mutual
  pub recorded : Table → Owner → List scope.Variable → Expr → kept.Expr
  recorded t w vs (Amount n place) = kept.Constant (value.Number (pos n))
  recorded t w vs (Chars s) = kept.Constant (value.Chars s.text)
  recorded t w vs (Truth b place) = kept.Constant (value.Truth b)
  recorded t w vs (Variable n) = kept.Named (place_there (variable_at t w vs n.text))
  recorded t w vs (Attribute r) = kept.Named (place_there (reference_at t w r))
  recorded t w vs (Remote r) = if look.are_alike t r then kept.Named (place_there (remote_at t w r))
      else kept.MadeOf Completing (length t.phyla)
  recorded t w vs (MadeOf made n place) = kept.MadeOf made (unwrap_or (look.usable_named t n.text) 0)
  recorded t w vs (Paren a place) = kept.Single unary.Paren (recorded t w vs a)
  recorded t w vs (Single f a place) = kept.Single (prefix_of f) (recorded t w vs a)
  recorded t w vs (Binary s a b) = infix_in t s (type_in t w vs b) (recorded t w vs a) (recorded t w vs b)
  recorded t w vs (Choice c a b) = kept.Choice (recorded t w vs c) (recorded t w vs a) (recorded t w vs b)
  recorded t w vs (Call n es) = called_in (look.callable t n.text)
      (recorded_all t w vs es (params_in t (look.callable t n.text)))
  recorded t w vs (Let n a b place) = kept.Let (recorded t w vs a)
      (recorded t w (vs ++ record { name = n.text; of = type_in t w vs a } ∷ []) b)
  recorded t w vs (With a q b cs place) =
      kept.With (recorded t w vs a)
      (kept.Case (pattern.recorded t q) (recorded t w (vs ++ pattern.variables_of t q (type_in t w vs a)) b)
      (recorded_cases t w vs (type_in t w vs a) cs))

  pub recorded_all : Table → Owner → List scope.Variable → Exprs → List ℕ → kept.Exprs
  recorded_all t w vs (AndExpr e es) (p ∷ ps) = kept.AndExpr (recorded t w vs e) (recorded_all t w vs es ps)
  recorded_all t w vs es ps = kept.NoExpr

  pub recorded_cases : Table → Owner → List scope.Variable → Option ℕ → Cases → kept.Cases
  recorded_cases t w vs subject NoCase = kept.NoCase
  recorded_cases t w vs subject (Default e) = kept.Default (recorded t w vs e)
  recorded_cases t w vs subject (Case q e cs) = kept.Case (pattern.recorded t q)
      (recorded t w (vs ++ pattern.variables_of t q subject) e) (recorded_cases t w vs subject cs)
