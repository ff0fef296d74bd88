-- All mismatches, each with the type that is wanted and the one that is there, in the order of the text: that of an
-- expression or pattern stands before those inside it.
use Rattle.std.specs.Prelude.{ℕ, Bool, if◌then◌else◌, List, [], ◌∷◌, ◌++◌, map, flat_map, Option, Some, None, option_and_then}
use Rattle.sg_kinds.specs.Specification.{truths, numbers, texts, phylum_of}
use Rattle.sg_kinds.specs.declared.fault.Position.{Position}
use Rattle.sg_ast.specs.Chains.{expr_place}
use Rattle.sg_ast.specs.Declarations.{Decl, Equation, Right, Equations, Function, Transform, Productions}
use Rattle.sg_ast.specs.Expressions.{Expr, Exprs, Cases, Paren, Single, Binary, Choice, Call, Let, With, AndExpr, NoCase, Default, Case}
use Rattle.sg_ast.specs.Patterns as p
use Rattle.sg_ast.specs.Patterns.{Pattern, Patterns, Applied, AndPattern}
use Rattle.sg_ast.specs.declared.expr.Infix.{Infix}
use Rattle.sg_ast.specs.declared.expr.Infix.TheVariants.{Equal, Unequal, Cons}
use Rattle.sg_ast.specs.declared.name.Name.{Name}
use Rattle.sg_names.specs.Lookups.{callable, phylum_named, usable_named}
use Rattle.sg_names.specs.Names.{op_named}
use Rattle.sg_names.specs.declared.table.Table.{Table}
use Rattle.sg_types.specs.Bindings.{Owner, OfProduction, OfNothing}
use Rattle.sg_types.specs.Expressions.{mismatch_in, params_in, prefix_type, taken, type_in}
use Rattle.sg_types.specs.Patterns.{is_operator_of, is_wanted, parts_of, takes_texts, variables_of}
use Rattle.sg_types.specs.Types.{do_agree, fits_where, list_of}
use Rattle.sg_types.specs.declared.scope.Variable.{Variable}
use Rattle.sg_typing.specs.Bodies.{equation_owner, operator, parameter, result_type, target_type}
use Rattle.sg_mistyped.specs.declared.mistyped.Mistyped.{Mistyped}
use Rattle.sg_mistyped.specs.declared.mistyped.Wanted.{Wanted}
use Rattle.sg_mistyped.specs.declared.mistyped.Wanted.TheVariants.{One, AnyList, Like, Any, Unknown}

-- what is wanted where this type is, or a type whose values compare with those of this one; no type is known where what
-- says it has none
abbrev pub one : Option ℕ → Wanted
one None = Unknown
one (Some p) = One p

abbrev pub like : Option ℕ → Wanted
like None = Unknown
like (Some p) = Like p

-- a mismatch, where what is there does not fit
abbrev pub listed : Bool → Mistyped → List Mistyped
listed fits m = if fits then [] else m ∷ []

-- of an expression where a type is wanted, with those inside
abbrev pub and_here : Table → Option ℕ → Option ℕ → Position → List Mistyped → List Mistyped
and_here t wanted found place inside =
    listed (fits_where t wanted found) (record { place = place; wanted = one wanted; found = found }) ++ inside

-- of an expression without parts: one type is wanted
abbrev pub of_atom : Option Position → List Mistyped
of_atom None = []
of_atom (Some place) = record { place = place; wanted = Any; found = None } ∷ []

-- of patterns
abbrev mutual
  pub of_pattern : Table → Pattern → Option ℕ → List Mistyped
  of_pattern t (p.Amount negative n place) wanted =
      listed (is_wanted numbers wanted) (record { place = place; wanted = one wanted; found = Some numbers })
  of_pattern t (p.Chars s) wanted =
      listed (takes_texts t wanted) (record { place = s.place; wanted = one wanted; found = Some texts })
  of_pattern t (p.Truth b place) wanted =
      listed (is_wanted truths wanted) (record { place = place; wanted = one wanted; found = Some truths })
  of_pattern t (p.Anything place) wanted = []
  of_pattern t (p.Variable n) wanted = []
  of_pattern t (p.MadeAs made n place) wanted = let of = usable_named t n.text in
      listed (fits_where t wanted of) (record { place = place; wanted = one wanted; found = of })
  of_pattern t (Applied n xs) wanted = let op = op_named t.ops n.text in
      listed (is_operator_of t op wanted)
      (record { place = n.place; wanted = one wanted; found = option_and_then (phylum_of t.ops) op })
      ++ of_patterns t xs (parts_of t op)

  pub of_patterns : Table → Patterns → List ℕ → List Mistyped
  of_patterns t (AndPattern x xs) (p ∷ ps) = of_pattern t x (Some p) ++ of_patterns t xs ps
  of_patterns t xs ps = []

-- of operators between operands; the right operand of `::` is a list, those of `==` and `!=` compare
abbrev pub of_cons : Table → Option (ℕ × ℕ) → Option ℕ → Option ℕ → Position → Position → List Mistyped
    → List Mistyped → List Mistyped
of_cons t None left right left_place place first second =
    first ++ record { place = place; wanted = AnyList; found = right } ∷ second
of_cons t (Some x) left right left_place place first second = and_here t (Some x.1) left left_place first ++ second

abbrev pub of_equal : Table → Option ℕ → Option ℕ → Position → List Mistyped → List Mistyped → List Mistyped
of_equal t left right place first second =
    first ++ (listed (do_agree t left right) (record { place = place; wanted = like left; found = right }) ++ second)

abbrev pub of_infix : Table → Infix → Option ℕ → Option ℕ → Position → Position → List Mistyped → List Mistyped
    → List Mistyped
of_infix t Equal left right left_place place first second = of_equal t left right place first second
of_infix t Unequal left right left_place place first second = of_equal t left right place first second
of_infix t Cons left right left_place place first second =
    of_cons t (list_of t right) left right left_place place first second
of_infix t s left right left_place place first second =
    and_here t (Some (taken s)) left left_place first ++ and_here t (Some (taken s)) right place second

-- inside expressions
abbrev mutual
  pub of_expr : Table → Owner → List Variable → Expr → List Mistyped
  of_expr t w vs (Paren a place) = of_expr t w vs a
  of_expr t w vs (Single f a place) =
      and_here t (Some (prefix_type f)) (type_in t w vs a) (expr_place a) (of_expr t w vs a)
  of_expr t w vs (Binary s a b) = of_infix t s (type_in t w vs a) (type_in t w vs b) (expr_place a) (expr_place b)
      (of_expr t w vs a) (of_expr t w vs b)
  of_expr t w vs (Choice c a b) = and_here t (Some truths) (type_in t w vs c) (expr_place c) (of_expr t w vs c)
      ++ (of_expr t w vs a
      ++ and_here t (type_in t w vs a) (type_in t w vs b) (expr_place b) (of_expr t w vs b))
  of_expr t w vs (Call n es) = of_exprs t w vs es (params_in t (callable t n.text))
  of_expr t w vs (Let n a b place) = of_expr t w vs a
      ++ of_expr t w (vs ++ record { name = n.text; of = type_in t w vs a } ∷ []) b
  of_expr t w vs (With a q b cs place) =
      let us = vs ++ variables_of t q (type_in t w vs a) in
      of_expr t w vs a ++ (of_pattern t q (type_in t w vs a)
      ++ (of_expr t w us b ++ of_cases t w vs (type_in t w vs a) (type_in t w us b) cs))
  of_expr t w vs e = of_atom (mismatch_in t w vs e)

  pub of_exprs : Table → Owner → List Variable → Exprs → List ℕ → List Mistyped
  of_exprs t w vs (AndExpr e es) (p ∷ ps) =
      and_here t (Some p) (type_in t w vs e) (expr_place e) (of_expr t w vs e) ++ of_exprs t w vs es ps
  of_exprs t w vs es ps = []

  pub of_cases : Table → Owner → List Variable → Option ℕ → Option ℕ → Cases → List Mistyped
  of_cases t w vs subject wanted NoCase = []
  of_cases t w vs subject wanted (Default e) =
      and_here t wanted (type_in t w vs e) (expr_place e) (of_expr t w vs e)
  of_cases t w vs subject wanted (Case q e cs) =
      let us = vs ++ variables_of t q subject in
      of_pattern t q subject ++ (and_here t wanted (type_in t w us e) (expr_place e) (of_expr t w us e)
      ++ of_cases t w vs subject wanted cs)

-- of declarations
abbrev pub of_body : Table → Owner → List Variable → Option ℕ → Expr → List Mistyped
of_body t w vs wanted e = and_here t wanted (type_in t w vs e) (expr_place e) (of_expr t w vs e)

abbrev pub of_equation : Table → ℕ → Equation → List Mistyped
of_equation t op q = of_body t (equation_owner t op q) [] (target_type t op q.target) q.expr

abbrev pub of_right : Table → Name → Right → List Mistyped
of_right t n r = of_body t (OfProduction n.text r.parts) [] (result_type t n) r.expr

abbrev pub of_transform : Table → Option ℕ → Pattern → Expr → List Mistyped
of_transform t p q e = of_pattern t q p ++ of_body t OfNothing (variables_of t q p) p e

abbrev pub of_decl : Table → Decl → List Mistyped
of_decl t (Equations n op locals es) = flat_map (of_equation t (operator t n op)) es
of_decl t (Function of n params e) = of_body t OfNothing (map (parameter t) params) (phylum_named t of.text) e
of_decl t (Transform n title q e) = of_transform t (phylum_named t n.text) q e
of_decl t (Productions n rights) = flat_map (of_right t n) rights
of_decl t d = []

abbrev pub mistypes : Table → List Decl → List Mistyped
mistypes t ds = flat_map (of_decl t) ds
