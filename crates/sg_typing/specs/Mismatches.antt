-- All mismatches: the first tokens of the expressions and patterns whose types are not accepted where they stand, each
-- with those inside it.
use Rattle.std.specs.Prelude.{ℕ, List, [], ◌∷◌, ◌++◌, map, flat_map, Option, Some, None}
use Rattle.sg_kinds.specs.Specification.{truths}
use Rattle.sg_kinds.specs.declared.fault.Position.{Position}
use Rattle.sg_ast.specs.Chains.{expr_place}
use Rattle.sg_ast.specs.Declarations.{Decl, Equation, Right, Equations, Function, Transform, Productions}
use Rattle.sg_ast.specs.Expressions.{Expr, Exprs, Cases, Paren, Single, Binary, Choice, Call, Let, With, AndExpr, NoCase, Default, Case}
use Rattle.sg_ast.specs.Patterns.{Pattern, Patterns, Applied, AndPattern}
use Rattle.sg_ast.specs.declared.expr.Infix.{Infix}
use Rattle.sg_ast.specs.declared.expr.Infix.TheVariants.{Equal, Unequal, Cons}
use Rattle.sg_ast.specs.declared.name.Name.{Name}
use Rattle.sg_names.specs.Lookups.{callable, phylum_named}
use Rattle.sg_names.specs.Names.{op_named}
use Rattle.sg_names.specs.declared.table.Table.{Table}
use Rattle.sg_types.specs.Bindings.{Owner, OfProduction, OfNothing}
use Rattle.sg_types.specs.Expressions.{mismatch_in, params_in, prefix_type, taken, type_in}
use Rattle.sg_types.specs.Patterns as pattern
use Rattle.sg_types.specs.Patterns.{is_operator_of, parts_of, variables_of}
use Rattle.sg_types.specs.Types.{do_agree, fits_where, list_of, unless}
use Rattle.sg_types.specs.declared.scope.Variable.{Variable}
use Rattle.sg_typing.specs.Bodies.{equation_owner, operator, parameter, result_type, target_type}

abbrev pub listed : Option Position → List Position
listed None = []
listed (Some place) = place ∷ []

-- of an expression where a type is wanted, with those inside
abbrev pub and_here : Table → Option ℕ → Option ℕ → Position → List Position → List Position
and_here t wanted found place inside = listed (unless (fits_where t wanted found) place) ++ inside

-- of patterns
abbrev mutual
  pub of_pattern : Table → Pattern → Option ℕ → List Position
  of_pattern t (Applied n xs) wanted = listed (unless (is_operator_of t (op_named t.ops n.text) wanted) n.place)
      ++ of_patterns t xs (parts_of t (op_named t.ops n.text))
  of_pattern t q wanted = listed (pattern.mismatch_in t q wanted)

  pub of_patterns : Table → Patterns → List ℕ → List Position
  of_patterns t (AndPattern x xs) (p ∷ ps) = of_pattern t x (Some p) ++ of_patterns t xs ps
  of_patterns t xs ps = []

-- of operators between operands
abbrev pub of_cons : Table → Option (ℕ × ℕ) → Option ℕ → Position → Position → List Position → List Position
    → List Position
of_cons t None left left_place place first second = first ++ place ∷ second
of_cons t (Some x) left left_place place first second = and_here t (Some x.1) left left_place first ++ second

abbrev pub of_infix : Table → Infix → Option ℕ → Option ℕ → Position → Position → List Position → List Position
    → List Position
of_infix t Equal left right left_place place first second =
    first ++ (listed (unless (do_agree t left right) place) ++ second)
of_infix t Unequal left right left_place place first second =
    first ++ (listed (unless (do_agree t left right) place) ++ second)
of_infix t Cons left right left_place place first second =
    of_cons t (list_of t right) left left_place place first second
of_infix t s left right left_place place first second =
    and_here t (Some (taken s)) left left_place first ++ and_here t (Some (taken s)) right place second

-- inside expressions
abbrev mutual
  pub of_expr : Table → Owner → List Variable → Expr → List Position
  of_expr t w vs (Paren a place) = of_expr t w vs a
  of_expr t w vs (Single f a place) =
      and_here t (Some (prefix_type f)) (type_in t w vs a) (expr_place a) (of_expr t w vs a)
  of_expr t w vs (Binary s a b) = of_infix t s (type_in t w vs a) (type_in t w vs b) (expr_place a) (expr_place b)
      (of_expr t w vs a) (of_expr t w vs b)
  of_expr t w vs (Choice c a b) = and_here t (Some truths) (type_in t w vs c) (expr_place c) (of_expr t w vs c)
      ++ (of_expr t w vs a
      ++ and_here t (type_in t w vs a) (type_in t w vs b) (expr_place b) (of_expr t w vs b))
  of_expr t w vs (Call n es) = of_exprs t w vs es (params_in t (callable t n.text))
  of_expr t w vs (Let n a b place) = of_expr t w vs a
      ++ of_expr t w (vs ++ record { name = n.text; of = type_in t w vs a } ∷ []) b
  of_expr t w vs (With a q b cs place) =
      let us = vs ++ variables_of t q (type_in t w vs a) in
      of_expr t w vs a ++ (of_pattern t q (type_in t w vs a)
      ++ (of_expr t w us b ++ of_cases t w vs (type_in t w vs a) (type_in t w us b) cs))
  of_expr t w vs e = listed (mismatch_in t w vs e)

  pub of_exprs : Table → Owner → List Variable → Exprs → List ℕ → List Position
  of_exprs t w vs (AndExpr e es) (p ∷ ps) =
      and_here t (Some p) (type_in t w vs e) (expr_place e) (of_expr t w vs e) ++ of_exprs t w vs es ps
  of_exprs t w vs es ps = []

  pub of_cases : Table → Owner → List Variable → Option ℕ → Option ℕ → Cases → List Position
  of_cases t w vs subject wanted NoCase = []
  of_cases t w vs subject wanted (Default e) =
      and_here t wanted (type_in t w vs e) (expr_place e) (of_expr t w vs e)
  of_cases t w vs subject wanted (Case q e cs) =
      let us = vs ++ variables_of t q subject in
      of_pattern t q subject ++ (and_here t wanted (type_in t w us e) (expr_place e) (of_expr t w us e)
      ++ of_cases t w vs subject wanted cs)

-- of declarations
abbrev pub of_body : Table → Owner → List Variable → Option ℕ → Expr → List Position
of_body t w vs wanted e = and_here t wanted (type_in t w vs e) (expr_place e) (of_expr t w vs e)

abbrev pub of_equation : Table → ℕ → Equation → List Position
of_equation t op q = of_body t (equation_owner t op q) [] (target_type t op q.target) q.expr

abbrev pub of_right : Table → Name → Right → List Position
of_right t n r = of_body t (OfProduction n.text r.parts) [] (result_type t n) r.expr

abbrev pub of_transform : Table → Option ℕ → Pattern → Expr → List Position
of_transform t p q e = of_pattern t q p ++ of_body t OfNothing (variables_of t q p) p e

abbrev pub of_decl : Table → Decl → List Position
of_decl t (Equations n op locals es) = flat_map (of_equation t (operator t n op)) es
of_decl t (Function of n params e) = of_body t OfNothing (map (parameter t) params) (phylum_named t of.text) e
of_decl t (Transform n title q e) = of_transform t (phylum_named t n.text) q e
of_decl t (Productions n rights) = flat_map (of_right t n) rights
of_decl t d = []

abbrev pub mismatches : Table → List Decl → List Position
mismatches t ds = flat_map (of_decl t) ds
