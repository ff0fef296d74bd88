-- The mismatches with types stand at all mismatches.
use Rattle.std.proofs.Common.{◌≡◌, refl, ap, ◌∙◌, ℕ, Bool, true, false, List, [], ◌∷◌, ◌++◌, map, Option, Some, None}
use Rattle.std.specs.Prelude.{flat_map}
use Rattle.std.proofs.lemmas.List.{map-append}
use Rattle.sg_kinds.specs.Specification.{truths, numbers, texts}
use Rattle.sg_kinds.specs.declared.fault.Position.{Position}
use Rattle.sg_ast.specs.Chains.{expr_place}
use Rattle.sg_ast.specs.Declarations.{Decl, Equations, Function, Transform, Productions}
use Rattle.sg_ast.specs.Expressions.{Expr, Exprs, Cases, Amount, Chars, Truth, Variable, Attribute, Remote, MadeOf, Paren, Single, Binary, Choice, Call, Let, With, NoExpr, AndExpr, NoCase, Default, Case}
use Rattle.sg_ast.specs.Patterns as p
use Rattle.sg_ast.specs.Patterns.{Pattern, Patterns, NoPattern, AndPattern}
use Rattle.sg_ast.specs.declared.expr.Infix.{Infix}
use Rattle.sg_ast.specs.declared.expr.Infix.TheVariants.{Or, And, Equal, Unequal, Below, AtMost, Above, AtLeast, Cons, Join, Add, Sub, Mul, Div, Rem}
use Rattle.sg_names.specs.Lookups.{callable, phylum_named}
use Rattle.sg_names.specs.Names.{op_named}
use Rattle.sg_names.specs.declared.table.Table.{Table}
use Rattle.sg_types.specs.Bindings.{Owner, OfProduction, OfNothing}
use Rattle.sg_types.specs.Expressions.{params_in, prefix_type, type_in}
use Rattle.sg_types.specs.Patterns.{is_operator_of, parts_of, variables_of}
use Rattle.sg_types.specs.Types.{do_agree, fits_where, list_of, unless}
use Rattle.sg_types.specs.declared.scope.Variable as vars
use Rattle.sg_typing.specs.Bodies.{equation_owner, operator, parameter, result_type, target_type}
use Rattle.sg_typing.specs.Mismatches as all
use Rattle.sg_mistyped.specs.Mistyped.{and_here, listed, mistypes, of_atom, of_body, of_cases, of_cons, of_decl, of_equal, of_equation, of_expr, of_exprs, of_infix, of_pattern, of_patterns, of_right, one, like}
use Rattle.sg_mistyped.specs.declared.mistyped.Mistyped.{Mistyped}

abbrev pub places : List Mistyped → List Position
places ms = map (λ (m : Mistyped). m.place) ms

listed_places : (b : Bool) (m : Mistyped) → places (listed b m) ≡ all.listed (unless b m.place)
listed_places true m = refl
listed_places false m = refl

atom_places : (found : Option Position) → places (of_atom found) ≡ all.listed found
atom_places None = refl
atom_places (Some place) = refl

both : (xs ys : List Mistyped) (us vs : List Position) → places xs ≡ us → places ys ≡ vs → places (xs ++ ys) ≡ us ++ vs
both xs ys us vs e f = map-append (λ (m : Mistyped). m.place) xs ys ∙ (λ i. e i ++ f i)

here_places : (t : Table) (wanted found : Option ℕ) (place : Position) (xs : List Mistyped) (us : List Position) → places xs ≡ us → places (and_here t wanted found place xs) ≡ all.and_here t wanted found place us
here_places t wanted found place xs us e =
    let m : Mistyped = record { place = place; wanted = one wanted; found = found } in
    both (listed (fits_where t wanted found) m) xs (all.listed (unless (fits_where t wanted found) place)) us (listed_places (fits_where t wanted found) m) e

each_places : {X : Type 0} (f : X → List Mistyped) (g : X → List Position) → ((x : X) → places (f x) ≡ g x) → (xs : List X) → places (flat_map f xs) ≡ flat_map g xs
each_places f g one [] = refl
each_places f g one (x ∷ xs) = both (f x) (flat_map f xs) (g x) (flat_map g xs) (one x) (each_places f g one xs)

module _ (t : Table) where
  mutual
    pattern_places : (q : Pattern) (wanted : Option ℕ) → places (of_pattern t q wanted) ≡ all.of_pattern t q wanted
    pattern_places (p.Amount negative n place) wanted = listed_places _ _
    pattern_places (p.Chars s) wanted = listed_places _ _
    pattern_places (p.Truth b place) wanted = listed_places _ _
    pattern_places (p.Anything place) wanted = refl
    pattern_places (p.Variable n) wanted = refl
    pattern_places (p.MadeAs made n place) wanted = listed_places _ _
    pattern_places (p.Applied n xs) wanted =
        let o = op_named t.ops n.text in
        both _ (of_patterns t xs (parts_of t o)) _ (all.of_patterns t xs (parts_of t o)) (listed_places (is_operator_of t o wanted) _) (patterns_places xs (parts_of t o))

    patterns_places : (xs : Patterns) (ps : List ℕ) → places (of_patterns t xs ps) ≡ all.of_patterns t xs ps
    patterns_places NoPattern ps = refl
    patterns_places (AndPattern x xs) [] = refl
    patterns_places (AndPattern x xs) (p ∷ ps) = both (of_pattern t x (Some p)) (of_patterns t xs ps) _ _ (pattern_places x (Some p)) (patterns_places xs ps)

  -- operators between operands
  module _ (q r : Option ℕ) (px py : Position) (xs ys : List Mistyped) (us vs : List Position) (e : places xs ≡ us) (f : places ys ≡ vs) where
    plain_places : (wanted : ℕ) → places (and_here t (Some wanted) q px xs ++ and_here t (Some wanted) r py ys) ≡ all.and_here t (Some wanted) q px us ++ all.and_here t (Some wanted) r py vs
    plain_places wanted = both (and_here t (Some wanted) q px xs) (and_here t (Some wanted) r py ys) _ _ (here_places t (Some wanted) q px xs us e) (here_places t (Some wanted) r py ys vs f)

    equal_places : places (of_equal t q r py xs ys) ≡ us ++ (all.listed (unless (do_agree t q r) py) ++ vs)
    equal_places = let m : Mistyped = record { place = py; wanted = like q; found = r } in
        both xs (listed (do_agree t q r) m ++ ys) us _ e (both (listed (do_agree t q r) m) ys _ vs (listed_places (do_agree t q r) m) f)

    cons_places : (o : Option (ℕ × ℕ)) → places (of_cons t o q r px py xs ys) ≡ all.of_cons t o q px py us vs
    cons_places None = both xs (_ ∷ ys) us (py ∷ vs) e (ap (λ l. py ∷ l) f)
    cons_places (Some z) = both (and_here t (Some z.1) q px xs) ys _ vs (here_places t (Some z.1) q px xs us e) f

    infix_places : (s : Infix) → places (of_infix t s q r px py xs ys) ≡ all.of_infix t s q r px py us vs
    infix_places Equal = equal_places
    infix_places Unequal = equal_places
    infix_places Cons = cons_places (list_of t r)
    infix_places Or = plain_places truths
    infix_places And = plain_places truths
    infix_places Join = plain_places texts
    infix_places Below = plain_places numbers
    infix_places AtMost = plain_places numbers
    infix_places Above = plain_places numbers
    infix_places AtLeast = plain_places numbers
    infix_places Add = plain_places numbers
    infix_places Sub = plain_places numbers
    infix_places Mul = plain_places numbers
    infix_places Div = plain_places numbers
    infix_places Rem = plain_places numbers

  module _ (w : Owner) where
    mutual
      expr_places : (vs : List vars.Variable) (e : Expr) → places (of_expr t w vs e) ≡ all.of_expr t w vs e
      expr_places vs (Amount n place) = refl
      expr_places vs (Chars s) = refl
      expr_places vs (Truth b place) = refl
      expr_places vs (Variable n) = atom_places _
      expr_places vs (Attribute r) = atom_places _
      expr_places vs (Remote r) = atom_places _
      expr_places vs (MadeOf made n place) = atom_places _
      expr_places vs (Paren a place) = expr_places vs a
      expr_places vs (Single f a place) = here_places t (Some (prefix_type f)) (type_in t w vs a) (expr_place a) (of_expr t w vs a) (all.of_expr t w vs a) (expr_places vs a)
      expr_places vs (Binary s a b) = infix_places (type_in t w vs a) (type_in t w vs b) (expr_place a) (expr_place b) (of_expr t w vs a) (of_expr t w vs b) (all.of_expr t w vs a) (all.of_expr t w vs b) (expr_places vs a) (expr_places vs b) s
      expr_places vs (Choice c a b) =
          both (and_here t (Some truths) (type_in t w vs c) (expr_place c) (of_expr t w vs c)) (of_expr t w vs a ++ and_here t (type_in t w vs a) (type_in t w vs b) (expr_place b) (of_expr t w vs b)) _ _ (here_places t (Some truths) (type_in t w vs c) (expr_place c) (of_expr t w vs c) (all.of_expr t w vs c) (expr_places vs c))
          (both (of_expr t w vs a) (and_here t (type_in t w vs a) (type_in t w vs b) (expr_place b) (of_expr t w vs b)) _ _ (expr_places vs a) (here_places t (type_in t w vs a) (type_in t w vs b) (expr_place b) (of_expr t w vs b) (all.of_expr t w vs b) (expr_places vs b)))
      expr_places vs (Call n es) = exprs_places vs es (params_in t (callable t n.text))
      expr_places vs (Let n a b place) =
          let us = vs ++ record { name = n.text; of = type_in t w vs a } ∷ [] in
          both (of_expr t w vs a) (of_expr t w us b) _ _ (expr_places vs a) (expr_places us b)
      expr_places vs (With a q b cs place) =
          let o = type_in t w vs a in
          let us = vs ++ variables_of t q o in
          both (of_expr t w vs a) (of_pattern t q o ++ (of_expr t w us b ++ of_cases t w vs o (type_in t w us b) cs)) _ _ (expr_places vs a)
          (both (of_pattern t q o) (of_expr t w us b ++ of_cases t w vs o (type_in t w us b) cs) _ _ (pattern_places q o)
          (both (of_expr t w us b) (of_cases t w vs o (type_in t w us b) cs) _ _ (expr_places us b) (cases_places vs o (type_in t w us b) cs)))

      exprs_places : (vs : List vars.Variable) (es : Exprs) (ps : List ℕ) → places (of_exprs t w vs es ps) ≡ all.of_exprs t w vs es ps
      exprs_places vs NoExpr ps = refl
      exprs_places vs (AndExpr e es) [] = refl
      exprs_places vs (AndExpr e es) (p ∷ ps) = both (of_body t w vs (Some p) e) (of_exprs t w vs es ps) _ _ (here_places t (Some p) (type_in t w vs e) (expr_place e) (of_expr t w vs e) (all.of_expr t w vs e) (expr_places vs e)) (exprs_places vs es ps)

      cases_places : (vs : List vars.Variable) (o wanted : Option ℕ) (cs : Cases) → places (of_cases t w vs o wanted cs) ≡ all.of_cases t w vs o wanted cs
      cases_places vs o wanted NoCase = refl
      cases_places vs o wanted (Default e) = here_places t wanted (type_in t w vs e) (expr_place e) (of_expr t w vs e) (all.of_expr t w vs e) (expr_places vs e)
      cases_places vs o wanted (Case q e cs) =
          let us = vs ++ variables_of t q o in
          both (of_pattern t q o) (of_body t w us wanted e ++ of_cases t w vs o wanted cs) _ _ (pattern_places q o)
          (both (of_body t w us wanted e) (of_cases t w vs o wanted cs) _ _ (here_places t wanted (type_in t w us e) (expr_place e) (of_expr t w us e) (all.of_expr t w us e) (expr_places us e)) (cases_places vs o wanted cs))

    body_places : (vs : List vars.Variable) (wanted : Option ℕ) (e : Expr) → places (of_body t w vs wanted e) ≡ all.of_body t w vs wanted e
    body_places vs wanted e = here_places t wanted (type_in t w vs e) (expr_place e) (of_expr t w vs e) (all.of_expr t w vs e) (expr_places vs e)

  decl_places : (d : Decl) → places (of_decl t d) ≡ all.of_decl t d
  decl_places (Equations n op locals es) = each_places (of_equation t (operator t n op)) (all.of_equation t (operator t n op)) (λ q. body_places (equation_owner t (operator t n op) q) [] (target_type t (operator t n op) q.target) q.expr) es
  decl_places (Function of n params e) = body_places OfNothing (map (parameter t) params) (phylum_named t of.text) e
  decl_places (Transform n title q e) =
      let o = phylum_named t n.text in
      both (of_pattern t q o) (of_body t OfNothing (variables_of t q o) o e) _ _ (pattern_places q o) (body_places OfNothing (variables_of t q o) o e)
  decl_places (Productions n rs) = each_places (of_right t n) (all.of_right t n) (λ r. body_places (OfProduction n.text r.parts) [] (result_type t n) r.expr) rs
  decl_places d = refl

pub mistypes_places : (t : Table) (ds : List Decl) → map (λ (m : Mistyped). m.place) (mistypes t ds) ≡ all.mismatches t ds
mistypes_places t ds = each_places (of_decl t) (all.of_decl t) (decl_places t) ds
