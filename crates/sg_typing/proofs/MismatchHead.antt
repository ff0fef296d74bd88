-- The walk answers the first of all mismatches.
use Rattle.std.proofs.Common.{◌≡◌, refl, sym, ap, subst, ◌∙◌, ℕ, Bool, true, false, List, [], ◌∷◌, ◌++◌, map, length, Option, Some, None, slice_get}
use Rattle.std.specs.Prelude.{flat_map, is_some, unwrap_or, if◌then◌else◌}
use Rattle.std.proofs.lemmas.List.{append-nil}
use Rattle.sg_kinds.proofs.Elementary.{some_there}
use Rattle.sg_kinds.specs.Specification.{truths, numbers, texts, locals_of}
use Rattle.sg_kinds.specs.declared.fault.Position.{Position}
use Rattle.sg_kinds.specs.declared.spec.Local.{Local}
use Rattle.sg_ast.specs.Chains.{expr_place}
use Rattle.sg_ast.specs.Declarations.{Decl, Equation, Right, Equations, Function, Transform, Productions}
use Rattle.sg_ast.specs.Expressions.{Expr, Exprs, Cases, Amount, Chars, Truth, Variable, Attribute, Remote, MadeOf, Paren, Single, Binary, Choice, Call, Let, With, NoExpr, AndExpr, NoCase, Default, Case}
use Rattle.sg_ast.specs.FirstFault.{first, or_else}
use Rattle.sg_ast.specs.Patterns as p
use Rattle.sg_ast.specs.Patterns.{Pattern, Patterns, NoPattern, AndPattern}
use Rattle.sg_ast.specs.declared.expr.Infix.{Infix}
use Rattle.sg_ast.specs.declared.expr.Infix.TheVariants.{Or, And, Equal, Unequal, Below, AtMost, Above, AtLeast, Cons, Join, Add, Sub, Mul, Div, Rem}
use Rattle.sg_ast.specs.declared.name.Name.{Name}
use Rattle.sg_ast.specs.declared.name.Typed.{Typed}
use Rattle.sg_names.specs.Lookups.{callable, operator_at, phylum_named, usable_named}
use Rattle.sg_names.specs.Names.{op_named}
use Rattle.sg_names.specs.UnknownName.{unless_known}
use Rattle.sg_names.specs.Uses.{InOperator, InProduction, Elsewhere, UsesPhylum, UsesOperator, decl_uses, equation_uses, equations_uses, expr_uses, exprs_count, local_scope, params_scope, params_uses, part_uses, pattern_scope, pattern_uses, patterns_count, right_uses, target_uses, uses, within}
use Rattle.sg_names.specs.declared.table.Table.{Table}
use Rattle.sg_types.specs.Bindings.{Owner, OfProduction, OfNothing}
use Rattle.sg_types.specs.Expressions.{at_cons, at_infix, mismatch_at, mismatch_in, mismatch_in_all, mismatch_in_cases, params_in, prefix_type, type_in, where_wanted}
use Rattle.sg_types.specs.Patterns as pattern
use Rattle.sg_types.specs.Patterns.{is_operator_of, parts_of, variables_of}
use Rattle.sg_types.specs.Types.{do_agree, fits_where, list_of, unless}
use Rattle.sg_types.specs.declared.scope.Variable as vars
use Rattle.sg_typing.specs.Bodies.{equation_mismatch, equation_owner, first_mismatch, mismatch_at_decl, parameter, result_type, right_mismatch, target_type}
use Rattle.sg_typing.specs.Known.{AreAmong, AreKnown, SeesVariables}
use Rattle.sg_typing.specs.Mismatches.{and_here, listed, mismatches, of_body, of_cases, of_cons, of_decl, of_equation, of_expr, of_exprs, of_infix, of_pattern, of_patterns, of_right}
use Rattle.sg_typing.proofs.BodyUntyped.{locals_among, none_among, params_among}
use Rattle.sg_typing.proofs.ExprsFit.{HasMeaning, HaveMeaning, CasesMean}
use Rattle.sg_typing.proofs.NamesMean.{body_means, known_first, known_is, known_parts, pattern_among, pattern_means}
use Rattle.sg_typing.proofs.PatternsFit.{Means, Mean}

abbrev pub head : List Position → Option Position
head xs = slice_get xs 0

head_append : (xs ys : List Position) → head (xs ++ ys) ≡ or_else (head xs) (head ys)
head_append [] ys = refl
head_append (x ∷ xs) ys = refl

head_listed : (o : Option Position) → head (listed o) ≡ o
head_listed None = refl
head_listed (Some p) = refl

head_then : (o : Option Position) (xs : List Position) → head (listed o ++ xs) ≡ or_else o (head xs)
head_then o xs = head_append (listed o) xs ∙ ap (λ p. or_else p (head xs)) (head_listed o)

-- what an expression has where a type is wanted
head_here : (t : Table) (wanted found : Option ℕ) (place : Position) (xs : List Position) (o : Option Position) → head xs ≡ o → head (and_here t wanted found place xs) ≡ where_wanted t wanted found place o
head_here t wanted found place xs o e = head_then (unless (fits_where t wanted found) place) xs ∙ ap (or_else (unless (fits_where t wanted found) place)) e

pub head_both : (xs ys : List Position) (m n : Option Position) → head xs ≡ m → head ys ≡ n → head (xs ++ ys) ≡ or_else m n
head_both xs ys m n e f = head_append xs ys ∙ (λ i. or_else (e i) (f i))

module _ (t : Table) where
  mutual
    pattern_head : (q : Pattern) (wanted : Option ℕ) → Means t q → head (of_pattern t q wanted) ≡ pattern.mismatch_in t q wanted
    pattern_head (p.Amount negative n place) wanted m = head_listed _
    pattern_head (p.Chars s) wanted m = head_listed _
    pattern_head (p.Truth b place) wanted m = head_listed _
    pattern_head (p.Anything place) wanted m = refl
    pattern_head (p.Variable n) wanted m = refl
    pattern_head (p.MadeAs made n place) wanted m = head_listed _
    pattern_head (p.Applied n xs) wanted m =
        let o = op_named t.ops n.text in
        head_then (unless (is_operator_of t o wanted) n.place) (of_patterns t xs (parts_of t o))
        ∙ ap (or_else (unless (is_operator_of t o wanted) n.place)) (patterns_head n.place xs (parts_of t o) (ap (λ o. length (parts_of t o)) m.1 ∙ m.2) m.3)

    patterns_head : (place : Position) (xs : Patterns) (ps : List ℕ) → length ps ≡ patterns_count xs → Mean t xs → head (of_patterns t xs ps) ≡ pattern.mismatch_in_all t place xs ps
    patterns_head place NoPattern [] n m = refl
    patterns_head place NoPattern (p ∷ ps) n m = cc
    patterns_head place (AndPattern x xs) [] n m = cc
    patterns_head place (AndPattern x xs) (p ∷ ps) n m =
        let fewer : length ps ≡ patterns_count xs = cc in
        head_both (of_pattern t x (Some p)) (of_patterns t xs ps) (pattern.mismatch_in t x (Some p)) (pattern.mismatch_in_all t place xs ps) (pattern_head x (Some p) m.0) (patterns_head place xs ps fewer m.1)

  -- operators between operands
  module _ (q r : Option ℕ) (px py : Position) (xs ys : List Position) (m n : Option Position) (e : head xs ≡ m) (f : head ys ≡ n) where
    plain_head : (wanted : ℕ) → head (and_here t (Some wanted) q px xs ++ and_here t (Some wanted) r py ys) ≡ or_else (where_wanted t (Some wanted) q px m) (where_wanted t (Some wanted) r py n)
    plain_head wanted =
        head_both (and_here t (Some wanted) q px xs) (and_here t (Some wanted) r py ys) (where_wanted t (Some wanted) q px m) (where_wanted t (Some wanted) r py n) (head_here t (Some wanted) q px xs m e) (head_here t (Some wanted) r py ys n f)

    equal_head : head (xs ++ (listed (unless (do_agree t q r) py) ++ ys)) ≡ or_else m (or_else (unless (do_agree t q r) py) n)
    equal_head =
        head_both xs (listed (unless (do_agree t q r) py) ++ ys) m (or_else (unless (do_agree t q r) py) n) e (head_then (unless (do_agree t q r) py) ys ∙ ap (or_else (unless (do_agree t q r) py)) f)

    cons_head : (o : Option (ℕ × ℕ)) → head (of_cons t o q px py xs ys) ≡ at_cons t o q px py m n
    cons_head None = head_both xs (py ∷ ys) m (Some py) e refl
    cons_head (Some z) = head_both (and_here t (Some z.1) q px xs) ys (where_wanted t (Some z.1) q px m) n (head_here t (Some z.1) q px xs m e) f

    infix_head : (s : Infix) → head (of_infix t s q r px py xs ys) ≡ at_infix t s q r px py m n
    infix_head Equal = equal_head
    infix_head Unequal = equal_head
    infix_head Cons = cons_head (list_of t r)
    infix_head Or = plain_head truths
    infix_head And = plain_head truths
    infix_head Join = plain_head texts
    infix_head Below = plain_head numbers
    infix_head AtMost = plain_head numbers
    infix_head Above = plain_head numbers
    infix_head AtLeast = plain_head numbers
    infix_head Add = plain_head numbers
    infix_head Sub = plain_head numbers
    infix_head Mul = plain_head numbers
    infix_head Div = plain_head numbers
    infix_head Rem = plain_head numbers

  module _ (w : Owner) where
    mutual
      expr_head : (vs : List vars.Variable) (e : Expr) → HasMeaning t w vs e → head (of_expr t w vs e) ≡ mismatch_in t w vs e
      expr_head vs (Amount n place) m = refl
      expr_head vs (Chars s) m = refl
      expr_head vs (Truth b place) m = refl
      expr_head vs (Variable n) m = head_listed _
      expr_head vs (Attribute r) m = head_listed _
      expr_head vs (Remote r) m = head_listed _
      expr_head vs (MadeOf made n place) m = head_listed _
      expr_head vs (Paren a place) m = expr_head vs a m
      expr_head vs (Single f a place) m = head_here t (Some (prefix_type f)) (type_in t w vs a) (expr_place a) (of_expr t w vs a) (mismatch_in t w vs a) (expr_head vs a m)
      expr_head vs (Binary s a b) m = infix_head (type_in t w vs a) (type_in t w vs b) (expr_place a) (expr_place b) (of_expr t w vs a) (of_expr t w vs b) (mismatch_in t w vs a) (mismatch_in t w vs b) (expr_head vs a m.0) (expr_head vs b m.1) s
      expr_head vs (Choice c a b) m =
          let x = head_here t (Some truths) (type_in t w vs c) (expr_place c) (of_expr t w vs c) (mismatch_in t w vs c) (expr_head vs c m.0) in
          let z = head_here t (type_in t w vs a) (type_in t w vs b) (expr_place b) (of_expr t w vs b) (mismatch_in t w vs b) (expr_head vs b m.2) in
          head_both (and_here t (Some truths) (type_in t w vs c) (expr_place c) (of_expr t w vs c)) (of_expr t w vs a ++ and_here t (type_in t w vs a) (type_in t w vs b) (expr_place b) (of_expr t w vs b))
          (where_wanted t (Some truths) (type_in t w vs c) (expr_place c) (mismatch_in t w vs c)) (or_else (mismatch_in t w vs a) (where_wanted t (type_in t w vs a) (type_in t w vs b) (expr_place b) (mismatch_in t w vs b))) x
          (head_both (of_expr t w vs a) (and_here t (type_in t w vs a) (type_in t w vs b) (expr_place b) (of_expr t w vs b)) (mismatch_in t w vs a) (where_wanted t (type_in t w vs a) (type_in t w vs b) (expr_place b) (mismatch_in t w vs b)) (expr_head vs a m.1) z)
      expr_head vs (Call n es) m =
          let o = callable t n.text in
          exprs_head vs n.place es (params_in t o) (ap (λ o. length (params_in t o)) m.1 ∙ m.2) m.3
          ∙ sym (ap (λ b. or_else (unless b n.place) (mismatch_in_all t w vs n.place es (params_in t o))) (ap is_some m.1))
      expr_head vs (Let n a b place) m =
          let us = vs ++ record { name = n.text; of = type_in t w vs a } ∷ [] in
          head_both (of_expr t w vs a) (of_expr t w us b) (mismatch_in t w vs a) (mismatch_in t w us b) (expr_head vs a m.0) (expr_head us b m.1)
      expr_head vs (With a q b cs place) m =
          let o = type_in t w vs a in
          let us = vs ++ variables_of t q o in
          let x = head_both (of_expr t w us b) (of_cases t w vs o (type_in t w us b) cs) (mismatch_in t w us b) (mismatch_in_cases t w vs o (type_in t w us b) cs) (expr_head us b m.2) (cases_head vs o (type_in t w us b) cs m.3) in
          let y = head_both (of_pattern t q o) (of_expr t w us b ++ of_cases t w vs o (type_in t w us b) cs) (pattern.mismatch_in t q o) (or_else (mismatch_in t w us b) (mismatch_in_cases t w vs o (type_in t w us b) cs)) (pattern_head q o m.1) x in
          head_both (of_expr t w vs a) (of_pattern t q o ++ (of_expr t w us b ++ of_cases t w vs o (type_in t w us b) cs)) (mismatch_in t w vs a)
          (or_else (pattern.mismatch_in t q o) (or_else (mismatch_in t w us b) (mismatch_in_cases t w vs o (type_in t w us b) cs))) (expr_head vs a m.0) y

      exprs_head : (vs : List vars.Variable) (place : Position) (es : Exprs) (ps : List ℕ) → length ps ≡ exprs_count es → HaveMeaning t w vs es → head (of_exprs t w vs es ps) ≡ mismatch_in_all t w vs place es ps
      exprs_head vs place NoExpr [] n m = refl
      exprs_head vs place NoExpr (p ∷ ps) n m = cc
      exprs_head vs place (AndExpr e es) [] n m = cc
      exprs_head vs place (AndExpr e es) (p ∷ ps) n m =
          let fewer : length ps ≡ exprs_count es = cc in
          head_both (and_here t (Some p) (type_in t w vs e) (expr_place e) (of_expr t w vs e)) (of_exprs t w vs es ps) (where_wanted t (Some p) (type_in t w vs e) (expr_place e) (mismatch_in t w vs e)) (mismatch_in_all t w vs place es ps)
          (head_here t (Some p) (type_in t w vs e) (expr_place e) (of_expr t w vs e) (mismatch_in t w vs e) (expr_head vs e m.0)) (exprs_head vs place es ps fewer m.1)

      cases_head : (vs : List vars.Variable) (o wanted : Option ℕ) (cs : Cases) → CasesMean t w vs o cs → head (of_cases t w vs o wanted cs) ≡ mismatch_in_cases t w vs o wanted cs
      cases_head vs o wanted NoCase m = refl
      cases_head vs o wanted (Default e) m = head_here t wanted (type_in t w vs e) (expr_place e) (of_expr t w vs e) (mismatch_in t w vs e) (expr_head vs e m)
      cases_head vs o wanted (Case q e cs) m =
          let us = vs ++ variables_of t q o in
          let x = head_here t wanted (type_in t w us e) (expr_place e) (of_expr t w us e) (mismatch_in t w us e) (expr_head us e m.1) in
          head_both (of_pattern t q o) (and_here t wanted (type_in t w us e) (expr_place e) (of_expr t w us e) ++ of_cases t w vs o wanted cs) (pattern.mismatch_in t q o)
          (or_else (where_wanted t wanted (type_in t w us e) (expr_place e) (mismatch_in t w us e)) (mismatch_in_cases t w vs o wanted cs)) (pattern_head q o m.0)
          (head_both (and_here t wanted (type_in t w us e) (expr_place e) (of_expr t w us e)) (of_cases t w vs o wanted cs) (where_wanted t wanted (type_in t w us e) (expr_place e) (mismatch_in t w us e)) (mismatch_in_cases t w vs o wanted cs) x
          (cases_head vs o wanted cs m.2))

    body_head : (vs : List vars.Variable) (wanted : Option ℕ) (e : Expr) → HasMeaning t w vs e → head (of_body t w vs wanted e) ≡ mismatch_at t w vs wanted e
    body_head vs wanted e m = head_here t wanted (type_in t w vs e) (expr_place e) (of_expr t w vs e) (mismatch_in t w vs e) (expr_head vs e m)

  -- declarations whose uses are known
  equation_head : (op : ℕ) (q : Equation) → AreKnown t (equation_uses (InOperator op) (local_scope t op) q) → head (of_equation t op q) ≡ equation_mismatch t op q
  equation_head op q k =
      let w = equation_owner t op q in
      let locals = map (λ (l : Local). l.name) (locals_of t.ops op) in
      let sees : SeesVariables t w [] (local_scope t op) = subst (AreAmong (local_scope t op)) (sym (append-nil locals)) (locals_among [] [] locals (none_among [])) in
      let known = (known_parts t (target_uses (InOperator op) (local_scope t op) q.target) (expr_uses (InOperator op) (local_scope t op) q.expr) k).1 in
      body_head w [] (target_type t op q.target) q.expr (body_means t w [] (local_scope t op) q.expr refl sees known)

  equations_head : (op : ℕ) (es : List Equation) → AreKnown t (equations_uses t es op) → head (flat_map (of_equation t op) es) ≡ first (equation_mismatch t op) es
  equations_head op [] k = refl
  equations_head op (q ∷ es) k =
      let c = known_parts t (equation_uses (InOperator op) (local_scope t op) q) (equations_uses t es op) k in
      head_both (of_equation t op q) (flat_map (of_equation t op) es) (equation_mismatch t op q) (first (equation_mismatch t op) es) (equation_head op q c.0) (equations_head op es c.1)

  right_head : (n : Name) (r : Right) → AreKnown t (right_uses n.text r) → head (of_right t n r) ≡ right_mismatch t n r
  right_head n r k =
      let w = OfProduction n.text r.parts in
      let known = (known_parts t (flat_map part_uses r.parts) (expr_uses (InProduction n.text r.parts) [] r.expr) k).1 in
      body_head w [] (result_type t n) r.expr (body_means t w [] [] r.expr tt (none_among []) known)

  rights_head : (n : Name) (rs : List Right) → AreKnown t (flat_map (right_uses n.text) rs) → head (flat_map (of_right t n) rs) ≡ first (right_mismatch t n) rs
  rights_head n [] k = refl
  rights_head n (r ∷ rs) k =
      let c = known_parts t (right_uses n.text r) (flat_map (right_uses n.text) rs) k in
      head_both (of_right t n r) (flat_map (of_right t n) rs) (right_mismatch t n r) (first (right_mismatch t n) rs) (right_head n r c.0) (rights_head n rs c.1)

  operator_known : (there known : Bool) (n op : Name) → (if there then unless_known known op else unless_known false n) ≡ None → known ≡ true
  operator_known true known n op h = known_is known op h
  operator_known false known n op h = cc

  decl_head : (d : Decl) → AreKnown t (decl_uses t d) → head (of_decl t d) ≡ mismatch_at_decl t d
  decl_head (Equations n op locals es) k =
      let c = known_first t (UsesOperator n op) (map (λ (l : Typed). UsesPhylum l.of) locals ++ within (equations_uses t es) (operator_at t n op)) k in
      let x = some_there (operator_at t n op) (operator_known (is_some (usable_named t n.text)) (is_some (operator_at t n op)) n op c.0) in
      let inner = (known_parts t (map (λ (l : Typed). UsesPhylum l.of) locals) (within (equations_uses t es) (operator_at t n op)) c.2).1 in
      let known : AreKnown t (equations_uses t es x.0) = subst (λ o. AreKnown t (within (equations_uses t es) o)) x.1 inner in
      subst (λ o. head (flat_map (of_equation t (unwrap_or o 0)) es) ≡ first (equation_mismatch t (unwrap_or o 0)) es) (sym x.1) (equations_head x.0 es known)
  decl_head (Function of n params e) k =
      let c = known_first t (UsesPhylum of) (params_uses [] params ++ expr_uses Elsewhere (params_scope [] params) e) k in
      let known = (known_parts t (params_uses [] params) (expr_uses Elsewhere (params_scope [] params) e) c.2).1 in
      body_head OfNothing (map (parameter t) params) (phylum_named t of.text) e (body_means t OfNothing (map (parameter t) params) (params_scope [] params) e tt (params_among t [] [] params (none_among [])) known)
  decl_head (Transform n title q e) k =
      let o = phylum_named t n.text in
      let c = known_first t (UsesPhylum n) (pattern_uses [] q ++ expr_uses Elsewhere (pattern_scope [] q) e) k in
      let known = known_parts t (pattern_uses [] q) (expr_uses Elsewhere (pattern_scope [] q) e) c.2 in
      let m = pattern_means t [] q known.0 in
      head_both (of_pattern t q o) (of_body t OfNothing (variables_of t q o) o e) (pattern.mismatch_in t q o) (mismatch_at t OfNothing (variables_of t q o) o e) (pattern_head q o m)
      (body_head OfNothing (variables_of t q o) o e (body_means t OfNothing (variables_of t q o) (pattern_scope [] q) e tt (pattern_among t [] [] q o m (none_among [])) known.1))
  decl_head (Productions n rs) k = rights_head n rs k
  decl_head d k = refl

  pub mismatches_head : (ds : List Decl) → AreKnown t (uses t ds) → first_mismatch t ds ≡ head (mismatches t ds)
  mismatches_head ds k = sym (by ds k)
    where
      by : (ds : List Decl) → AreKnown t (uses t ds) → head (mismatches t ds) ≡ first_mismatch t ds
      by [] k = refl
      by (d ∷ ds) k =
          let c = known_parts t (decl_uses t d) (uses t ds) k in
          head_both (of_decl t d) (mismatches t ds) (mismatch_at_decl t d) (first_mismatch t ds) (decl_head d c.0) (by ds c.1)
