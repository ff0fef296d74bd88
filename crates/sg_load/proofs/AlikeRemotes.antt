-- Where an expression has no mismatch, the attributes that each of its references to enclosing nodes lists have one type.
use Rattle.std.proofs.Common.{◌≡◌, ℕ, Bool, true, false, cond, List, [], ◌∷◌, ◌++◌, Option, Some, None, is_some}
use Rattle.std.specs.List.{AllByRecursion as Each}
use Rattle.sg_kinds.specs.Specification.{truths}
use Rattle.sg_kinds.specs.declared.fault.Position.{Position}
use Rattle.sg_ast.specs.Chains.{expr_place}
use Rattle.sg_ast.specs.Expressions.{Expr, Exprs, Cases, Paren, Single, Binary, Choice, Call, Let, With, NoExpr, AndExpr, NoCase, Default, Case}
use Rattle.sg_ast.specs.Expressions as e
use Rattle.sg_ast.specs.FirstFault.{or_else}
use Rattle.sg_ast.specs.Remotes.{remotes_of, remotes_of_all, remotes_of_cases}
use Rattle.sg_ast.specs.declared.expr.Infix.{Infix}
use Rattle.sg_ast.specs.declared.expr.Infix.TheVariants.{Equal, Unequal, Cons}
use Rattle.sg_ast.specs.declared.name.Remote.{Remote}
use Rattle.sg_ast.proofs.FirstLaws.{neither}
use Rattle.sg_names.specs.Lookups as look
use Rattle.sg_names.specs.Lookups.{are_alike}
use Rattle.sg_names.specs.declared.table.Table.{Table}
use Rattle.sg_types.specs.Bindings.{Owner, remote_at, type_there}
use Rattle.sg_types.specs.Expressions.{prefix_type, taken, type_in, params_in, where_wanted, at_equal, at_cons, at_infix, mismatch_in, mismatch_in_all, mismatch_in_cases}
use Rattle.sg_types.specs.Patterns as pattern
use Rattle.sg_types.specs.Types.{unless, untyped, fits_where, do_agree, list_of}
use Rattle.sg_types.specs.declared.scope.Variable as scope
use Rattle.sg_resolve.proofs.ShapeLists.{each_append}

-- the parts of what has no mismatch
inside_none : (t : Table) (wanted found : Option ℕ) (place : Position) (inside : Option Position) → where_wanted t wanted found place inside ≡ None → inside ≡ None
inside_none t wanted found place inside h = (neither (unless (fits_where t wanted found) place) inside h).1

equal_none : (t : Table) (left right : Option ℕ) (place : Position) (first second : Option Position) → at_equal t left right place first second ≡ None → (first ≡ None) × (second ≡ None)
equal_none t left right place first second h =
    let a = neither first (or_else (unless (do_agree t left right) place) second) h in
    (a.0, (neither (unless (do_agree t left right) place) second a.1).1)

cons_none : (t : Table) (list : Option (ℕ × ℕ)) (left : Option ℕ) (left_place place : Position) (first second : Option Position) → at_cons t list left left_place place first second ≡ None → (first ≡ None) × (second ≡ None)
cons_none t None left left_place place first second h = let a = neither first (Some place) h in absurd (cc a.1)
cons_none t (Some x) left left_place place first second h =
    let a = neither (where_wanted t (Some x.1) left left_place first) second h in
    (inside_none t (Some x.1) left left_place first a.0, a.1)

both_none : (t : Table) (wanted left right : Option ℕ) (left_place place : Position) (first second : Option Position)
    → or_else (where_wanted t wanted left left_place first) (where_wanted t wanted right place second) ≡ None → (first ≡ None) × (second ≡ None)
both_none t wanted left right left_place place first second h =
    let a = neither (where_wanted t wanted left left_place first) (where_wanted t wanted right place second) h in
    (inside_none t wanted left left_place first a.0, inside_none t wanted right place second a.1)

infix_none : (t : Table) (s : Infix) (left right : Option ℕ) (left_place place : Position) (first second : Option Position) → at_infix t s left right left_place place first second ≡ None → (first ≡ None) × (second ≡ None)
infix_none t Equal left right left_place place first second h = equal_none t left right place first second h
infix_none t Unequal left right left_place place first second h = equal_none t left right place first second h
infix_none t Cons left right left_place place first second h = cons_none t (list_of t right) left left_place place first second h
infix_none t s left right left_place place first second h = both_none t (Some (taken s)) left right left_place place first second h

-- a reference with a type
alike_is : (b : Bool) (o : Option ℕ) (place : Position) → untyped (cond b o None) place ≡ None → b ≡ true
alike_is true o place h = cc
alike_is false o place h = absurd (cc h)

module _ (t : Table) (w : Owner) where
  abbrev AreAlike : List Remote → Type 0
  AreAlike rs = Each (λ r. are_alike t r ≡ true) rs

  both : (xs ys : List Remote) → AreAlike xs → AreAlike ys → AreAlike (xs ++ ys)
  both xs ys a b = each_append (λ r. are_alike t r ≡ true) xs ys a b

  mutual
    pub expr_alike : (vs : List scope.Variable) (x : Expr) → mismatch_in t w vs x ≡ None → Each (λ r. are_alike t r ≡ true) (remotes_of x)
    expr_alike vs (e.Remote r) h = (alike_is (are_alike t r) (type_there (remote_at t w r)) r.place h, tt)
    expr_alike vs (Paren a place) h = expr_alike vs a h
    expr_alike vs (Single f a place) h = expr_alike vs a (inside_none t (Some (prefix_type f)) (type_in t w vs a) (expr_place a) (mismatch_in t w vs a) h)
    expr_alike vs (Binary s a b) h =
        let p = infix_none t s (type_in t w vs a) (type_in t w vs b) (expr_place a) (expr_place b) (mismatch_in t w vs a) (mismatch_in t w vs b) h in
        both (remotes_of a) (remotes_of b) (expr_alike vs a p.0) (expr_alike vs b p.1)
    expr_alike vs (Choice c a b) h =
        let d = neither (where_wanted t (Some truths) (type_in t w vs c) (expr_place c) (mismatch_in t w vs c)) (or_else (mismatch_in t w vs a) (where_wanted t (type_in t w vs a) (type_in t w vs b) (expr_place b) (mismatch_in t w vs b))) h in
        let f = neither (mismatch_in t w vs a) (where_wanted t (type_in t w vs a) (type_in t w vs b) (expr_place b) (mismatch_in t w vs b)) d.1 in
        both (remotes_of c ++ remotes_of a) (remotes_of b)
        (both (remotes_of c) (remotes_of a) (expr_alike vs c (inside_none t (Some truths) (type_in t w vs c) (expr_place c) (mismatch_in t w vs c) d.0)) (expr_alike vs a f.0))
        (expr_alike vs b (inside_none t (type_in t w vs a) (type_in t w vs b) (expr_place b) (mismatch_in t w vs b) f.1))
    expr_alike vs (Call n es) h =
        let d = neither (unless (is_some (look.callable t n.text)) n.place) (mismatch_in_all t w vs n.place es (params_in t (look.callable t n.text))) h in
        exprs_alike vs n.place es (params_in t (look.callable t n.text)) d.1
    expr_alike vs (Let n a b place) h =
        let us = vs ++ record { name = n.text; of = type_in t w vs a } ∷ [] in
        let d = neither (mismatch_in t w vs a) (mismatch_in t w us b) h in
        both (remotes_of a) (remotes_of b) (expr_alike vs a d.0) (expr_alike us b d.1)
    expr_alike vs (With a q b cs place) h =
        let o = type_in t w vs a in
        let us = vs ++ pattern.variables_of t q o in
        let d = neither (mismatch_in t w vs a) (or_else (pattern.mismatch_in t q o) (or_else (mismatch_in t w us b) (mismatch_in_cases t w vs o (type_in t w us b) cs))) h in
        let f = neither (pattern.mismatch_in t q o) (or_else (mismatch_in t w us b) (mismatch_in_cases t w vs o (type_in t w us b) cs)) d.1 in
        let g = neither (mismatch_in t w us b) (mismatch_in_cases t w vs o (type_in t w us b) cs) f.1 in
        both (remotes_of a ++ remotes_of b) (remotes_of_cases cs) (both (remotes_of a) (remotes_of b) (expr_alike vs a d.0) (expr_alike us b g.0)) (cases_alike vs o (type_in t w us b) cs g.1)
    expr_alike vs x h = tt

    exprs_alike : (vs : List scope.Variable) (place : Position) (es : Exprs) (ps : List ℕ) → mismatch_in_all t w vs place es ps ≡ None → Each (λ r. are_alike t r ≡ true) (remotes_of_all es)
    exprs_alike vs place NoExpr ps h = tt
    exprs_alike vs place (AndExpr x es) [] h = absurd (cc h)
    exprs_alike vs place (AndExpr x es) (p ∷ ps) h =
        let d = neither (where_wanted t (Some p) (type_in t w vs x) (expr_place x) (mismatch_in t w vs x)) (mismatch_in_all t w vs place es ps) h in
        both (remotes_of x) (remotes_of_all es) (expr_alike vs x (inside_none t (Some p) (type_in t w vs x) (expr_place x) (mismatch_in t w vs x) d.0)) (exprs_alike vs place es ps d.1)

    cases_alike : (vs : List scope.Variable) (subject wanted : Option ℕ) (cs : Cases) → mismatch_in_cases t w vs subject wanted cs ≡ None → Each (λ r. are_alike t r ≡ true) (remotes_of_cases cs)
    cases_alike vs subject wanted NoCase h = tt
    cases_alike vs subject wanted (Default x) h = expr_alike vs x (inside_none t wanted (type_in t w vs x) (expr_place x) (mismatch_in t w vs x) h)
    cases_alike vs subject wanted (Case q x cs) h =
        let us = vs ++ pattern.variables_of t q subject in
        let d = neither (pattern.mismatch_in t q subject) (or_else (where_wanted t wanted (type_in t w us x) (expr_place x) (mismatch_in t w us x)) (mismatch_in_cases t w vs subject wanted cs)) h in
        let f = neither (where_wanted t wanted (type_in t w us x) (expr_place x) (mismatch_in t w us x)) (mismatch_in_cases t w vs subject wanted cs) d.1 in
        both (remotes_of x) (remotes_of_cases cs) (expr_alike us x (inside_none t wanted (type_in t w us x) (expr_place x) (mismatch_in t w us x) f.0)) (cases_alike vs subject wanted cs f.1)
