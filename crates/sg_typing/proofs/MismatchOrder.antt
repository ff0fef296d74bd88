-- All mismatches stand in the order of the text.
use Rattle.std.proofs.Common.{◌≡◌, refl, sym, ap, subst, ◌∙◌, ℕ, ◌+◌, ◌≤◌, Bool, true, false, List, [], ◌∷◌, ◌++◌, map, Option, Some, None, arith}
use Rattle.std.specs.Prelude.{flat_map}
use Rattle.std.specs.List.{AllByRecursion, join_by}
use Rattle.sg_kinds.specs.Specification.{truths, numbers, texts}
use Rattle.sg_kinds.specs.declared.fault.Position.{Position}
use Rattle.sg_ast.specs.Chains.{expr_place, occurrence_place}
use Rattle.sg_ast.specs.Declarations.{Decl, Equation, Right, Equations, Function, Transform, Productions}
use Rattle.sg_ast.specs.Expressions.{Expr, Exprs, Cases, Amount, Chars, Truth, Variable, Attribute, Remote, MadeOf, Paren, Single, Binary, Choice, Call, Let, With, NoExpr, AndExpr, NoCase, Default, Case}
use Rattle.sg_ast.specs.Patterns as p
use Rattle.sg_ast.specs.Patterns.{Pattern, Patterns, NoPattern, AndPattern}
use Rattle.sg_ast.specs.Rising.{RiseFrom, kept_places, places_of}
use Rattle.sg_ast.specs.Spelling.{Free, Kept, Piece, bar, comma, spell_cases, spell_equation, spell_expr, spell_exprs, spell_local, spell_more_exprs, spell_more_patterns, spell_occurrence, spell_param, spell_part, spell_pattern, spell_patterns, spell_right, spell_target}
use Rattle.sg_ast.specs.declared.expr.Infix.{Infix}
use Rattle.sg_ast.specs.declared.expr.Infix.TheVariants.{Or, And, Equal, Unequal, Below, AtMost, Above, AtLeast, Cons, Join, Add, Sub, Mul, Div, Rem}
use Rattle.sg_ast.specs.declared.name.Name.{Name}
use Rattle.sg_ast.specs.declared.name.Occurrence.{Occurrence}
use Rattle.sg_ast.specs.declared.name.Occurrence.TheVariants.{Own, Named}
use Rattle.sg_names.specs.Lookups.{callable, phylum_named, usable_named}
use Rattle.sg_names.specs.Names.{op_named}
use Rattle.sg_names.specs.Uses.{uses}
use Rattle.sg_names.specs.declared.table.Table.{Table}
use Rattle.sg_types.specs.Bindings.{Owner, OfProduction, OfNothing, reference_at, type_there, variable_at}
use Rattle.sg_types.specs.Expressions.{one_type, params_in, prefix_type, type_in}
use Rattle.sg_types.specs.Patterns.{is_operator_of, parts_of, variables_of}
use Rattle.sg_types.specs.Types.{do_agree, fits_where, list_of, unless, untyped}
use Rattle.sg_types.specs.declared.scope.Variable as vars
use Rattle.sg_typing.specs.Bodies.{equation_owner, first_mismatch, operator, parameter, result_type, target_type}
use Rattle.sg_typing.specs.Known.{AreKnown}
use Rattle.sg_typing.proofs.MismatchHead.{head, mismatches_head}
use Rattle.sg_typing.specs.Mismatches.{and_here, listed, mismatches, of_body, of_cases, of_cons, of_decl, of_equation, of_expr, of_exprs, of_infix, of_pattern, of_patterns, of_right}

-- places that are met along a list, some of them, and some more than once
pub data Met : List Position → List Position → Type 0 where
  none : {ys : List Position} → Met [] ys
  past : {y : Position} {xs ys : List Position} → Met xs ys → Met xs (y ∷ ys)
  here : {y : Position} {xs ys : List Position} → Met xs (y ∷ ys) → Met (y ∷ xs) (y ∷ ys)

later : {xs ys : List Position} (zs : List Position) → Met xs ys → Met xs (zs ++ ys)
later [] s = s
later (z ∷ zs) s = past (later zs s)

pub met_then : {xs ys us vs : List Position} → Met xs ys → Met us vs → Met (xs ++ us) (ys ++ vs)
met_then {ys = ys} none t = later ys t
met_then (past s) t = past (met_then s t)
met_then (here s) t = here (met_then s t)

earlier : {xs ys : List Position} (zs : List Position) → Met xs ys → Met xs (ys ++ zs)
earlier zs none = none
earlier zs (past s) = past (earlier zs s)
earlier zs (here s) = here (earlier zs s)

-- what is met along places that rise does not fall
no_sooner : {xs ys : List Position} (k n : ℕ) → k ≤ n → Met xs ys → RiseFrom n ys → AllByRecursion (λ (q : Position). k ≤ q.token) xs
no_sooner k n less none h = tt
no_sooner {ys = y ∷ ys} k n less (past s) h = no_sooner k (y.token + 1) (omega (arith, less, h.0)) s h.1
no_sooner {xs = y ∷ xs} k n less (here s) h = (omega (arith, less, h.0), no_sooner k n less s h)

pub least_first : {p : Position} {xs ys : List Position} (n : ℕ) → Met (p ∷ xs) ys → RiseFrom n ys → AllByRecursion (λ (q : Position). p.token ≤ q.token) (p ∷ xs)
least_first {ys = y ∷ ys} n (past s) h = least_first (y.token + 1) s h.1
least_first {p} n (here s) h = (omega arith, no_sooner p.token p.token (omega arith) s (omega arith, h.1))

-- along the tokens of a spelling
abbrev pub In : List Position → List Piece → Type 0
In xs ps = Met xs (kept_places ps)

kept_append : (ps qs : List Piece) → kept_places (ps ++ qs) ≡ kept_places ps ++ kept_places qs
kept_append [] qs = refl
kept_append (Free l ∷ ps) qs = kept_append ps qs
kept_append (Kept l place ∷ ps) qs = ap (λ l. place ∷ l) (kept_append ps qs)

pub closed : (xs : List Position) (ps qs : List Piece) → In xs ps → In xs (ps ++ qs)
closed xs ps qs s = subst (Met xs) (sym (kept_append ps qs)) (earlier (kept_places qs) s)

pub opened : (xs : List Position) (ps qs : List Piece) → In xs qs → In xs (ps ++ qs)
opened xs ps qs s = subst (Met xs) (sym (kept_append ps qs)) (later (kept_places ps) s)

joined : (xs ys : List Position) (ps qs : List Piece) → In xs ps → In ys qs → In (xs ++ ys) (ps ++ qs)
joined xs ys ps qs s t = subst (Met (xs ++ ys)) (sym (kept_append ps qs)) (met_then s t)

pub each_in : {X : Type 0} (f : X → List Position) (s : X → List Piece) → ((x : X) → In (f x) (s x)) → (xs : List X) → In (flat_map f xs) (flat_map s xs)
each_in f s one [] = none
each_in f s one (x ∷ xs) = joined (f x) (flat_map f xs) (s x) (flat_map s xs) (one x) (each_in f s one xs)

between_in : {X : Type 0} (f : X → List Position) (s : X → List Piece) (sep : List Piece) → ((x : X) → In (f x) (s x)) → (xs : List X) → In (flat_map f xs) (join_by s sep xs)
between_in f s sep one [] = none
between_in f s sep one (x ∷ xs) =
    joined (f x) (flat_map f xs) (s x) (flat_map (λ y. sep ++ s y) xs) (one x) (each_in f (λ y. sep ++ s y) (λ y. opened (f y) sep (s y) (one y)) xs)

-- the place of an expression is that of its first token
abbrev pub Begins : Position → List Piece → Type 0
Begins place ps = (rest : List Position) × (kept_places ps ≡ place ∷ rest)

begins_closed : (place : Position) (ps qs : List Piece) → Begins place ps → Begins place (ps ++ qs)
begins_closed place ps qs b = (b.0 ++ kept_places qs, kept_append ps qs ∙ ap (λ l. l ++ kept_places qs) b.1)

pub occurrence_begins : (of : Occurrence) (ps : List Piece) → Begins (occurrence_place of) (spell_occurrence of ++ ps)
occurrence_begins (Own place) ps = (kept_places ps, refl)
occurrence_begins (Named n None) ps = (kept_places ps, refl)
occurrence_begins (Named n (Some k)) ps = (kept_places ps, refl)

begins : (e : Expr) → Begins (expr_place e) (spell_expr e)
begins (Amount n place) = ([], refl)
begins (Chars s) = ([], refl)
begins (Truth b place) = ([], refl)
begins (Variable n) = ([], refl)
begins (Attribute r) = occurrence_begins r.of _
begins (Remote r) = (_, refl)
begins (MadeOf made n place) = (_, refl)
begins (Paren a place) = (_, refl)
begins (Single f a place) = (_, refl)
begins (Binary s a b) = begins_closed (expr_place a) (spell_expr a) _ (begins a)
begins (Choice c a b) = begins_closed (expr_place c) (spell_expr c) _ (begins c)
begins (Call n es) = (_, refl)
begins (Let n a b place) = (_, refl)
begins (With a q b cs place) = (_, refl)

-- one place more, at the first token
at_first : (o : Bool) (place : Position) (xs ys : List Position) → Met xs (place ∷ ys) → Met (listed (unless o place) ++ xs) (place ∷ ys)
at_first true place xs ys s = s
at_first false place xs ys s = here s

at_untyped : (o : Option ℕ) (place : Position) (ys : List Position) → Met (listed (untyped o place)) (place ∷ ys)
at_untyped None place ys = here none
at_untyped (Some p) place ys = none

at_begin : (b : Bool) (place : Position) (ps : List Piece) (xs : List Position) → Begins place ps → In xs ps → In (listed (unless b place) ++ xs) ps
at_begin b place ps xs begin s = subst (Met (listed (unless b place) ++ xs)) (sym begin.1) (at_first b place xs begin.0 (subst (Met xs) begin.1 s))

here_in : (t : Table) (wanted found : Option ℕ) (e : Expr) (xs : List Position) → In xs (spell_expr e) → In (and_here t wanted found (expr_place e) xs) (spell_expr e)
here_in t wanted found e xs s = at_begin (fits_where t wanted found) (expr_place e) (spell_expr e) xs (begins e) s

pub unless_in : (b : Bool) (place : Position) (ys : List Position) → Met (listed (unless b place)) (place ∷ ys)
unless_in true place ys = none
unless_in false place ys = here none

module _ (t : Table) where
  mutual
    pattern_in : (q : Pattern) (wanted : Option ℕ) → In (of_pattern t q wanted) (spell_pattern q)
    pattern_in (p.Amount false n place) wanted = unless_in _ place []
    pattern_in (p.Amount true n place) wanted = unless_in _ place []
    pattern_in (p.Chars s) wanted = unless_in _ s.place []
    pattern_in (p.Truth b place) wanted = unless_in _ place []
    pattern_in (p.Anything place) wanted = none
    pattern_in (p.Variable n) wanted = none
    pattern_in (p.MadeAs made n place) wanted = unless_in _ place (n.place ∷ [])
    pattern_in (p.Applied n xs) wanted =
        let o = op_named t.ops n.text in
        at_first (is_operator_of t o wanted) n.place (of_patterns t xs (parts_of t o)) _ (past (closed (of_patterns t xs (parts_of t o)) (spell_patterns xs) _ (patterns_in xs (parts_of t o))))

    patterns_in : (xs : Patterns) (ps : List ℕ) → In (of_patterns t xs ps) (spell_patterns xs)
    patterns_in NoPattern ps = none
    patterns_in (AndPattern x xs) [] = none
    patterns_in (AndPattern x xs) (p ∷ ps) = joined (of_pattern t x (Some p)) (of_patterns t xs ps) (spell_pattern x) (spell_more_patterns xs) (pattern_in x (Some p)) (more_patterns_in xs ps)

    more_patterns_in : (xs : Patterns) (ps : List ℕ) → In (of_patterns t xs ps) (spell_more_patterns xs)
    more_patterns_in NoPattern ps = none
    more_patterns_in (AndPattern x xs) [] = none
    more_patterns_in (AndPattern x xs) (p ∷ ps) = joined (of_pattern t x (Some p)) (of_patterns t xs ps) (spell_pattern x) (spell_more_patterns xs) (pattern_in x (Some p)) (more_patterns_in xs ps)

  module _ (q r : Option ℕ) (a b : Expr) (xs ys : List Position) (s : In xs (spell_expr a)) (u : In ys (spell_expr b)) where
    plain_in : (wanted : ℕ) → In (and_here t (Some wanted) q (expr_place a) xs ++ and_here t (Some wanted) r (expr_place b) ys) (spell_expr a ++ spell_expr b)
    plain_in wanted =
        joined (and_here t (Some wanted) q (expr_place a) xs) (and_here t (Some wanted) r (expr_place b) ys) (spell_expr a) (spell_expr b) (here_in t (Some wanted) q a xs s) (here_in t (Some wanted) r b ys u)

    equal_in : In (xs ++ (listed (unless (do_agree t q r) (expr_place b)) ++ ys)) (spell_expr a ++ spell_expr b)
    equal_in =
        joined xs (listed (unless (do_agree t q r) (expr_place b)) ++ ys) (spell_expr a) (spell_expr b) s (at_begin (do_agree t q r) (expr_place b) (spell_expr b) ys (begins b) u)

    cons_in : (o : Option (ℕ × ℕ)) → In (of_cons t o q (expr_place a) (expr_place b) xs ys) (spell_expr a ++ spell_expr b)
    cons_in None = joined xs (expr_place b ∷ ys) (spell_expr a) (spell_expr b) s (at_begin false (expr_place b) (spell_expr b) ys (begins b) u)
    cons_in (Some z) = joined (and_here t (Some z.1) q (expr_place a) xs) ys (spell_expr a) (spell_expr b) (here_in t (Some z.1) q a xs s) u

    infix_in : (f : Infix) → In (of_infix t f q r (expr_place a) (expr_place b) xs ys) (spell_expr a ++ spell_expr b)
    infix_in Equal = equal_in
    infix_in Unequal = equal_in
    infix_in Cons = cons_in (list_of t r)
    infix_in Or = plain_in truths
    infix_in And = plain_in truths
    infix_in Join = plain_in texts
    infix_in Below = plain_in numbers
    infix_in AtMost = plain_in numbers
    infix_in Above = plain_in numbers
    infix_in AtLeast = plain_in numbers
    infix_in Add = plain_in numbers
    infix_in Sub = plain_in numbers
    infix_in Mul = plain_in numbers
    infix_in Div = plain_in numbers
    infix_in Rem = plain_in numbers

  -- a sign between two spellings keeps no place
  signed_in : (xs : List Position) (a b : Expr) (f : Infix) → In xs (spell_expr a ++ spell_expr b) → In xs (spell_expr (Binary f a b))
  signed_in xs a b f s = subst (Met xs) (kept_append (spell_expr a) (spell_expr b) ∙ sym (kept_append (spell_expr a) _)) s

  module _ (w : Owner) where
    mutual
      expr_in : (vs : List vars.Variable) (e : Expr) → In (of_expr t w vs e) (spell_expr e)
      expr_in vs (Amount n place) = none
      expr_in vs (Chars s) = none
      expr_in vs (Truth b place) = none
      expr_in vs (Variable n) = at_untyped (type_there (variable_at t w vs n.text)) n.place []
      expr_in vs (Attribute r) =
          let b = occurrence_begins r.of _ in
          subst (Met (of_expr t w vs (Attribute r))) (sym b.1) (at_untyped (type_there (reference_at t w r)) (occurrence_place r.of) b.0)
      expr_in vs (Remote r) = at_untyped (one_type t w r) r.place _
      expr_in vs (MadeOf made n place) = at_untyped (usable_named t n.text) place (n.place ∷ [])
      expr_in vs (Paren a place) = past (closed (of_expr t w vs a) (spell_expr a) _ (expr_in vs a))
      expr_in vs (Single f a place) = past (here_in t (Some (prefix_type f)) (type_in t w vs a) a (of_expr t w vs a) (expr_in vs a))
      expr_in vs (Binary f a b) =
          signed_in (of_expr t w vs (Binary f a b)) a b f (infix_in (type_in t w vs a) (type_in t w vs b) a b (of_expr t w vs a) (of_expr t w vs b) (expr_in vs a) (expr_in vs b) f)
      expr_in vs (Choice c a b) =
          let x = and_here t (Some truths) (type_in t w vs c) (expr_place c) (of_expr t w vs c) in
          let z = and_here t (type_in t w vs a) (type_in t w vs b) (expr_place b) (of_expr t w vs b) in
          joined x (of_expr t w vs a ++ z) (spell_expr c) _ (here_in t (Some truths) (type_in t w vs c) c (of_expr t w vs c) (expr_in vs c))
          (joined (of_expr t w vs a) z (spell_expr a) _ (expr_in vs a) (here_in t (type_in t w vs a) (type_in t w vs b) b (of_expr t w vs b) (expr_in vs b)))
      expr_in vs (Call n es) = past (closed (of_exprs t w vs es (params_in t (callable t n.text))) (spell_exprs es) _ (exprs_in vs es (params_in t (callable t n.text))))
      expr_in vs (Let n a b place) =
          let us = vs ++ record { name = n.text; of = type_in t w vs a } ∷ [] in
          past (past (joined (of_expr t w vs a) (of_expr t w us b) (spell_expr a) _ (expr_in vs a) (closed (of_expr t w us b) (spell_expr b) _ (expr_in us b))))
      expr_in vs (With a q b cs place) =
          let o = type_in t w vs a in
          let us = vs ++ variables_of t q o in
          let rest = of_cases t w vs o (type_in t w us b) cs in
          past (joined (of_expr t w vs a) (of_pattern t q o ++ (of_expr t w us b ++ rest)) (spell_expr a) _ (expr_in vs a)
          (joined (of_pattern t q o) (of_expr t w us b ++ rest) (spell_pattern q) _ (pattern_in q o)
          (joined (of_expr t w us b) rest (spell_expr b) _ (expr_in us b)
          (closed rest (spell_cases cs) _ (cases_in vs o (type_in t w us b) cs)))))

      exprs_in : (vs : List vars.Variable) (es : Exprs) (ps : List ℕ) → In (of_exprs t w vs es ps) (spell_exprs es)
      exprs_in vs NoExpr ps = none
      exprs_in vs (AndExpr e es) [] = none
      exprs_in vs (AndExpr e es) (p ∷ ps) =
          joined (and_here t (Some p) (type_in t w vs e) (expr_place e) (of_expr t w vs e)) (of_exprs t w vs es ps) (spell_expr e) (spell_more_exprs es) (here_in t (Some p) (type_in t w vs e) e (of_expr t w vs e) (expr_in vs e)) (more_exprs_in vs es ps)

      more_exprs_in : (vs : List vars.Variable) (es : Exprs) (ps : List ℕ) → In (of_exprs t w vs es ps) (spell_more_exprs es)
      more_exprs_in vs NoExpr ps = none
      more_exprs_in vs (AndExpr e es) [] = none
      more_exprs_in vs (AndExpr e es) (p ∷ ps) =
          joined (and_here t (Some p) (type_in t w vs e) (expr_place e) (of_expr t w vs e)) (of_exprs t w vs es ps) (spell_expr e) (spell_more_exprs es) (here_in t (Some p) (type_in t w vs e) e (of_expr t w vs e) (expr_in vs e)) (more_exprs_in vs es ps)

      cases_in : (vs : List vars.Variable) (o wanted : Option ℕ) (cs : Cases) → In (of_cases t w vs o wanted cs) (spell_cases cs)
      cases_in vs o wanted NoCase = none
      cases_in vs o wanted (Default e) = here_in t wanted (type_in t w vs e) e (of_expr t w vs e) (expr_in vs e)
      cases_in vs o wanted (Case q e cs) =
          let us = vs ++ variables_of t q o in
          let x = and_here t wanted (type_in t w us e) (expr_place e) (of_expr t w us e) in
          joined (of_pattern t q o) (x ++ of_cases t w vs o wanted cs) (spell_pattern q) _ (pattern_in q o)
          (joined x (of_cases t w vs o wanted cs) (spell_expr e) (spell_cases cs) (here_in t wanted (type_in t w us e) e (of_expr t w us e) (expr_in us e)) (cases_in vs o wanted cs))

    body_in : (vs : List vars.Variable) (wanted : Option ℕ) (e : Expr) → In (of_body t w vs wanted e) (spell_expr e)
    body_in vs wanted e = here_in t wanted (type_in t w vs e) e (of_expr t w vs e) (expr_in vs e)

  -- declarations
  equation_in : (op : ℕ) (q : Equation) → In (of_equation t op q) (spell_equation q)
  equation_in op q = opened (of_equation t op q) (spell_target q.target) _ (closed (of_equation t op q) (spell_expr q.expr) _ (body_in (equation_owner t op q) [] (target_type t op q.target) q.expr))

  right_in : (n : Name) (r : Right) → In (of_right t n r) (spell_right r)
  right_in n r = past (opened (of_right t n r) (flat_map spell_part r.parts) _ (closed (of_right t n r) (spell_expr r.expr) _ (body_in (OfProduction n.text r.parts) [] (result_type t n) r.expr)))

  decl_in : (d : Decl) → Met (of_decl t d) (places_of d)
  decl_in (Equations n op locals es) =
      past (past (opened (flat_map (of_equation t (operator t n op)) es) (flat_map spell_local locals) _ (closed (flat_map (of_equation t (operator t n op)) es) (flat_map spell_equation es) _
      (each_in (of_equation t (operator t n op)) spell_equation (equation_in (operator t n op)) es))))
  decl_in (Function of n params e) =
      let xs = of_body t OfNothing (map (parameter t) params) (phylum_named t of.text) e in
      past (past (opened xs (join_by spell_param comma params) _ (closed xs (spell_expr e) _ (body_in OfNothing (map (parameter t) params) (phylum_named t of.text) e))))
  decl_in (Transform n title q e) =
      let o = phylum_named t n.text in
      let xs = of_body t OfNothing (variables_of t q o) o e in
      past (past (joined (of_pattern t q o) xs (spell_pattern q) _ (pattern_in q o) (closed xs (spell_expr e) _ (body_in OfNothing (variables_of t q o) o e))))
  decl_in (Productions n rs) = past (closed (flat_map (of_right t n) rs) (join_by spell_right bar rs) _ (between_in (of_right t n) spell_right bar (right_in n) rs))
  decl_in d = none

  pub mismatches_in : (ds : List Decl) → Met (mismatches t ds) (flat_map places_of ds)
  mismatches_in [] = none
  mismatches_in (d ∷ ds) = met_then (decl_in d) (mismatches_in ds)

-- no mismatch stands before the first of them
pub none_before : (t : Table) (ds : List Decl) → AreKnown t (uses t ds) → RiseFrom 0 (flat_map places_of ds) → (p : Position) → first_mismatch t ds ≡ Some p → AllByRecursion (λ (q : Position). p.token ≤ q.token) (mismatches t ds)
none_before t ds k rise p h = by (mismatches t ds) (mismatches_in t ds) (sym (mismatches_head t ds k) ∙ h)
  where
    by : (xs : List Position) → Met xs (flat_map places_of ds) → head xs ≡ Some p → AllByRecursion (λ (q : Position). p.token ≤ q.token) xs
    by [] s e = tt
    by (x ∷ xs) s e =
        let same : x ≡ p = cc in
        subst (λ (y : Position). AllByRecursion (λ (q : Position). y.token ≤ q.token) (x ∷ xs)) same (least_first 0 s rise)
