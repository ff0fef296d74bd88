-- Uses stand in the order of the text.
use Rattle.std.proofs.Common.{ℕ, true, false, List, [], ◌∷◌, ◌++◌, map, Option, Some, None, sym, subst}
use Rattle.std.specs.Prelude.{flat_map}
use Rattle.std.specs.List.{join_by}
use Rattle.std.proofs.lemmas.Grind.{flat_map-append}
use Rattle.sg_kinds.specs.Values.{Bytes}
use Rattle.sg_kinds.specs.declared.fault.Position.{Position}
use Rattle.sg_text.specs.declared.symbols.Symbol.TheVariants.{Dot}
use Rattle.sg_ast.specs.declared.name.Name.{Name}
use Rattle.sg_ast.specs.declared.name.Typed.{Typed}
use Rattle.sg_ast.specs.declared.name.Occurrence.{Occurrence}
use Rattle.sg_ast.specs.declared.name.Occurrence.TheVariants.{Own, Named}
use Rattle.sg_ast.specs.declared.name.Pair.{Pair}
use Rattle.sg_ast.specs.declared.decl.Alt.{Alt}
use Rattle.sg_ast.specs.declared.decl.AttrDecl.{AttrDecl}
use Rattle.sg_ast.specs.declared.decl.Target.{Target}
use Rattle.sg_ast.specs.declared.decl.Target.TheVariants as target
use Rattle.sg_ast.specs.declared.decl.Item.{Item}
use Rattle.sg_ast.specs.declared.decl.Item.TheVariants as item
use Rattle.sg_ast.specs.declared.decl.SchemeDecl.{SchemeDecl}
use Rattle.sg_ast.specs.declared.decl.Part.{Part}
use Rattle.sg_ast.specs.declared.decl.Part.TheVariants as part
use Rattle.sg_ast.specs.Patterns as p
use Rattle.sg_ast.specs.Patterns.{Pattern, Patterns, NoPattern, AndPattern}
use Rattle.sg_ast.specs.Expressions as e
use Rattle.sg_ast.specs.Expressions.{Expr, Exprs, Cases, NoExpr, AndExpr, NoCase, Default, Case}
use Rattle.sg_ast.specs.Declarations.{Decl, Equation, Right, Root, Listed, Optional, Operators, Attributes, Equations, Schemes, Function, Transform, Productions, Entry}
use Rattle.sg_ast.specs.Chains.{occurrence_place}
use Rattle.sg_ast.specs.Spelling.{Piece, sign, named, comma, bar, spell_name, spell_occurrence, spell_pair, spell_pattern, spell_patterns, spell_more_patterns, spell_expr, spell_exprs, spell_more_exprs, spell_cases, spell_target, spell_equation, spell_alt, spell_attr, spell_local, spell_param, spell_item, spell_scheme, spell_part, spell_right, spell_view}
use Rattle.sg_ast.specs.Rising.{kept_places, places_of, SomeOf, nothing, passed, taken}
use Rattle.sg_ast.proofs.RisingLaws.{some_then, in_front, in_back, in_both}
use Rattle.sg_names.specs.declared.table.Table.{Table}
use Rattle.sg_names.specs.Lookups.{operator_at}
use Rattle.sg_names.specs.Uses.{Site, InOperator, InProduction, Elsewhere, Use, UsesPhylum, Encloses, with_variable, pattern_scope, pattern_uses, patterns_uses, expr_uses, exprs_uses, cases_uses, local_scope, target_uses, equation_uses, item_uses, scheme_uses, equations_uses, schemes_uses, within, params_scope, params_uses, part_uses, right_uses, decl_uses, uses}
use Rattle.sg_uses.specs.UsePlaces.{use_places, walked_places}

-- these uses stand among these tokens, in their order
abbrev In : List Use → List Piece → Type 0
In us ps = SomeOf (walked_places us) (kept_places ps)

-- the same tokens with others behind or before them, and two lists one behind the other
closed : (us : List Use) (ps qs : List Piece) → In us ps → In us (ps ++ qs)
closed us ps qs s = in_front (walked_places us) ps qs s

opened : (us : List Use) (ps qs : List Piece) → In us qs → In us (ps ++ qs)
opened us ps qs s = in_back (walked_places us) ps qs s

joined : (us vs : List Use) (ps qs : List Piece) → In us ps → In vs qs → In (us ++ vs) (ps ++ qs)
joined us vs ps qs s t =
    subst (λ (l : List Position). SomeOf l (kept_places (ps ++ qs))) (sym (flat_map-append use_places us vs)) (in_both (walked_places us) (walked_places vs) ps qs s t)

-- each of a list, with nothing between or with separators
each_in : {X : Type 0} (f : X → List Use) (s : X → List Piece) → ((x : X) → In (f x) (s x)) → (xs : List X) → In (flat_map f xs) (flat_map s xs)
each_in f s one [] = nothing
each_in f s one (x ∷ xs) = joined (f x) (flat_map f xs) (s x) (flat_map s xs) (one x) (each_in f s one xs)

between_in : {X : Type 0} (f : X → List Use) (s : X → List Piece) (sep : List Piece) → ((x : X) → In (f x) (s x)) → (xs : List X) → In (flat_map f xs) (join_by s sep xs)
between_in f s sep one [] = nothing
between_in f s sep one (x ∷ xs) =
    joined (f x) (flat_map f xs) (s x) (flat_map (λ y. sep ++ s y) xs) (one x) (each_in f (λ y. sep ++ s y) (λ y. opened (f y) sep (s y) (one y)) xs)

-- patterns and expressions
mutual
  pattern_in : (scope : List Bytes) (q : Pattern) → In (pattern_uses scope q) (spell_pattern q)
  pattern_in scope (p.Amount negative n place) = nothing
  pattern_in scope (p.Chars s) = nothing
  pattern_in scope (p.Truth b place) = nothing
  pattern_in scope (p.Anything place) = nothing
  pattern_in scope (p.Variable n) = taken nothing
  pattern_in scope (p.MadeAs made n place) = passed (taken nothing)
  pattern_in scope (p.Applied n qs) = taken (closed (patterns_uses scope qs) (spell_patterns qs) _ (patterns_in scope qs))

  patterns_in : (scope : List Bytes) (qs : Patterns) → In (patterns_uses scope qs) (spell_patterns qs)
  patterns_in scope NoPattern = nothing
  patterns_in scope (AndPattern q qs) =
      joined (pattern_uses scope q) (patterns_uses (pattern_scope scope q) qs) (spell_pattern q) (spell_more_patterns qs) (pattern_in scope q) (more_patterns_in (pattern_scope scope q) qs)

  more_patterns_in : (scope : List Bytes) (qs : Patterns) → In (patterns_uses scope qs) (spell_more_patterns qs)
  more_patterns_in scope NoPattern = nothing
  more_patterns_in scope (AndPattern q qs) =
      joined (pattern_uses scope q) (patterns_uses (pattern_scope scope q) qs) (spell_pattern q) (spell_more_patterns qs) (pattern_in scope q) (more_patterns_in (pattern_scope scope q) qs)

reference_in : (of : Occurrence) (attr : Name) → SomeOf (occurrence_place of ∷ attr.place ∷ []) (kept_places (spell_occurrence of ++ (sign Dot ∷ named attr ∷ [])))
reference_in (Own place) attr = taken (taken nothing)
reference_in (Named n None) attr = taken (taken nothing)
reference_in (Named n (Some k)) attr = taken (taken nothing)

-- the pairs of a reference to enclosing nodes
more_pairs_in : (site : Site) (qs : List Pair) → In (map (Encloses site) qs) (flat_map (λ q. comma ++ spell_pair q) qs)
more_pairs_in site [] = nothing
more_pairs_in site (q ∷ qs) = taken (taken (more_pairs_in site qs))

pairs_in : (site : Site) (qs : List Pair) → In (map (Encloses site) qs) (join_by spell_pair comma qs)
pairs_in site [] = nothing
pairs_in site (q ∷ qs) = taken (taken (more_pairs_in site qs))

mutual
  expr_in : (site : Site) (scope : List Bytes) (x : Expr) → In (expr_uses site scope x) (spell_expr x)
  expr_in site scope (e.Amount n place) = nothing
  expr_in site scope (e.Chars s) = nothing
  expr_in site scope (e.Truth b place) = nothing
  expr_in site scope (e.Variable n) = taken nothing
  expr_in site scope (e.Attribute r) = reference_in r.of r.attr
  expr_in site scope (e.Remote r) = passed (closed (map (Encloses site) r.pairs) (join_by spell_pair comma r.pairs) _ (pairs_in site r.pairs))
  expr_in site scope (e.MadeOf made n place) = passed (taken nothing)
  expr_in site scope (e.Paren a place) = passed (closed (expr_uses site scope a) (spell_expr a) _ (expr_in site scope a))
  expr_in site scope (e.Single f a place) = passed (expr_in site scope a)
  expr_in site scope (e.Binary s a b) = joined (expr_uses site scope a) (expr_uses site scope b) (spell_expr a) _ (expr_in site scope a) (expr_in site scope b)
  expr_in site scope (e.Choice a b c) =
      joined (expr_uses site scope a) (expr_uses site scope b ++ expr_uses site scope c) (spell_expr a) _ (expr_in site scope a)
      (joined (expr_uses site scope b) (expr_uses site scope c) (spell_expr b) _ (expr_in site scope b) (expr_in site scope c))
  expr_in site scope (e.Call n es) = taken (closed (exprs_uses site scope es) (spell_exprs es) _ (exprs_in site scope es))
  expr_in site scope (e.Let n a b place) =
      passed (taken (joined (expr_uses site scope a) (expr_uses site (with_variable scope n.text) b) (spell_expr a) _ (expr_in site scope a)
      (closed (expr_uses site (with_variable scope n.text) b) (spell_expr b) _ (expr_in site (with_variable scope n.text) b))))
  expr_in site scope (e.With a q b cs place) =
      passed (joined (expr_uses site scope a) (pattern_uses scope q ++ (expr_uses site (pattern_scope scope q) b ++ cases_uses site scope cs)) (spell_expr a) _ (expr_in site scope a)
      (joined (pattern_uses scope q) (expr_uses site (pattern_scope scope q) b ++ cases_uses site scope cs) (spell_pattern q) _ (pattern_in scope q)
      (joined (expr_uses site (pattern_scope scope q) b) (cases_uses site scope cs) (spell_expr b) _ (expr_in site (pattern_scope scope q) b)
      (closed (cases_uses site scope cs) (spell_cases cs) _ (cases_in site scope cs)))))

  exprs_in : (site : Site) (scope : List Bytes) (es : Exprs) → In (exprs_uses site scope es) (spell_exprs es)
  exprs_in site scope NoExpr = nothing
  exprs_in site scope (AndExpr x es) = joined (expr_uses site scope x) (exprs_uses site scope es) (spell_expr x) (spell_more_exprs es) (expr_in site scope x) (more_exprs_in site scope es)

  more_exprs_in : (site : Site) (scope : List Bytes) (es : Exprs) → In (exprs_uses site scope es) (spell_more_exprs es)
  more_exprs_in site scope NoExpr = nothing
  more_exprs_in site scope (AndExpr x es) = joined (expr_uses site scope x) (exprs_uses site scope es) (spell_expr x) (spell_more_exprs es) (expr_in site scope x) (more_exprs_in site scope es)

  cases_in : (site : Site) (scope : List Bytes) (cs : Cases) → In (cases_uses site scope cs) (spell_cases cs)
  cases_in site scope NoCase = nothing
  cases_in site scope (Default x) = expr_in site scope x
  cases_in site scope (Case q x cs) =
      joined (pattern_uses scope q) (expr_uses site (pattern_scope scope q) x ++ cases_uses site scope cs) (spell_pattern q) _ (pattern_in scope q)
      (joined (expr_uses site (pattern_scope scope q) x) (cases_uses site scope cs) (spell_expr x) (spell_cases cs) (expr_in site (pattern_scope scope q) x) (cases_in site scope cs))

-- parts of declarations
target_in : (site : Site) (scope : List Bytes) (x : Target) → In (target_uses site scope x) (spell_target x)
target_in site scope (target.Attribute r) = reference_in r.of r.attr
target_in site scope (target.Local n) = taken nothing

equation_in : (site : Site) (scope : List Bytes) (q : Equation) → In (equation_uses site scope q) (spell_equation q)
equation_in site scope q =
    joined (target_uses site scope q.target) (expr_uses site scope q.expr) (spell_target q.target) _ (target_in site scope q.target)
    (closed (expr_uses site scope q.expr) (spell_expr q.expr) _ (expr_in site scope q.expr))

item_in : (site : Site) (scope : List Bytes) (x : Item) → In (item_uses site scope x) (spell_item x)
item_in site scope (item.Writes s) = nothing
item_in site scope (item.Child how) = nothing
item_in site scope (item.Shows t) = target_in site scope t
item_in site scope (item.Separates ss) = nothing

scheme_in : (site : Site) (scope : List Bytes) (s : SchemeDecl) → In (scheme_uses site scope s) (spell_scheme s)
scheme_in site scope s = passed (closed (scheme_uses site scope s) (flat_map spell_item s.items) _ (each_in (item_uses site scope) spell_item (item_in site scope) s.items))

part_in : (x : Part) → In (part_uses x) (spell_part x)
part_in (part.Named n) = taken nothing
part_in (part.Literal s) = nothing

right_in : (left : Bytes) (r : Right) → In (right_uses left r) (spell_right r)
right_in left r =
    passed (joined (flat_map part_uses r.parts) (expr_uses (InProduction left r.parts) [] r.expr) (flat_map spell_part r.parts) _ (each_in part_uses spell_part part_in r.parts)
    (closed (expr_uses (InProduction left r.parts) [] r.expr) (spell_expr r.expr) _ (expr_in (InProduction left r.parts) [] r.expr)))

names_in : (ns : List Name) → In (map UsesPhylum ns) (flat_map spell_name ns)
names_in [] = nothing
names_in (n ∷ ns) = taken (names_in ns)

alt_in : (a : Alt) → In (map UsesPhylum a.args) (spell_alt a)
alt_in a = passed (closed (map UsesPhylum a.args) (flat_map spell_name a.args) _ (names_in a.args))

attrs_in : (attrs : List AttrDecl) → In (map (λ (a : AttrDecl). UsesPhylum a.of) attrs) (flat_map spell_attr attrs)
attrs_in [] = nothing
attrs_in (a ∷ attrs) = taken (passed (attrs_in attrs))

locals_in : (locals : List Typed) → In (map (λ (l : Typed). UsesPhylum l.of) locals) (flat_map spell_local locals)
locals_in [] = nothing
locals_in (l ∷ locals) = taken (passed (locals_in locals))

more_params_in : (scope : List Bytes) (params : List Typed) → In (params_uses scope params) (flat_map (λ (t : Typed). comma ++ spell_param t) params)
more_params_in scope [] = nothing
more_params_in scope (t ∷ ts) = taken (taken (more_params_in (with_variable scope t.name.text) ts))

params_in : (scope : List Bytes) (params : List Typed) → In (params_uses scope params) (join_by spell_param comma params)
params_in scope [] = nothing
params_in scope (t ∷ ts) = taken (taken (more_params_in (with_variable scope t.name.text) ts))

within_in : (f : ℕ → List Use) (o : Option ℕ) (ps : List Piece) → ((op : ℕ) → In (f op) ps) → In (within f o) ps
within_in f None ps one = nothing
within_in f (Some op) ps one = one op

decl_in : (t : Table) (d : Decl) → SomeOf (walked_places (decl_uses t d)) (places_of d)
decl_in t (Root n) = taken nothing
decl_in t (Listed n) = taken nothing
decl_in t (Optional true n) = taken nothing
decl_in t (Optional false n) = taken nothing
decl_in t (Operators n alts) =
    passed (closed (flat_map (λ (a : Alt). map UsesPhylum a.args) alts) (join_by spell_alt bar alts) _ (between_in (λ (a : Alt). map UsesPhylum a.args) spell_alt bar alt_in alts))
decl_in t (Attributes n attrs) = taken (closed (map (λ (a : AttrDecl). UsesPhylum a.of) attrs) (flat_map spell_attr attrs) _ (attrs_in attrs))
decl_in t (Equations n op locals es) =
    taken (taken (joined (map (λ (l : Typed). UsesPhylum l.of) locals) (within (equations_uses t es) (operator_at t n op)) (flat_map spell_local locals) _ (locals_in locals)
    (closed (within (equations_uses t es) (operator_at t n op)) (flat_map spell_equation es) _
    (within_in (equations_uses t es) (operator_at t n op) (flat_map spell_equation es)
    (λ k. each_in (equation_uses (InOperator k) (local_scope t k)) spell_equation (equation_in (InOperator k) (local_scope t k)) es)))))
decl_in t (Schemes n op view ss) =
    taken (taken (opened (within (schemes_uses t ss) (operator_at t n op)) (spell_view view) _ (closed (within (schemes_uses t ss) (operator_at t n op)) (flat_map spell_scheme ss) _
    (within_in (schemes_uses t ss) (operator_at t n op) (flat_map spell_scheme ss)
    (λ k. each_in (scheme_uses (InOperator k) (local_scope t k)) spell_scheme (scheme_in (InOperator k) (local_scope t k)) ss)))))
decl_in t (Function ty n params x) =
    taken (passed (joined (params_uses [] params) (expr_uses Elsewhere (params_scope [] params) x) (join_by spell_param comma params) _ (params_in [] params)
    (closed (expr_uses Elsewhere (params_scope [] params) x) (spell_expr x) _ (expr_in Elsewhere (params_scope [] params) x))))
decl_in t (Transform n title q x) =
    taken (passed (joined (pattern_uses [] q) (expr_uses Elsewhere (pattern_scope [] q) x) (spell_pattern q) _ (pattern_in [] q)
    (closed (expr_uses Elsewhere (pattern_scope [] q) x) (spell_expr x) _ (expr_in Elsewhere (pattern_scope [] q) x))))
decl_in t (Productions n rs) = passed (closed (flat_map (right_uses n.text) rs) (join_by spell_right bar rs) _ (between_in (right_uses n.text) spell_right bar (right_in n.text) rs))
decl_in t (Entry n m a) = taken (taken (taken nothing))
decl_in t d = nothing

pub uses_in : (t : Table) (ds : List Decl) → SomeOf (walked_places (uses t ds)) (flat_map places_of ds)
uses_in t [] = nothing
uses_in t (d ∷ ds) =
    subst (λ (l : List Position). SomeOf l (places_of d ++ flat_map places_of ds)) (sym (flat_map-append use_places (decl_uses t d) (uses t ds))) (some_then (decl_in t d) (uses_in t ds))
