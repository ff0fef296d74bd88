-- Definitions stand in the order of the text.
use Rattle.std.proofs.Common.{◌≡◌, true, false, List, [], ◌∷◌, ◌++◌, map, refl, sym, ap, ◌∙◌, subst, append_assoc, append-nil}
use Rattle.std.specs.Prelude.{flat_map}
use Rattle.std.specs.List.{join_by}
use Rattle.std.proofs.lemmas.List.{map-append}
use Rattle.std.proofs.lemmas.Grind.{flat_map-append}
use Rattle.sg_kinds.specs.declared.fault.Position.{Position}
use Rattle.sg_ast.specs.declared.name.Quoted.{Quoted}
use Rattle.sg_ast.specs.declared.name.Pair.{Pair}
use Rattle.sg_ast.specs.declared.name.Remote.{Remote}
use Rattle.sg_ast.specs.declared.name.Typed.{Typed}
use Rattle.sg_ast.specs.declared.decl.Alt.{Alt}
use Rattle.sg_ast.specs.declared.decl.AttrDecl.{AttrDecl}
use Rattle.sg_ast.specs.Declarations as decl
use Rattle.sg_ast.specs.Declarations.{Decl, Equation, Right}
use Rattle.sg_ast.specs.Expressions.{Expr, Exprs, Cases, Paren, Single, Binary, Choice, Call, Let, With, NoExpr, AndExpr, NoCase, Default, Case}
use Rattle.sg_ast.specs.Expressions as e
use Rattle.sg_ast.specs.Remotes.{remotes_of, remotes_of_all, remotes_of_cases}
use Rattle.sg_ast.specs.Spelling.{Piece, Free, bar, comma, spell_alt, spell_attr, spell_local, spell_literal, spell_pair, spell_param, spell_part, spell_pattern, spell_target, spell_equation, spell_right, spell_expr, spell_exprs, spell_more_exprs, spell_cases}
use Rattle.sg_ast.specs.Rising.{kept_places, places_of, SomeOf, nothing, passed, taken}
use Rattle.sg_ast.proofs.RisingLaws.{some_of_each, in_front, in_back, in_both}
use Rattle.sg_counts.specs.declared.definitions.Form.TheVariants as form
use Rattle.sg_counts.specs.declared.definitions.Definition.{Definition}
use Rattle.sg_counts.specs.Definitions.{Callables, Attributes, Locals, Remotes, Key}
use Rattle.sg_counts.specs.Duplicates.{defined, literal_defined, remote_defined, expr_defined, definitions_of}
use Rattle.sg_counts.proofs.Along.{alts_in, attrs_in, locals_in}

abbrev places : List (Definition Key) → List Position
places ds = map (λ (d : Definition Key). d.place) ds

-- the places of definitions, one for each of these
fused : {A : Type 0} (f : A → Definition Key) (xs : List A) → places (map f xs) ≡ map (λ x. (f x).place) xs
fused f [] = refl
fused f (x ∷ xs) = ap (λ l. (f x).place ∷ l) (fused f xs)

some_defined : {A : Type 0} (f : A → Definition Key) (xs : List A) (ys : List Position) → SomeOf (map (λ x. (f x).place) xs) ys → SomeOf (places (map f xs)) ys
some_defined f xs ys some = subst (λ (l : List Position). SomeOf l ys) (sym (fused f xs)) some

-- literals
literals_in : (literals : List Quoted) → SomeOf (places (map literal_defined literals)) (kept_places (flat_map spell_literal literals))
literals_in [] = nothing
literals_in (l ∷ literals) = taken (literals_in literals)

-- what atoms list
more_pairs_in : (pairs : List Pair) → SomeOf (map (λ (p : Pair). p.phylum.place) pairs) (kept_places (flat_map (λ (p : Pair). comma ++ spell_pair p) pairs))
more_pairs_in [] = nothing
more_pairs_in (p ∷ pairs) = taken (passed (more_pairs_in pairs))

pairs_in : (pairs : List Pair) → SomeOf (map (λ (p : Pair). p.phylum.place) pairs) (kept_places (join_by spell_pair comma pairs))
pairs_in [] = nothing
pairs_in (p ∷ pairs) = taken (passed (more_pairs_in pairs))

abbrev listed : List Remote → List Position
listed rs = places (flat_map remote_defined rs)

both_listed : (rs ss : List Remote) → listed (rs ++ ss) ≡ listed rs ++ listed ss
both_listed rs ss = ap places (flat_map-append remote_defined rs ss) ∙ map-append (λ (d : Definition Key). d.place) (flat_map remote_defined rs) (flat_map remote_defined ss)

remote_in : (r : Remote) → SomeOf (listed (r ∷ [])) (kept_places (spell_expr (e.Remote r)))
remote_in r =
    let pairs = some_defined (λ (p : Pair). defined form.Alone (Remotes r.place.token) p.phylum) r.pairs _ (in_front _ (join_by spell_pair comma r.pairs) _ (pairs_in r.pairs)) in
    subst (λ (ds : List (Definition Key)). SomeOf (places ds) (kept_places (spell_expr (e.Remote r)))) (sym (append-nil (remote_defined r))) (passed pairs)

-- what two parts list, the one spelled before the other
two_in : (rs ss : List Remote) (ps qs : List Piece) → SomeOf (listed rs) (kept_places ps) → SomeOf (listed ss) (kept_places qs) → SomeOf (listed (rs ++ ss)) (kept_places (ps ++ qs))
two_in rs ss ps qs a b = subst (λ (l : List Position). SomeOf l (kept_places (ps ++ qs))) (sym (both_listed rs ss)) (in_both (listed rs) (listed ss) ps qs a b)

mutual
  expr_in : (a : Expr) → SomeOf (listed (remotes_of a)) (kept_places (spell_expr a))
  expr_in (e.Remote r) = remote_in r
  expr_in (Paren a place) = passed (in_front _ (spell_expr a) _ (expr_in a))
  expr_in (Single f a place) = passed (expr_in a)
  expr_in (Binary s a b) = two_in (remotes_of a) (remotes_of b) (spell_expr a) (Free _ ∷ spell_expr b) (expr_in a) (expr_in b)
  expr_in (Choice a b c) =
      rw (append_assoc (remotes_of a) (remotes_of b) (remotes_of c))
      (two_in (remotes_of a) (remotes_of b ++ remotes_of c) (spell_expr a) (Free _ ∷ spell_expr b ++ (Free _ ∷ spell_expr c)) (expr_in a)
      (two_in (remotes_of b) (remotes_of c) (spell_expr b) (Free _ ∷ spell_expr c) (expr_in b) (expr_in c)))
  expr_in (Call n es) = passed (in_front _ (spell_exprs es) _ (exprs_in es))
  expr_in (Let n a b place) =
      passed (passed (two_in (remotes_of a) (remotes_of b) (spell_expr a) (Free _ ∷ Free _ ∷ spell_expr b ++ Free _ ∷ []) (expr_in a) (in_front _ (spell_expr b) _ (expr_in b))))
  expr_in (With a q b cs place) =
      rw (append_assoc (remotes_of a) (remotes_of b) (remotes_of_cases cs))
      (passed (two_in (remotes_of a) (remotes_of b ++ remotes_of_cases cs) (spell_expr a) (Free _ ∷ Free _ ∷ spell_pattern q ++ (Free _ ∷ spell_expr b ++ (spell_cases cs ++ Free _ ∷ []))) (expr_in a)
      (in_back _ (spell_pattern q) (Free _ ∷ spell_expr b ++ (spell_cases cs ++ Free _ ∷ []))
      (two_in (remotes_of b) (remotes_of_cases cs) (spell_expr b) (spell_cases cs ++ Free _ ∷ []) (expr_in b) (in_front _ (spell_cases cs) _ (cases_in cs))))))
  expr_in a = nothing

  exprs_in : (es : Exprs) → SomeOf (listed (remotes_of_all es)) (kept_places (spell_exprs es))
  exprs_in NoExpr = nothing
  exprs_in (AndExpr a es) = two_in (remotes_of a) (remotes_of_all es) (spell_expr a) (spell_more_exprs es) (expr_in a) (more_exprs_in es)

  more_exprs_in : (es : Exprs) → SomeOf (listed (remotes_of_all es)) (kept_places (spell_more_exprs es))
  more_exprs_in NoExpr = nothing
  more_exprs_in (AndExpr a es) = two_in (remotes_of a) (remotes_of_all es) (spell_expr a) (spell_more_exprs es) (expr_in a) (more_exprs_in es)

  cases_in : (cs : Cases) → SomeOf (listed (remotes_of_cases cs)) (kept_places (spell_cases cs))
  cases_in NoCase = nothing
  cases_in (Default a) = expr_in a
  cases_in (Case q a cs) =
      in_back _ (spell_pattern q) (Free _ ∷ spell_expr a ++ spell_cases cs) (two_in (remotes_of a) (remotes_of_cases cs) (spell_expr a) (spell_cases cs) (expr_in a) (cases_in cs))

-- what is defined in one part and behind it
both_places : (ds es : List (Definition Key)) (ps qs : List Piece) → SomeOf (places ds) (kept_places ps) → SomeOf (places es) (kept_places qs) → SomeOf (places (ds ++ es)) (kept_places (ps ++ qs))
both_places ds es ps qs a b = subst (λ (l : List Position). SomeOf l (kept_places (ps ++ qs))) (sym (map-append (λ (d : Definition Key). d.place) ds es)) (in_both (places ds) (places es) ps qs a b)

equation_in : (q : Equation) → SomeOf (places (expr_defined q.expr)) (kept_places (spell_equation q))
equation_in q = in_back _ (spell_target q.target) _ (in_front _ (spell_expr q.expr) _ (expr_in q.expr))

equations_in : (equations : List Equation) → SomeOf (places (flat_map (λ (q : Equation). expr_defined q.expr) equations)) (kept_places (flat_map spell_equation equations))
equations_in [] = nothing
equations_in (q ∷ equations) = both_places (expr_defined q.expr) (flat_map (λ (q : Equation). expr_defined q.expr) equations) (spell_equation q) (flat_map spell_equation equations) (equation_in q) (equations_in equations)

right_in : (r : Right) → SomeOf (places (expr_defined r.expr)) (kept_places (spell_right r))
right_in r = passed (in_back _ (flat_map spell_part r.parts) _ (in_front _ (spell_expr r.expr) _ (expr_in r.expr)))

more_rights_in : (rights : List Right) → SomeOf (places (flat_map (λ (r : Right). expr_defined r.expr) rights)) (kept_places (flat_map (λ (r : Right). bar ++ spell_right r) rights))
more_rights_in [] = nothing
more_rights_in (r ∷ rights) =
    both_places (expr_defined r.expr) (flat_map (λ (r : Right). expr_defined r.expr) rights) (bar ++ spell_right r) (flat_map (λ (r : Right). bar ++ spell_right r) rights) (right_in r) (more_rights_in rights)

rights_in : (rights : List Right) → SomeOf (places (flat_map (λ (r : Right). expr_defined r.expr) rights)) (kept_places (join_by spell_right bar rights))
rights_in [] = nothing
rights_in (r ∷ rights) =
    both_places (expr_defined r.expr) (flat_map (λ (r : Right). expr_defined r.expr) rights) (spell_right r) (flat_map (λ (r : Right). bar ++ spell_right r) rights) (right_in r) (more_rights_in rights)

decl_in : (d : Decl) → SomeOf (places (definitions_of d)) (places_of d)
decl_in (decl.Listed p) = taken nothing
decl_in (decl.Optional true p) = taken nothing
decl_in (decl.Optional false p) = taken nothing
decl_in (decl.Operators p alts) = taken (some_defined (λ (a : Alt). defined form.Alone Callables a.name) alts _ (in_front _ (join_by spell_alt bar alts) _ (alts_in alts)))
decl_in (decl.LexemeOf p s) = taken nothing
decl_in (decl.Attributes p attrs) =
    passed (some_defined (λ (a : AttrDecl). defined form.Alone (Attributes p.text) a.name) attrs _ (in_front _ (flat_map spell_attr attrs) _ (attrs_in attrs)))
decl_in (decl.Equations p op locals equations) =
    passed (passed (both_places (map (λ (l : Typed). defined form.Alone (Locals p.text op.text) l.name) locals) (flat_map (λ (q : Equation). expr_defined q.expr) equations) (flat_map spell_local locals) _
    (some_defined (λ (l : Typed). defined form.Alone (Locals p.text op.text) l.name) locals _ (locals_in locals)) (in_front _ (flat_map spell_equation equations) _ (equations_in equations))))
decl_in (decl.Schemes p op view schemes) = passed (taken nothing)
decl_in (decl.Function t n params body) = passed (taken (in_back _ (join_by spell_param comma params) _ (in_front _ (spell_expr body) _ (expr_in body))))
decl_in (decl.Transform p title q a) = passed (passed (in_back _ (spell_pattern q) _ (in_front _ (spell_expr a) _ (expr_in a))))
decl_in (decl.Productions n rights) = taken (in_front _ (join_by spell_right bar rights) _ (rights_in rights))
decl_in (decl.Precedence g literals place) = passed (in_front _ (flat_map spell_literal literals) _ (literals_in literals))
decl_in d = nothing

-- those of all declarations
joined : (ds : List Decl) → places (flat_map definitions_of ds) ≡ flat_map (λ d. places (definitions_of d)) ds
joined [] = refl
joined (d ∷ ds) = map-append (λ (d : Definition Key). d.place) (definitions_of d) (flat_map definitions_of ds) ∙ ap (λ l. places (definitions_of d) ++ l) (joined ds)

pub definitions_ordered : (ds : List Decl) → SomeOf (map (λ (d : Definition Key). d.place) (flat_map definitions_of ds)) (flat_map places_of ds)
definitions_ordered ds = subst (λ (l : List Position). SomeOf l (flat_map places_of ds)) (sym (joined ds)) (some_of_each (λ d. places (definitions_of d)) places_of decl_in ds)
