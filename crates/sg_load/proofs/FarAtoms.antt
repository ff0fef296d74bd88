-- The references to enclosing nodes of declarations without a fault of names and of types: the longer table has the same
-- ones, and each list is legal.
use Rattle.std.proofs.Common.{◌≡◌, ℕ, Bool, true, false, if◌then◌else◌, List, [], ◌∷◌, ◌++◌, map, Option, Some, None, refl, ap, subst, ◌∙◌}
use Rattle.std.specs.List.{AllByRecursion as Each}
use Rattle.sg_kinds.specs.Values.{Bytes}
use Rattle.sg_kinds.specs.declared.spec.Attr.{Attr}
use Rattle.sg_kinds.specs.declared.spec.Far.{Far}
use Rattle.sg_ast.specs.Declarations.{Decl, Equation, Equations}
use Rattle.sg_ast.specs.Expressions.{Expr, Exprs, Cases, Paren, Single, Binary, Choice, Call, Let, With, NoExpr, AndExpr, NoCase, Default, Case}
use Rattle.sg_ast.specs.Expressions as e
use Rattle.sg_ast.specs.Remotes.{remotes_of, remotes_of_all, remotes_of_cases}
use Rattle.sg_ast.specs.Chains.{expr_place}
use Rattle.sg_ast.specs.declared.name.Name.{Name}
use Rattle.sg_ast.specs.declared.name.Pair.{Pair}
use Rattle.sg_ast.specs.declared.name.Remote.{Remote}
use Rattle.sg_ast.specs.declared.name.Typed.{Typed}
use Rattle.sg_ast.proofs.FirstLaws.{first-none, neither}
use Rattle.sg_names.specs.Lookups.{are_alike, operator_at}
use Rattle.sg_names.specs.More.{with_more}
use Rattle.sg_names.specs.UnknownName.{unknown_at, unknown_name}
use Rattle.sg_names.specs.Uses.{InOperator, Use, UsesPhylum, Encloses, equation_uses, equations_uses, expr_uses, exprs_uses, cases_uses, local_scope, pattern_scope, pattern_uses, target_uses, with_variable, within}
use Rattle.sg_names.specs.declared.table.Table.{Table}
use Rattle.sg_types.specs.Expressions.{type_in, mismatch_in}
use Rattle.sg_types.specs.Types.{unless, fits_where}
use Rattle.sg_typing.specs.Bodies.{equation_mismatch, equation_owner, first_mismatch, mismatch_at_decl, operator, target_type}
use Rattle.sg_remote.specs.Atoms.{atom, atoms, atoms_at, atoms_in, atoms_of, atoms_under}
use Rattle.sg_remote.specs.Lists.{is_among, with_list, lists_from, lists_of}
use Rattle.sg_remote.specs.declared.atoms.Atom.{Atom}
use Rattle.sg_resolve.proofs.ShapeLists.{each_append, each_split, each_unflat}
use Rattle.sg_resolve.proofs.ShapeKnown.{IsKnown, each_known}
use Rattle.sg_load.proofs.AlikeRemotes.{expr_alike}
use Rattle.sg_load.proofs.FarLists.{IsPair, IsLegal, pair_known, list_more, legal}
use Rattle.sg_load.proofs.LongerNames.{operator_same}

-- each pair of the references of an expression whose names mean something
module _ (t : Table) (op : ℕ) where
  abbrev ArePairs : Remote → Type 0
  ArePairs r = Each (IsPair t) r.pairs

  abbrev AreMeant : List Use → Type 0
  AreMeant us = Each (λ u. unknown_at t u ≡ None) us

  pairs_of : (qs : List Pair) → AreMeant (map (Encloses (InOperator op)) qs) → Each (IsPair t) qs
  pairs_of [] h = tt
  pairs_of (q ∷ qs) h = (pair_known t op q h.0, pairs_of qs h.1)

  split : (us vs : List Use) → AreMeant (us ++ vs) → AreMeant us × AreMeant vs
  split us vs h = each_split (λ u. unknown_at t u ≡ None) us vs h

  both : (xs ys : List Remote) → Each ArePairs xs → Each ArePairs ys → Each ArePairs (xs ++ ys)
  both xs ys a b = each_append ArePairs xs ys a b

  mutual
    expr_pairs : (scope : List Bytes) (x : Expr) → AreMeant (expr_uses (InOperator op) scope x) → Each ArePairs (remotes_of x)
    expr_pairs scope (e.Remote r) h = (pairs_of r.pairs h, tt)
    expr_pairs scope (Paren a place) h = expr_pairs scope a h
    expr_pairs scope (Single f a place) h = expr_pairs scope a h
    expr_pairs scope (Binary s a b) h =
        let p = split (expr_uses (InOperator op) scope a) (expr_uses (InOperator op) scope b) h in
        both (remotes_of a) (remotes_of b) (expr_pairs scope a p.0) (expr_pairs scope b p.1)
    expr_pairs scope (Choice a b c) h =
        let p = split (expr_uses (InOperator op) scope a) (expr_uses (InOperator op) scope b ++ expr_uses (InOperator op) scope c) h in
        let q = split (expr_uses (InOperator op) scope b) (expr_uses (InOperator op) scope c) p.1 in
        both (remotes_of a ++ remotes_of b) (remotes_of c) (both (remotes_of a) (remotes_of b) (expr_pairs scope a p.0) (expr_pairs scope b q.0)) (expr_pairs scope c q.1)
    expr_pairs scope (Call n es) h = exprs_pairs scope es h.1
    expr_pairs scope (Let n a b place) h =
        let p = split (expr_uses (InOperator op) scope a) (expr_uses (InOperator op) (with_variable scope n.text) b) h.1 in
        both (remotes_of a) (remotes_of b) (expr_pairs scope a p.0) (expr_pairs (with_variable scope n.text) b p.1)
    expr_pairs scope (With a q b cs place) h =
        let p = split (expr_uses (InOperator op) scope a) (pattern_uses scope q ++ (expr_uses (InOperator op) (pattern_scope scope q) b ++ cases_uses (InOperator op) scope cs)) h in
        let r = split (pattern_uses scope q) (expr_uses (InOperator op) (pattern_scope scope q) b ++ cases_uses (InOperator op) scope cs) p.1 in
        let s = split (expr_uses (InOperator op) (pattern_scope scope q) b) (cases_uses (InOperator op) scope cs) r.1 in
        both (remotes_of a ++ remotes_of b) (remotes_of_cases cs) (both (remotes_of a) (remotes_of b) (expr_pairs scope a p.0) (expr_pairs (pattern_scope scope q) b s.0)) (cases_pairs scope cs s.1)
    expr_pairs scope x h = tt

    exprs_pairs : (scope : List Bytes) (es : Exprs) → AreMeant (exprs_uses (InOperator op) scope es) → Each ArePairs (remotes_of_all es)
    exprs_pairs scope NoExpr h = tt
    exprs_pairs scope (AndExpr x es) h =
        let p = split (expr_uses (InOperator op) scope x) (exprs_uses (InOperator op) scope es) h in
        both (remotes_of x) (remotes_of_all es) (expr_pairs scope x p.0) (exprs_pairs scope es p.1)

    cases_pairs : (scope : List Bytes) (cs : Cases) → AreMeant (cases_uses (InOperator op) scope cs) → Each ArePairs (remotes_of_cases cs)
    cases_pairs scope NoCase h = tt
    cases_pairs scope (Default x) h = expr_pairs scope x h
    cases_pairs scope (Case q x cs) h =
        let p = split (pattern_uses scope q) (expr_uses (InOperator op) (pattern_scope scope q) x ++ cases_uses (InOperator op) scope cs) h in
        let r = split (expr_uses (InOperator op) (pattern_scope scope q) x) (cases_uses (InOperator op) scope cs) p.1 in
        both (remotes_of x) (remotes_of_cases cs) (expr_pairs (pattern_scope scope q) x r.0) (cases_pairs scope cs r.1)

  -- of equations
  equations_pairs : (scope : List Bytes) (es : List Equation) → Each (λ (q : Equation). AreMeant (equation_uses (InOperator op) scope q)) es → Each (λ (q : Equation). Each ArePairs (remotes_of q.expr)) es
  equations_pairs scope [] h = tt
  equations_pairs scope (q ∷ es) h =
      (expr_pairs scope q.expr (split (target_uses (InOperator op) scope q.target) (expr_uses (InOperator op) scope q.expr) h.0).1, equations_pairs scope es h.1)

  pub under_pairs : (es : List Equation) → AreMeant (equations_uses t es op) → Each (λ (q : Equation). Each ArePairs (remotes_of q.expr)) es
  under_pairs es h = equations_pairs (local_scope t op) es (each_unflat (λ u. unknown_at t u ≡ None) (equation_uses (InOperator op) (local_scope t op)) es h)

-- each list of them is of one type
equations_alike : (t : Table) (op : ℕ) (es : List Equation) → Each (λ (q : Equation). equation_mismatch t op q ≡ None) es → Each (λ (q : Equation). Each (λ r. are_alike t r ≡ true) (remotes_of q.expr)) es
equations_alike t op [] h = tt
equations_alike t op (q ∷ es) h =
    let w = equation_owner t op q in
    let inside = neither (unless (fits_where t (target_type t op q.target) (type_in t w [] q.expr)) (expr_place q.expr)) (mismatch_in t w [] q.expr) h.0 in
    (expr_alike t w [] q.expr inside.1, equations_alike t op es h.1)

module _ (t : Table) (more : ℕ → List Attr) where
  same_in : (op : ℕ) (rs : List Remote) → Each (λ (r : Remote). Each (IsPair t) r.pairs) rs → map (atom (with_more t more) op) rs ≡ map (atom t op) rs
  same_in op [] all = refl
  same_in op (r ∷ rs) all = λ i. record { op = op; list = list_more t more r.pairs all.0 i; place = r.place } ∷ same_in op rs all.1 i

  legal_in : (op : ℕ) (rs : List Remote) → Each (λ (r : Remote). Each (IsPair t) r.pairs) rs → Each (λ r. are_alike (with_more t more) r ≡ true) rs → Each (λ (a : Atom). IsLegal t a.list) (map (atom t op) rs)
  legal_in op [] all alike = tt
  legal_in op (r ∷ rs) all alike = (legal t more r all.0 alike.0, legal_in op rs all.1 alike.1)

  same_of : (op : ℕ) (es : List Equation) → Each (λ (q : Equation). Each (λ (r : Remote). Each (IsPair t) r.pairs) (remotes_of q.expr)) es → atoms_of (with_more t more) op es ≡ atoms_of t op es
  same_of op [] all = refl
  same_of op (q ∷ es) all = λ i. same_in op (remotes_of q.expr) all.0 i ++ same_of op es all.1 i

  legal_of : (op : ℕ) (es : List Equation) → Each (λ (q : Equation). Each (λ (r : Remote). Each (IsPair t) r.pairs) (remotes_of q.expr)) es
      → Each (λ (q : Equation). Each (λ r. are_alike (with_more t more) r ≡ true) (remotes_of q.expr)) es → Each (λ (a : Atom). IsLegal t a.list) (atoms_of t op es)
  legal_of op [] all alike = tt
  legal_of op (q ∷ es) all alike =
      each_append (λ (a : Atom). IsLegal t a.list) (atoms_in t op q.expr) (atoms_of t op es) (legal_in op (remotes_of q.expr) all.0 alike.0) (legal_of op es all.1 alike.1)

  -- of a declaration
  known_under : (n op : Name) (locals : List Typed) (es : List Equation) (k : ℕ) → operator_at t n op ≡ Some k → IsKnown t (Equations n op locals es) → Each (λ u. unknown_at t u ≡ None) (equations_uses t es k)
  known_under n op locals es k e known =
      subst (λ (o : Option ℕ). Each (λ u. unknown_at t u ≡ None) (within (equations_uses t es) o)) e
      (each_split (λ u. unknown_at t u ≡ None) (map (λ (x : Typed). UsesPhylum x.of) locals) (within (equations_uses t es) (operator_at t n op)) known.1).1

  decl_same : (d : Decl) → IsKnown t d → atoms_at (with_more t more) d ≡ atoms_at t d
  decl_same (Equations n op locals es) known = ap (atoms_under (with_more t more) es) (operator_same t more n op) ∙ by (operator_at t n op) refl
    where
      by : (o : Option ℕ) → operator_at t n op ≡ o → atoms_under (with_more t more) es o ≡ atoms_under t es o
      by None e = refl
      by (Some k) e = same_of k es (under_pairs t k es (known_under n op locals es k e known))
  decl_same d known = refl

  decl_legal : (d : Decl) → IsKnown t d → mismatch_at_decl (with_more t more) d ≡ None → Each (λ (a : Atom). IsLegal t a.list) (atoms_at t d)
  decl_legal (Equations n op locals es) known fits = by (operator_at t n op) refl
    where
      alike : Each (λ (q : Equation). Each (λ r. are_alike (with_more t more) r ≡ true) (remotes_of q.expr)) es
      alike = equations_alike (with_more t more) (operator (with_more t more) n op) es (first-none (equation_mismatch (with_more t more) (operator (with_more t more) n op)) es fits)

      by : (o : Option ℕ) → operator_at t n op ≡ o → Each (λ (a : Atom). IsLegal t a.list) (atoms_under t es o)
      by None e = tt
      by (Some k) e = legal_of k es (under_pairs t k es (known_under n op locals es k e known)) alike
  decl_legal d known fits = tt

  decls_same : (ds : List Decl) → Each (IsKnown t) ds → atoms (with_more t more) ds ≡ atoms t ds
  decls_same [] known = refl
  decls_same (d ∷ ds) known = λ i. decl_same d known.0 i ++ decls_same ds known.1 i

  decls_legal : (ds : List Decl) → Each (IsKnown t) ds → Each (λ d. mismatch_at_decl (with_more t more) d ≡ None) ds → Each (λ (a : Atom). IsLegal t a.list) (atoms t ds)
  decls_legal [] known fits = tt
  decls_legal (d ∷ ds) known fits = each_append (λ (a : Atom). IsLegal t a.list) (atoms_at t d) (atoms t ds) (decl_legal d known.0 fits.0) (decls_legal ds known.1 fits.1)

  -- of declarations
  pub atoms_same : (ds : List Decl) → unknown_name t ds ≡ None → atoms (with_more t more) ds ≡ atoms t ds
  atoms_same ds known = decls_same ds (each_known t ds known)

  pub atoms_legal : (ds : List Decl) → unknown_name t ds ≡ None → first_mismatch (with_more t more) ds ≡ None → Each (λ (a : Atom). IsLegal t a.list) (atoms t ds)
  atoms_legal ds known fits = decls_legal ds (each_known t ds known) (first-none (mismatch_at_decl (with_more t more)) ds fits)

-- what holds of the references' lists holds of the different ones
pub lists_each : (P : List Far → Type 0) (rs : List Atom) → Each (λ (a : Atom). P a.list) rs → Each P (lists_of rs)
lists_each P rs all = from [] rs tt all
  where
    from : (fss : List (List Far)) (rs : List Atom) → Each P fss → Each (λ (a : Atom). P a.list) rs → Each P (lists_from fss rs)
    from fss [] so_far all = so_far
    from fss (a ∷ rs) so_far all = from (with_list fss a.list) rs (by (is_among fss a.list)) all.1
      where
        by : (b : Bool) → Each P (if b then fss else fss ++ a.list ∷ [])
        by true = so_far
        by false = each_append P fss (a.list ∷ []) so_far (all.0, tt)
