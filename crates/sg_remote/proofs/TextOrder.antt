-- References to enclosing nodes stand in the order of the text, and the first bare one before all others.
use Rattle.std.proofs.Common.{◌≡◌, ℕ, zero, suc, ◌+◌, ◌≤◌, inl, inr, List, [], ◌∷◌, ◌++◌, map, Option, Some, None, slice_get, refl, sym, ap, ◌∙◌, subst, arith, append_assoc}
use Rattle.std.specs.Prelude.{flat_map}
use Rattle.std.proofs.lemmas.Bool.{cases_lt}
use Rattle.std.proofs.lemmas.List.{map-append}
use Rattle.sg_kinds.specs.declared.fault.Position.{Position}
use Rattle.sg_kinds.specs.declared.fault.SpecFault.TheVariants as fault
use Rattle.sg_ast.specs.declared.name.Remote.{Remote as Reference}
use Rattle.sg_ast.specs.Declarations.{Decl, Equation, Equations}
use Rattle.sg_ast.specs.Expressions.{Expr, Exprs, Cases, Remote, Paren, Single, Binary, Choice, Call, Let, With, NoExpr, AndExpr, NoCase, Default, Case}
use Rattle.sg_ast.specs.Remotes.{remotes_of, remotes_of_all, remotes_of_cases}
use Rattle.sg_ast.specs.Rising.{kept_places, places_of, RiseFrom, SomeOf, nothing, passed, taken}
use Rattle.sg_ast.specs.Spelling.{Piece, spell_local, spell_pattern, spell_expr, spell_exprs, spell_more_exprs, spell_cases, spell_target, spell_equation}
use Rattle.sg_ast.proofs.RisingLaws.{some_of_each, some_rise, in_front, in_back, in_both}
use Rattle.sg_names.specs.Lookups.{operator_at}
use Rattle.sg_names.specs.declared.table.Table.{Table}
use Rattle.sg_remote.specs.Atoms.{atom, atoms_in, atoms_of, atoms_under, atoms_at, atoms}
use Rattle.sg_remote.specs.NoEnclosing.{IsNoEnclosing, all_enclosed, some_bare, IsFirstBare}
use Rattle.sg_remote.specs.declared.atoms.Atom.{Atom}

abbrev braces : List Reference → List Position
braces rs = map (λ (r : Reference). r.place) rs

abbrev places : List Atom → List Position
places rs = map (λ (a : Atom). a.place) rs

both : (rs ss : List Reference) (ps qs : List Piece) → SomeOf (braces rs) (kept_places ps) → SomeOf (braces ss) (kept_places qs) → SomeOf (braces (rs ++ ss)) (kept_places (ps ++ qs))
both rs ss ps qs s t = subst (λ (l : List Position). SomeOf l (kept_places (ps ++ qs))) (sym (map-append (λ (r : Reference). r.place) rs ss)) (in_both (braces rs) (braces ss) ps qs s t)

-- the references of three parts
three : (rs ss us : List Reference) (ps : List Position) → SomeOf (braces (rs ++ (ss ++ us))) ps → SomeOf (braces (rs ++ ss ++ us)) ps
three rs ss us ps s = subst (λ (l : List Reference). SomeOf (braces l) ps) (sym (append_assoc rs ss us)) s

mutual
  expr_in : (e : Expr) → SomeOf (braces (remotes_of e)) (kept_places (spell_expr e))
  expr_in (Remote r) = taken nothing
  expr_in (Paren a place) = passed (in_front (braces (remotes_of a)) (spell_expr a) _ (expr_in a))
  expr_in (Single f a place) = passed (expr_in a)
  expr_in (Binary s a b) = both (remotes_of a) (remotes_of b) (spell_expr a) _ (expr_in a) (expr_in b)
  expr_in (Choice a b c) = three (remotes_of a) (remotes_of b) (remotes_of c) _ (both (remotes_of a) (remotes_of b ++ remotes_of c) (spell_expr a) _ (expr_in a) (both (remotes_of b) (remotes_of c) (spell_expr b) _ (expr_in b) (expr_in c)))
  expr_in (Call n es) = passed (in_front (braces (remotes_of_all es)) (spell_exprs es) _ (exprs_in es))
  expr_in (Let n a b place) = passed (passed (both (remotes_of a) (remotes_of b) (spell_expr a) _ (expr_in a) (in_front (braces (remotes_of b)) (spell_expr b) _ (expr_in b))))
  expr_in (With a q b cs place) =
      passed (three (remotes_of a) (remotes_of b) (remotes_of_cases cs) _ (both (remotes_of a) (remotes_of b ++ remotes_of_cases cs) (spell_expr a) _ (expr_in a)
      (in_back (braces (remotes_of b ++ remotes_of_cases cs)) (spell_pattern q) _ (both (remotes_of b) (remotes_of_cases cs) (spell_expr b) _ (expr_in b) (in_front (braces (remotes_of_cases cs)) (spell_cases cs) _ (cases_in cs))))))
  expr_in e = nothing

  exprs_in : (es : Exprs) → SomeOf (braces (remotes_of_all es)) (kept_places (spell_exprs es))
  exprs_in NoExpr = nothing
  exprs_in (AndExpr e es) = both (remotes_of e) (remotes_of_all es) (spell_expr e) (spell_more_exprs es) (expr_in e) (more_in es)

  more_in : (es : Exprs) → SomeOf (braces (remotes_of_all es)) (kept_places (spell_more_exprs es))
  more_in NoExpr = nothing
  more_in (AndExpr e es) = both (remotes_of e) (remotes_of_all es) (spell_expr e) (spell_more_exprs es) (expr_in e) (more_in es)

  cases_in : (cs : Cases) → SomeOf (braces (remotes_of_cases cs)) (kept_places (spell_cases cs))
  cases_in NoCase = nothing
  cases_in (Default e) = expr_in e
  cases_in (Case q e cs) = in_back (braces (remotes_of e ++ remotes_of_cases cs)) (spell_pattern q) _ (both (remotes_of e) (remotes_of_cases cs) (spell_expr e) (spell_cases cs) (expr_in e) (cases_in cs))

module _ (t : Table) where
  seen : (op : ℕ) (rs : List Reference) → places (map (atom t op) rs) ≡ braces rs
  seen op [] = refl
  seen op (r ∷ rs) = ap (λ l. r.place ∷ l) (seen op rs)

  equation_in : (op : ℕ) (q : Equation) → SomeOf (places (atoms_in t op q.expr)) (kept_places (spell_equation q))
  equation_in op q =
      subst (λ (l : List Position). SomeOf l (kept_places (spell_equation q))) (sym (seen op (remotes_of q.expr)))
      (in_back (braces (remotes_of q.expr)) (spell_target q.target) _ (in_front (braces (remotes_of q.expr)) (spell_expr q.expr) _ (expr_in q.expr)))

  equations_in : (op : ℕ) (qs : List Equation) → SomeOf (places (atoms_of t op qs)) (kept_places (flat_map spell_equation qs))
  equations_in op [] = nothing
  equations_in op (q ∷ qs) =
      subst (λ (l : List Position). SomeOf l (kept_places (spell_equation q ++ flat_map spell_equation qs))) (sym (map-append (λ (a : Atom). a.place) (atoms_in t op q.expr) (atoms_of t op qs)))
      (in_both (places (atoms_in t op q.expr)) (places (atoms_of t op qs)) (spell_equation q) (flat_map spell_equation qs) (equation_in op q) (equations_in op qs))

  under_in : (qs : List Equation) (o : Option ℕ) → SomeOf (places (atoms_under t qs o)) (kept_places (flat_map spell_equation qs))
  under_in qs None = nothing
  under_in qs (Some op) = equations_in op qs

  decl_in : (d : Decl) → SomeOf (places (atoms_at t d)) (places_of d)
  decl_in (Equations p op locals qs) =
      passed (passed (in_back _ (flat_map spell_local locals) _ (in_front _ (flat_map spell_equation qs) _ (under_in qs (operator_at t p op)))))
  decl_in d = nothing

  joined : (ds : List Decl) → places (atoms t ds) ≡ flat_map (λ d. places (atoms_at t d)) ds
  joined [] = refl
  joined (d ∷ ds) = map-append (λ (a : Atom). a.place) (atoms_at t d) (atoms t ds) ∙ ap (λ l. places (atoms_at t d) ++ l) (joined ds)

  pub atoms_ordered : (ds : List Decl) → SomeOf (places (atoms t ds)) (flat_map places_of ds)
  atoms_ordered ds = subst (λ (l : List Position). SomeOf l (flat_map places_of ds)) (sym (joined ds)) (some_of_each (λ d. places (atoms_at t d)) places_of decl_in ds)

-- where places rise, none stands before the first
least_place : (k j : ℕ) (rs : List Atom) (a : Atom) → RiseFrom k (places rs) → slice_get rs j ≡ Some a → k ≤ a.place.token
least_place k j [] a h there = absurd (cc there)
least_place k zero (r ∷ rs) a h there = let e : r ≡ a = cc there in omega (arith, h.0, ap (λ (x : Atom). x.place.token) e)
least_place k (suc j) (r ∷ rs) a h there = let more = least_place (r.place.token + 1) j rs a h.1 there in omega (arith, h.0, more)

not_before : (k i j : ℕ) (rs : List Atom) (a b : Atom) → RiseFrom k (places rs) → i ≤ j → slice_get rs i ≡ Some a → slice_get rs j ≡ Some b → a.place.token ≤ b.place.token
not_before k i j [] a b h less here there = absurd (cc there)
not_before k zero j (r ∷ rs) a b h less here there =
    let e : r ≡ a = cc here in
    let from : RiseFrom r.place.token (places (r ∷ rs)) = (omega arith, h.1) in
    let low = least_place r.place.token j (r ∷ rs) b from there in
    omega (arith, ap (λ (x : Atom). x.place.token) e, low)
not_before k (suc i) zero (r ∷ rs) a b h less here there = absurd (omega (arith, less))
not_before k (suc i) (suc j) (r ∷ rs) a b h less here there = not_before (r.place.token + 1) i j rs a b h.1 (omega (arith, less)) here there

pub first_in_text : (ds : List Decl) → RiseFrom 0 (flat_map places_of ds) → (t : Table) (p : Position) → IsNoEnclosing t ds (Some (fault.NoEnclosing p)) → IsFirstBare t ds p
first_in_text ds rise t p (all_enclosed none is) = absurd (cc is)
first_in_text ds rise t p (some_bare k a at bare before is) = λ j b there other. elim (cases_lt j k) [
  | inl less ↦ absurd (before j b less there other)
  | inr ge ↦
      let same : a.place ≡ p = cc is in
      let low = not_before 0 k j (atoms t ds) a b (some_rise 0 (atoms_ordered t ds) rise) ge at there in
      omega (arith, low, ap (λ (x : Position). x.token) same)
]
