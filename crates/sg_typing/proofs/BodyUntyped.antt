-- An expression with a mismatch where it stands has, in the record, no type that is accepted there.
use Rattle.std.proofs.Common.{◌≡◌, refl, sym, ap, subst, ◌∙◌, ℕ, Bool, true, false, List, [], ◌∷◌, ◌++◌, map, append_assoc, Option, Some, None}
use Rattle.std.specs.Prelude.{fold, flat_map}
use Rattle.std.proofs.lemmas.List.{append-nil}
use Rattle.std.proofs.lemmas.List.Elements.{recursion_from_All}
use Rattle.sg_kinds.specs.Values.{Bytes}
use Rattle.sg_kinds.specs.Sound.{HasShapes}
use Rattle.sg_kinds.specs.Specification.{locals_of}
use Rattle.sg_kinds.specs.Typing.{bound_types, is_found, type_of, types_at}
use Rattle.sg_kinds.specs.declared.fault.Position.{Position}
use Rattle.sg_kinds.specs.declared.spec.Local.{Local}
use Rattle.sg_kinds.specs.declared.spec.Spec.{Spec}
use Rattle.sg_ast.specs.Chains.{expr_place}
use Rattle.sg_ast.specs.Declarations.{Equation, Right}
use Rattle.sg_ast.specs.Expressions.{Expr}
use Rattle.sg_ast.specs.FirstFault.{or_else}
use Rattle.sg_ast.specs.Patterns.{Pattern}
use Rattle.sg_ast.specs.Remotes.{remotes_of}
use Rattle.sg_ast.specs.declared.name.Name.{Name}
use Rattle.sg_ast.specs.declared.name.Typed.{Typed}
use Rattle.sg_names.specs.Drafted.{HasTable, drafted}
use Rattle.sg_names.specs.Lookups.{phylum_named}
use Rattle.sg_names.specs.Uses.{InOperator, InProduction, Elsewhere, UsesPhylum, equation_uses, expr_uses, in_function, in_transform, local_scope, params_scope, params_uses, part_uses, pattern_scope, pattern_uses, right_uses, target_uses, with_variable}
use Rattle.sg_names.specs.declared.table.Table.{Table}
use Rattle.sg_names.proofs.DraftedLaws.{bound_kept, type_kept, types_kept}
use Rattle.sg_types.specs.Bindings.{Owner, OfProduction, OfNothing}
use Rattle.sg_types.specs.Expressions.{type_in, mismatch_in, mismatch_at, recorded}
use Rattle.sg_types.specs.Patterns as pattern
use Rattle.sg_types.specs.declared.scope.Variable.{Variable}
use Rattle.sg_typing.specs.Arguments.{args_in}
use Rattle.sg_typing.specs.Bodies.{equation_mismatch, equation_owner, equation_typed, function_mismatch, function_typed, parameter, result_type, right_mismatch, right_typed, target_type, transform_mismatch, transform_typed}
use Rattle.sg_typing.specs.Known.{AreAmong, AreKnown, HasArguments, HasFar, HasFars, SeesVariables, names_of, site_of}
use Rattle.sg_typing.specs.Written.{AreOutside, known}
use Rattle.sg_typing.proofs.BodyTyped.{found_kept}
use Rattle.sg_typing.proofs.ExprsFit.{HasMeaning, expr_fits, found_parts, wanted_none}
use Rattle.sg_typing.proofs.ListsThere.{lists_told}
use Rattle.sg_typing.proofs.NamesMean.{among_one, body_means, known_first, known_parts, pattern_among, pattern_means}
use Rattle.sg_typing.proofs.PatternsFit.{pattern_fits}
use Rattle.sg_typing.proofs.TableFacts.{callables_known, equation_outside, usable_is}

-- a pattern with a mismatch binds nothing
pub pattern_untyped : (t : Table) (spec : Spec) → HasTable t spec → (q : Pattern) (p : ℕ) (scope : List Bytes) → AreKnown t (pattern_uses scope q) → (place : Position) → pattern.mismatch_in t q (Some p) ≡ Some place → bound_types spec (pattern.recorded t q) p ≡ None
pattern_untyped t spec table q p scope k place h = by (bound_types spec (pattern.recorded t q) p) refl
  where
    by : (o : Option (List ℕ)) → bound_types spec (pattern.recorded t q) p ≡ o → o ≡ None
    by None e = refl
    by (Some bs) e =
        let f = pattern_fits t q p bs (pattern_means t scope q k) (sym (bound_kept t spec table (pattern.recorded t q) p) ∙ e) in
        let both : None ≡ Some place = sym f.0 ∙ h in
        cc

module _ (t : Table) (spec : Spec) (table : HasTable t spec) (shapes : HasShapes spec) where
  -- one whose names mean something
  meant_untyped : (w : Owner) (outer : List ℕ) → AreOutside t w outer → (vs : List Variable) (types : List ℕ) → known vs ≡ Some types → (e : Expr) → HasMeaning t w vs e → HasFars t w e
      → (p : ℕ) (place : Position) → mismatch_at t w vs (Some p) e ≡ Some place → is_found spec p (type_of spec (outer ++ types) (recorded t w vs e)) ≡ false
  meant_untyped w outer out vs types k e m fars p place h = by (is_found spec p (type_of spec (outer ++ types) (recorded t w vs e))) refl
    where
      by : (b : Bool) → is_found spec p (type_of spec (outer ++ types) (recorded t w vs e)) ≡ b → b ≡ false
      by false f = refl
      by true f =
          let there : is_found (drafted t) p (type_of (drafted t) (outer ++ types) (recorded t w vs e)) ≡ true = ap (is_found (drafted t) p) (sym (type_kept t spec table (outer ++ types) (recorded t w vs e))) ∙ sym (found_kept t spec table p (type_of spec (outer ++ types) (recorded t w vs e))) ∙ f in
          let q = found_parts t p (type_of (drafted t) (outer ++ types) (recorded t w vs e)) there in
          let x = expr_fits t (usable_is t) (lists_told t spec table shapes) (callables_known t) w outer out vs types e q.0 k m (recursion_from_All (HasFar t w) (remotes_of e) fars) q.1 in
          let both : None ≡ Some place = sym (wanted_none t p q.0 (type_in t w vs e) (expr_place e) (mismatch_in t w vs e) x.0 q.2 x.1) ∙ h in
          cc

  pub body_untyped : (w : Owner) (outer : List ℕ) → AreOutside t w outer → (vs : List Variable) (types : List ℕ) → known vs ≡ Some types → (e : Expr) (scope : List Bytes) → HasArguments t w e → SeesVariables t w vs scope → AreKnown t (expr_uses (site_of w) scope e) → HasFars t w e
      → (p : ℕ) (place : Position) → mismatch_at t w vs (Some p) e ≡ Some place → is_found spec p (type_of spec (outer ++ types) (recorded t w vs e)) ≡ false
  body_untyped w outer out vs types k e scope args sees uses fars p place h = meant_untyped w outer out vs types k e (body_means t w vs scope e args sees uses) fars p place h

-- what is visible in an equation, and in a function
pub locals_among : (scope names ms : List Bytes) → AreAmong scope names → AreAmong (fold with_variable scope ms) (names ++ ms)
locals_among scope names [] h = subst (AreAmong scope) (sym (append-nil names)) h
locals_among scope names (m ∷ ms) h = subst (AreAmong (fold with_variable (with_variable scope m) ms)) (append_assoc names (m ∷ []) ms) (locals_among (with_variable scope m) (names ++ m ∷ []) ms (among_one scope names m h))

pub params_among : (t : Table) (scope names : List Bytes) (params : List Typed) → AreAmong scope names → AreAmong (params_scope scope params) (names ++ names_of (map (parameter t) params))
params_among t scope names [] h = subst (AreAmong scope) (sym (append-nil names)) h
params_among t scope names (x ∷ xs) h =
    subst (AreAmong (params_scope (with_variable scope x.name.text) xs)) (append_assoc names (x.name.text ∷ []) (names_of (map (parameter t) xs)))
    (params_among t (with_variable scope x.name.text) (names ++ x.name.text ∷ []) xs (among_one scope names x.name.text h))

pub none_among : (names : List Bytes) → AreAmong [] names
none_among names n h = cc

nothing_outside : (t : Table) → AreOutside t OfNothing []
nothing_outside t = record { count = refl; references = λ r x h. cc; remotes = λ r x h. cc; locals = λ n x h. cc }

pub equation_untyped : (t : Table) (spec : Spec) → HasTable t spec → HasShapes spec → (op : ℕ) (q : Equation) (types : List ℕ) → AreKnown t (equation_uses (InOperator op) (local_scope t op) q) → HasFars t (equation_owner t op q) q.expr → types_at spec op (args_in t op q.expr) ≡ Some types
    → (p : ℕ) (place : Position) → target_type t op q.target ≡ Some p → equation_mismatch t op q ≡ Some place → is_found spec p (type_of spec types (equation_typed t op q).expr) ≡ false
equation_untyped t spec table shapes op q types k fars at p place wanted h =
    let w = equation_owner t op q in
    let locals = map (λ (l : Local). l.name) (locals_of t.ops op) in
    let uses = (known_parts t (target_uses (InOperator op) (local_scope t op) q.target) (expr_uses (InOperator op) (local_scope t op) q.expr) k).1 in
    let out = equation_outside t op (args_in t op q.expr) types (sym (types_kept t spec table op (args_in t op q.expr)) ∙ at) in
    let sees : SeesVariables t w [] (local_scope t op) = subst (AreAmong (local_scope t op)) (sym (append-nil locals)) (locals_among [] [] locals (none_among [])) in
    let there : mismatch_at t w [] (Some p) q.expr ≡ Some place = subst (λ o. mismatch_at t w [] o q.expr ≡ Some place) wanted h in
    subst (λ G. is_found spec p (type_of spec G (recorded t w [] q.expr)) ≡ false) (append-nil types) (body_untyped t spec table shapes w types out [] [] refl q.expr (local_scope t op) refl sees uses fars p place there)

pub function_untyped : (t : Table) (spec : Spec) → HasTable t spec → HasShapes spec → (of : Name) (params : List Typed) (e : Expr) (types : List ℕ) → AreKnown t (in_function of params e) → known (map (parameter t) params) ≡ Some types
    → (p : ℕ) (place : Position) → phylum_named t of.text ≡ Some p → function_mismatch t of params e ≡ Some place → is_found spec p (type_of spec types (function_typed t params e).expr) ≡ false
function_untyped t spec table shapes of params e types k at p place wanted h =
    let vs = map (parameter t) params in
    let inner = known_first t (UsesPhylum of) (params_uses [] params ++ expr_uses Elsewhere (params_scope [] params) e) k in
    let uses = (known_parts t (params_uses [] params) (expr_uses Elsewhere (params_scope [] params) e) inner.2).1 in
    let there : mismatch_at t OfNothing vs (Some p) e ≡ Some place = subst (λ o. mismatch_at t OfNothing vs o e ≡ Some place) wanted h in
    body_untyped t spec table shapes OfNothing [] (nothing_outside t) vs types at e (params_scope [] params) tt (params_among t [] [] params (none_among [])) uses (λ k d less. tt) p place there

pub transform_untyped : (t : Table) (spec : Spec) → HasTable t spec → HasShapes spec → (n : Name) (q : Pattern) (e : Expr) (types : List ℕ) → AreKnown t (in_transform n q e)
    → (p : ℕ) (place : Position) → phylum_named t n.text ≡ Some p → bound_types spec (pattern.recorded t q) p ≡ Some types → transform_mismatch t n q e ≡ Some place → is_found spec p (type_of spec types (transform_typed t n q e).expr) ≡ false
transform_untyped t spec table shapes n q e types k p place wanted bound h =
    let o = phylum_named t n.text in
    let vs = pattern.variables_of t q o in
    let inner = known_first t (UsesPhylum n) (pattern_uses [] q ++ expr_uses Elsewhere (pattern_scope [] q) e) k in
    let uses = known_parts t (pattern_uses [] q) (expr_uses Elsewhere (pattern_scope [] q) e) inner.2 in
    let m = pattern_means t [] q uses.0 in
    let f = pattern_fits t q p types m (sym (bound_kept t spec table (pattern.recorded t q) p) ∙ bound) in
    let fits : pattern.mismatch_in t q o ≡ None = ap (pattern.mismatch_in t q) wanted ∙ f.0 in
    let types_are : known vs ≡ Some types = ap (λ o. known (pattern.variables_of t q o)) wanted ∙ f.1 in
    let body : mismatch_at t OfNothing vs o e ≡ Some place = subst (λ m. or_else m (mismatch_at t OfNothing vs o e) ≡ Some place) fits h in
    let there : mismatch_at t OfNothing vs (Some p) e ≡ Some place = subst (λ z. mismatch_at t OfNothing vs z e ≡ Some place) wanted body in
    body_untyped t spec table shapes OfNothing [] (nothing_outside t) vs types types_are e (pattern_scope [] q) tt (pattern_among t [] [] q o m (none_among [])) uses.1 (λ k d less. tt) p place there

pub right_untyped : (t : Table) (spec : Spec) → HasTable t spec → HasShapes spec → (n : Name) (r : Right) (types : List ℕ) → AreKnown t (right_uses n.text r) → AreOutside t (OfProduction n.text r.parts) types
    → (p : ℕ) (place : Position) → result_type t n ≡ Some p → right_mismatch t n r ≡ Some place → is_found spec p (type_of spec types (right_typed t n r).expr) ≡ false
right_untyped t spec table shapes n r types k out p place wanted h =
    let w = OfProduction n.text r.parts in
    let uses = (known_parts t (flat_map part_uses r.parts) (expr_uses (InProduction n.text r.parts) [] r.expr) k).1 in
    let there : mismatch_at t w [] (Some p) r.expr ≡ Some place = subst (λ o. mismatch_at t w [] o r.expr ≡ Some place) wanted h in
    subst (λ G. is_found spec p (type_of spec G (recorded t w [] r.expr)) ≡ false) (append-nil types) (body_untyped t spec table shapes w types out [] [] refl r.expr [] tt (none_among []) uses (λ k d less. tt) p place there)
