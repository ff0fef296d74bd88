-- Transformations of the record are well typed.
use Rattle.std.proofs.Common.{◌≡◌, ℕ, ◌+◌, true, List, [], ◌∷◌, ◌++◌, Option, Some, None, slice_get, refl, sym, ap, subst, ◌∙◌, arith}
use Rattle.std.specs.Prelude.{option_map, option_and_then, unwrap_or, IsTrue, MatchOption}
use Rattle.std.specs.List.{AllByRecursion as Each, All}
use Rattle.std.proofs.lemmas.List.Elements.{All-from_recursion}
use Rattle.sg_kinds.specs.Typing.{bound_types, type_of, is_found, is_usable, is_typed}
use Rattle.sg_kinds.specs.declared.spec.Transform.{Transform}
use Rattle.sg_kinds.specs.declared.spec.Spec.{Spec}
use Rattle.sg_ast.specs.declared.name.Name.{Name}
use Rattle.sg_ast.specs.declared.name.Quoted.{Quoted}
use Rattle.sg_ast.specs.Declarations.{Decl}
use Rattle.sg_ast.specs.Declarations as decl
use Rattle.sg_ast.specs.Expressions.{Expr}
use Rattle.sg_ast.specs.Patterns.{Pattern, Patterns, Amount, Chars, Truth, Anything, Variable, MadeAs, Applied, NoPattern, AndPattern}
use Rattle.sg_ast.specs.Written.{IsWritten}
use Rattle.sg_ast.proofs.FirstLaws.{neither}
use Rattle.sg_names.specs.declared.table.Table.{Table}
use Rattle.sg_names.specs.Drafted.{HasTable}
use Rattle.sg_names.specs.Lookups.{phylum_named, usable_named}
use Rattle.sg_names.specs.Names.{op_named}
use Rattle.sg_names.proofs.DraftedLaws.{bound_kept, usable_kept}
use Rattle.sg_types.specs.Bindings.{OfNothing}
use Rattle.sg_types.specs.Expressions.{mismatch_at}
use Rattle.sg_types.specs.Expressions as expr
use Rattle.sg_types.specs.Patterns.{parts_of, mismatch_in, variables_of, variables_of_all, recorded}
use Rattle.sg_typing.specs.Bodies.{exprs_at, exprs_in, transform_typed, transform_mismatch}
use Rattle.sg_typing.specs.Written.{HasLists, known}
use Rattle.sg_typing.proofs.BodyTyped.{body_kept}
use Rattle.sg_typing.proofs.Kept.{pattern_kept}
use Rattle.sg_typing.proofs.RecordTyped.{known-append}
use Rattle.sg_typing.proofs.TableFacts.{usable_is}
use Rattle.sg_record.specs.Record.{phylum_in, transforms_at, transforms_in, recorded_exprs}
use Rattle.sg_record.proofs.Aligned.{StandAt, each_given}
use Rattle.sg_record.proofs.ExprThere.{typed_there}
use Rattle.sg_record.proofs.FunctionsTyped.{nothing_outside}
use Rattle.sg_record.proofs.Known.{IsFine, phylum_known, named_of_usable}

-- the variables of a pattern where a type is wanted have types
mutual
  variables_typed : (t : Table) (q : Pattern) (p : ℕ) → (G : List ℕ) × (known (variables_of t q (Some p)) ≡ Some G)
  variables_typed t (Amount negative n place) p = ([], refl)
  variables_typed t (Chars s) p = ([], refl)
  variables_typed t (Truth b place) p = ([], refl)
  variables_typed t (Anything place) p = ([], refl)
  variables_typed t (Variable n) p = (p ∷ [], refl)
  variables_typed t (MadeAs made n place) p = ([], refl)
  variables_typed t (Applied n xs) p = all_typed t xs (parts_of t (op_named t.ops n.text))

  all_typed : (t : Table) (xs : Patterns) (ps : List ℕ) → (G : List ℕ) × (known (variables_of_all t xs ps) ≡ Some G)
  all_typed t NoPattern ps = ([], refl)
  all_typed t (AndPattern x xs) [] = ([], refl)
  all_typed t (AndPattern x xs) (p ∷ ps) =
      let v = variables_typed t x p in
      let w = all_typed t xs ps in (
        v.0 ++ w.0,
        known-append (variables_of t x (Some p)) (variables_of_all t xs ps)
            ∙ ap (option_and_then (λ gs. option_map (λ hs. gs ++ hs) (known (variables_of_all t xs ps)))) v.1 ∙ ap (option_map (λ hs. v.0 ++ hs)) w.1,
      )

module _ (t : Table) (spec : Spec) (kept : HasTable t spec) where
  -- what is asked of a transformation
  abbrev IsTypedTransform : Transform → Type 0
  IsTypedTransform x = MatchOption (bound_types spec x.pattern x.phylum) ⊥ (λ G. IsTrue (is_typed spec G x.expr x.phylum))

  module _ (ds : List Decl) (lists : HasLists t) (made : spec.exprs ≡ recorded_exprs t ds) where
    transform_there : (k p : ℕ) (n : Name) (title : Quoted) (q : Pattern) (e : Expr) → usable_named t n.text ≡ Some p → transform_mismatch t n q e ≡ None → IsWritten (decl.Transform n title q e)
        → slice_get (exprs_in t ds) k ≡ Some (transform_typed t n q e) → MatchOption (bound_types spec (recorded t q) p) ⊥ (λ G. IsTrue (is_typed spec G k p))
    transform_there k p n title q e usable h written at =
        let named = named_of_usable t n.text p usable in
        let parts = neither (mismatch_in t q (phylum_named t n.text)) (mismatch_at t OfNothing (variables_of t q (phylum_named t n.text)) (phylum_named t n.text) e) h in
        let fits : mismatch_in t q (Some p) ≡ None = ap (mismatch_in t q) (sym named) ∙ parts.0 in
        let matches : mismatch_at t OfNothing (variables_of t q (Some p)) (phylum_named t n.text) e ≡ None = ap (λ o. mismatch_at t OfNothing (variables_of t q o) (phylum_named t n.text) e) (sym named) ∙ parts.1 in
        let vs = variables_typed t q p in
        let bound : bound_types spec (recorded t q) p ≡ Some vs.0 = bound_kept t spec kept (recorded t q) p ∙ pattern_kept t q p written.0 fits ∙ vs.1 in
        let there = body_kept t spec kept lists OfNothing [] (nothing_outside t) (variables_of t q (Some p)) vs.0 vs.1 (phylum_named t n.text) e written.1 matches in
        let same : p ≡ there.0 = cc (named, there.1) in
        let found : is_found spec there.0 (type_of spec vs.0 (transform_typed t n q e).expr) ≡ true = ap (λ o. is_found spec there.0 (type_of spec vs.0 (expr.recorded t OfNothing (variables_of t q o) e))) named ∙ there.2 in
        let typed : is_typed spec vs.0 k p ≡ true = ap (is_typed spec vs.0 k) same ∙ typed_there t spec ds made k (transform_typed t n q e) vs.0 there.0 at found in
        subst (λ (o : Option (List ℕ)). MatchOption o ⊥ (λ G. IsTrue (is_typed spec G k p))) (sym bound) typed

    transform_typed_at : (k : ℕ) (d : Decl) → IsFine t d → StandAt (exprs_in t ds) k (exprs_at t d) → Each IsTypedTransform (transforms_at t k d)
    transform_typed_at k (decl.Transform n title q e) fine at =
        let p = phylum_known t n fine.0.0 in
        let same : phylum_in t n.text ≡ p.0 = ap (λ o. unwrap_or o 0) p.1 in
        let z : k ≡ k + 0 = omega arith in
        let place : slice_get (exprs_in t ds) k ≡ Some (transform_typed t n q e) = ap (slice_get (exprs_in t ds)) z ∙ at 0 (transform_typed t n q e) refl in
        (subst (λ m. MatchOption (bound_types spec (recorded t q) m) ⊥ (λ G. IsTrue (is_typed spec G k m))) (sym same) (transform_there k p.0 n title q e p.1 fine.1 fine.2 place), tt)
    transform_typed_at k d fine at = tt

    -- transformations are of their phyla
    pub transforms_typed : spec.transforms ≡ transforms_in t 0 ds → Each (IsFine t) ds → All IsTypedTransform spec.transforms
    transforms_typed are fine =
        All-from_recursion IsTypedTransform spec.transforms
        (subst (Each IsTypedTransform) (sym are) (each_given t ds (transforms_at t) IsTypedTransform (IsFine t) transform_typed_at fine))

  -- their phyla may be used
  abbrev IsOfUsable : Transform → Type 0
  IsOfUsable x = IsTrue (is_usable spec x.phylum)

  phyla_usable_at : (k : ℕ) (d : Decl) → IsFine t d → Each IsOfUsable (transforms_at t k d)
  phyla_usable_at k (decl.Transform n title q e) fine =
      let p = phylum_known t n fine.0.0 in
      let same : phylum_in t n.text ≡ p.0 = ap (λ o. unwrap_or o 0) p.1 in
      (ap (is_usable spec) same ∙ usable_kept t spec kept p.0 ∙ usable_is t n.text p.0 p.1, tt)
  phyla_usable_at k d fine = tt

  pub phyla_usable : (ds : List Decl) → spec.transforms ≡ transforms_in t 0 ds → Each (IsFine t) ds → All IsOfUsable spec.transforms
  phyla_usable ds are fine =
      All-from_recursion IsOfUsable spec.transforms
      (subst (Each IsOfUsable) (sym are) (each_given t ds (transforms_at t) IsOfUsable (IsFine t) (λ k d f at. phyla_usable_at k d f) fine))
