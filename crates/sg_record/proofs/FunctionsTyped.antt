-- Functions of the record are well typed.
use Rattle.std.proofs.Common.{◌≡◌, ℕ, ◌+◌, true, List, [], ◌∷◌, map, flat_map, Some, None, slice_get, refl, sym, ap, subst, ◌∙◌, arith}
use Rattle.std.specs.Prelude.{option_map, option_and_then, IsTrue}
use Rattle.std.specs.List.{AllByRecursion as Each, All}
use Rattle.std.proofs.lemmas.List.Elements.{All-from_recursion}
use Rattle.sg_kinds.specs.Typing.{is_usable, is_typed}
use Rattle.sg_kinds.specs.declared.spec.Function.{Function}
use Rattle.sg_kinds.specs.declared.spec.Spec.{Spec}
use Rattle.sg_ast.specs.declared.name.Name.{Name}
use Rattle.sg_ast.specs.declared.name.Typed.{Typed}
use Rattle.sg_ast.specs.Declarations.{Decl}
use Rattle.sg_ast.specs.Declarations as decl
use Rattle.sg_names.specs.declared.heads.Head.{Head}
use Rattle.sg_names.specs.declared.table.Table.{Table}
use Rattle.sg_names.specs.Drafted.{HasTable}
use Rattle.sg_names.specs.Heads.{number_in}
use Rattle.sg_names.specs.Lookups.{phylum_named}
use Rattle.sg_names.specs.Names.{phyla_in, signature, function_at}
use Rattle.sg_names.specs.UnknownName.{unknown_at}
use Rattle.sg_names.specs.Uses.{UsesPhylum, Elsewhere, params_uses, params_scope, expr_uses, with_variable}
use Rattle.sg_names.proofs.DraftedLaws.{usable_kept}
use Rattle.sg_names.specs.Names as text_names
use Rattle.sg_remote.specs.Longer.{names_of}
use Rattle.sg_types.specs.Bindings.{OfNothing}
use Rattle.sg_typing.specs.Bodies.{expr_count, exprs_at, exprs_in, parameter, function_typed}
use Rattle.sg_typing.specs.Written.{HasLists, AreOutside, known}
use Rattle.sg_typing.proofs.BodyTyped.{body_kept}
use Rattle.sg_typing.proofs.TableFacts.{usable_is}
use Rattle.sg_record.specs.Record.{each_from, body_at, bodies_in, with_body, with_bodies, recorded_exprs}
use Rattle.sg_record.proofs.Aligned.{StandAt, each_given}
use Rattle.sg_record.proofs.ExprThere.{typed_there}
use Rattle.sg_record.proofs.Known.{AreKnown, IsFine, phylum_known, named_of_usable, phylum_numbered}
use Rattle.sg_record.proofs.Lists.{each_parts, each_weaker}

-- functions by their declarations
abbrev pub made_at : List Head → ℕ → Decl → List Function
made_at phyla k (decl.Function of n params e) = with_body (signature phyla of n params) k ∷ []
made_at phyla k d = []

pub functions_made : (phyla : List Head) (k : ℕ) (ds : List Decl) → with_bodies (each_from body_at k ds) (flat_map (function_at phyla) ds) ≡ each_from (made_at phyla) k ds
functions_made phyla k [] = refl
functions_made phyla k (decl.Function of n params e ∷ ds) = ap (λ (l : List Function). with_body (signature phyla of n params) k ∷ l) (functions_made phyla (k + 1) ds)
functions_made phyla k (d ∷ ds) = functions_made phyla (k + expr_count d) ds

-- expressions outside equations and productions have no bindings before their variables
pub nothing_outside : (t : Table) → AreOutside t OfNothing []
nothing_outside t = record { count = refl; references = λ r x h. absurd (cc h); remotes = λ r x h. absurd (cc h); locals = λ n x h. absurd (cc h) }

module _ (ds : List Decl) (spec : Spec) (kept : HasTable (names_of ds) spec) where
  -- the phylum of a name that is used
  pub used : (n : Name) → unknown_at (names_of ds) (UsesPhylum n) ≡ None → (phylum_named (names_of ds) n.text ≡ Some (number_in (phyla_in ds) n.text)) × (is_usable spec (number_in (phyla_in ds) n.text) ≡ true)
  used n h =
      let p = phylum_known (names_of ds) n h in
      let named = named_of_usable (names_of ds) n.text p.0 p.1 in
      let same = phylum_numbered ds n.text p.0 named in
      (named ∙ ap Some (sym same), ap (is_usable spec) same ∙ usable_kept (names_of ds) spec kept p.0 ∙ usable_is (names_of ds) n.text p.0 p.1)

  params_known : (scope : List (List ℕ)) (params : List Typed) → AreKnown (names_of ds) (params_uses scope params)
      → (known (map (parameter (names_of ds)) params) ≡ Some (map (λ (p : Typed). number_in (phyla_in ds) p.of.text) params)) × Each (λ p. is_usable spec p ≡ true) (map (λ (p : Typed). number_in (phyla_in ds) p.of.text) params)
  params_known scope [] h = (refl, tt)
  params_known scope (p ∷ params) h =
      let u = used p.of h.0 in
      let rest = params_known (with_variable scope p.name.text) params h.1.1 in (
        ap (λ o. option_and_then (λ q. option_map (λ qs. q ∷ qs) (known (map (parameter (names_of ds)) params))) o) u.0
            ∙ ap (option_map (λ qs. number_in (phyla_in ds) p.of.text ∷ qs)) rest.0,
        (u.1, rest.1),
      )

  module _ (lists : HasLists (names_of ds)) (made : spec.exprs ≡ recorded_exprs (names_of ds) ds) where
    function_typed_at : (k : ℕ) (d : Decl) → IsFine (names_of ds) d → StandAt (exprs_in (names_of ds) ds) k (exprs_at (names_of ds) d) → Each (λ (f : Function). is_typed spec f.params f.body f.result ≡ true) (made_at (phyla_in ds) k d)
    function_typed_at k (decl.Function of n params e) fine at =
        let t = names_of ds in
        let uses = each_parts (λ u. unknown_at t u ≡ None) (UsesPhylum of ∷ params_uses [] params) (expr_uses Elsewhere (params_scope [] params) e) fine.0 in
        let params_are = params_known [] params uses.0.1 in
        let there = body_kept t spec kept lists OfNothing [] (nothing_outside t) (map (parameter t) params) (map (λ (p : Typed). number_in (phyla_in ds) p.of.text) params) params_are.0 (phylum_named t of.text) e fine.2 fine.1 in
        let same : number_in (phyla_in ds) of.text ≡ there.0 = phylum_numbered ds of.text there.0 there.1 in
        let place : slice_get (exprs_in t ds) k ≡ Some (function_typed t params e) = let z : k ≡ k + 0 = omega arith in ap (slice_get (exprs_in t ds)) z ∙ at 0 (function_typed t params e) refl in (
          ap (is_typed spec (map (λ (p : Typed). number_in (phyla_in ds) p.of.text) params) k) same
              ∙ typed_there t spec ds made k (function_typed t params e) (map (λ (p : Typed). number_in (phyla_in ds) p.of.text) params) there.0 place there.2,
          tt,
        )
    function_typed_at k d fine at = tt

    -- functions are of their types
    pub functions_typed : spec.functions ≡ with_bodies (bodies_in 0 ds) (names_of ds).functions → Each (IsFine (names_of ds)) ds → All (λ (f : Function). IsTrue (is_typed spec f.params f.body f.result)) spec.functions
    unfolding names_of text_names.names_of
    functions_typed are fine =
        let all = each_given (names_of ds) ds (made_at (phyla_in ds)) (λ (f : Function). is_typed spec f.params f.body f.result ≡ true) (IsFine (names_of ds)) function_typed_at fine in
        All-from_recursion (λ (f : Function). IsTrue (is_typed spec f.params f.body f.result)) spec.functions
        (subst (Each (λ (f : Function). is_typed spec f.params f.body f.result ≡ true)) (sym (are ∙ functions_made (phyla_in ds) 0 ds)) all)

  -- their parameters and results are phyla that may be used
  params_usable_at : (k : ℕ) (d : Decl) → IsFine (names_of ds) d → StandAt (exprs_in (names_of ds) ds) k (exprs_at (names_of ds) d)
      → Each (λ (f : Function). Each (λ p. is_usable spec p ≡ true) (f.result ∷ f.params)) (made_at (phyla_in ds) k d)
  params_usable_at k (decl.Function of n params e) fine at =
      let uses = each_parts (λ u. unknown_at (names_of ds) u ≡ None) (UsesPhylum of ∷ params_uses [] params) (expr_uses Elsewhere (params_scope [] params) e) fine.0 in
      (((used of uses.0.0).1, (params_known [] params uses.0.1).1), tt)
  params_usable_at k d fine at = tt

  pub params_usable : spec.functions ≡ with_bodies (bodies_in 0 ds) (names_of ds).functions → Each (IsFine (names_of ds)) ds → All (λ (f : Function). All (λ p. IsTrue (is_usable spec p)) (f.result ∷ f.params)) spec.functions
  unfolding names_of text_names.names_of
  params_usable are fine =
      let all = each_given (names_of ds) ds (made_at (phyla_in ds)) (λ (f : Function). Each (λ p. is_usable spec p ≡ true) (f.result ∷ f.params)) (IsFine (names_of ds)) params_usable_at fine in
      let there = subst (Each (λ (f : Function). Each (λ p. is_usable spec p ≡ true) (f.result ∷ f.params))) (sym (are ∙ functions_made (phyla_in ds) 0 ds)) all in
      All-from_recursion (λ (f : Function). All (λ p. IsTrue (is_usable spec p)) (f.result ∷ f.params)) spec.functions
      (each_weaker (λ (f : Function). Each (λ p. is_usable spec p ≡ true) (f.result ∷ f.params)) (λ (f : Function). All (λ p. IsTrue (is_usable spec p)) (f.result ∷ f.params)) spec.functions
      (λ f h. All-from_recursion (λ p. IsTrue (is_usable spec p)) (f.result ∷ f.params) h) there)
