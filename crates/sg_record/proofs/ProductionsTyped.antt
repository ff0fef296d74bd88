-- Input productions of the record are well typed.
use Rattle.std.proofs.Common.{◌≡◌, ℕ, suc, ◌+◌, Bool, true, false, List, [], ◌∷◌, map, flat_map, Option, Some, None, slice_get, nat_eq, if◌then◌else◌, refl, sym, ap, subst, ◌∙◌, arith, append-nil}
use Rattle.std.specs.Prelude.{unwrap_or, IsTrue, MatchOption}
use Rattle.std.specs.List.{AllByRecursion as Each, All}
use Rattle.std.proofs.lemmas.List.Elements.{All-from_recursion}
use Rattle.sg_kinds.specs.Values.{Bytes}
use Rattle.sg_kinds.specs.Sound.{HasShapes, result_type, symbol_types}
use Rattle.sg_kinds.specs.Typing.{type_of, is_found, is_usable, is_typed}
use Rattle.sg_kinds.specs.declared.spec.Attr.{Attr}
use Rattle.sg_kinds.specs.declared.spec.Production.{Production}
use Rattle.sg_kinds.specs.declared.spec.Spec.{Spec}
use Rattle.sg_ast.specs.declared.decl.AttrDecl.{AttrDecl}
use Rattle.sg_ast.specs.declared.name.Name.{Name}
use Rattle.sg_ast.specs.Declarations.{Decl, Right, Attributes, Productions}
use Rattle.sg_ast.proofs.FirstLaws.{first-none}
use Rattle.sg_ast.specs.Written.{AreWritten, IsWritten}
use Rattle.sg_names.specs.declared.heads.Head.{Head}
use Rattle.sg_names.specs.declared.table.Nonterminal.{Nonterminal}
use Rattle.sg_names.specs.Drafted.{HasTable}
use Rattle.sg_names.specs.Heads.{number_in}
use Rattle.sg_names.specs.Lookups.{nonterminal_named, symbol_attrs}
use Rattle.sg_names.specs.Names.{map_from, owned, attribute, attributes_at, attributes_in, nonterminal, nonterminals_in, attributes_of, phyla_in}
use Rattle.sg_names.specs.Shapes.{result_count}
use Rattle.sg_names.specs.UnknownName.{unknown_at}
use Rattle.sg_names.specs.Uses.{UsesPhylum, InProduction, right_uses, part_uses, expr_uses}
use Rattle.sg_names.specs.Names as text_names
use Rattle.sg_remote.specs.Longer.{names_of}
use Rattle.sg_types.specs.Bindings.{OfProduction}
use Rattle.sg_types.specs.Expressions.{recorded}
use Rattle.sg_typing.specs.Bodies as body
use Rattle.sg_typing.specs.Bodies.{exprs_at, exprs_in, right_typed, right_mismatch}
use Rattle.sg_typing.specs.Written.{HasLists}
use Rattle.sg_typing.proofs.BodyTyped.{body_kept}
use Rattle.sg_record.specs.Record.{production, productions_at, productions_in, recorded_exprs}
use Rattle.sg_record.proofs.Aligned.{StandAt, each_given}
use Rattle.sg_record.proofs.ExprThere.{typed_there}
use Rattle.sg_record.proofs.FunctionsTyped.{used}
use Rattle.sg_record.proofs.Known.{AreKnown, IsFine}
use Rattle.sg_record.proofs.Lists.{each_parts, each_append, each_flat, each_weaker, each_at}
use Rattle.sg_record.proofs.Nonterminals.{IsOf, all_defined, attrs_there, nonterminal_there, productions_of, result_there, result_typed}
use Rattle.sg_record.proofs.Symbols.{parts_typed, production_outside}

module _ (ds : List Decl) (spec : Spec) (kept : HasTable (names_of ds) spec) (results : (n : Bytes) (k : ℕ) → nonterminal_named (names_of ds) n ≡ Some k → (a : Attr) × (symbol_attrs (names_of ds) n ≡ a ∷ []) × (result_type spec k ≡ Some a.of)) where
  abbrev IsTypedProduction : Production → Type 0
  IsTypedProduction r = MatchOption (symbol_types spec r.right) ⊥ (λ G. IsTrue (is_typed spec G r.expr r.of))

  module _ (shapes : HasShapes spec) (lists : HasLists (names_of ds)) (made : spec.exprs ≡ recorded_exprs (names_of ds) ds) where
    right_there : (n : Name) (k : ℕ) (r : Right) → AreKnown (names_of ds) (right_uses n.text r) → right_mismatch (names_of ds) n r ≡ None → AreWritten r.expr
        → slice_get (exprs_in (names_of ds) ds) k ≡ Some (right_typed (names_of ds) n r) → IsTypedProduction (production (names_of ds) n k r)
    right_there n k r known mismatch written at =
        let t = names_of ds in
        let uses = each_parts (λ u. unknown_at t u ≡ None) (flat_map part_uses r.parts) (expr_uses (InProduction n.text r.parts) [] r.expr) known in
        let parts = parts_typed ds spec kept shapes results r.parts uses.0 in
        let there = body_kept t spec kept lists (OfProduction n.text r.parts) parts.0 (production_outside t r.parts parts.0 parts.2 n.text) [] [] refl (body.result_type t n) r.expr written mismatch in
        let found : is_found spec there.0 (type_of spec parts.0 (recorded t (OfProduction n.text r.parts) [] r.expr)) ≡ true =
        ap (λ G. is_found spec there.0 (type_of spec G (recorded t (OfProduction n.text r.parts) [] r.expr))) (sym (append-nil parts.0)) ∙ there.2 in
        let typed : is_typed spec parts.0 k there.0 ≡ true = typed_there t spec ds made k (right_typed t n r) parts.0 there.0 at found in
        let of : unwrap_or (body.result_type t n) 0 ≡ there.0 = ap (λ o. unwrap_or o 0) there.1 in
        subst (λ (o : Option (List ℕ)). MatchOption o ⊥ (λ G. IsTrue (is_typed spec G k (unwrap_or (body.result_type t n) 0)))) (sym parts.1) (ap (is_typed spec parts.0 k) of ∙ typed)

    rights_there : (n : Name) (k : ℕ) (rights : List Right) → AreKnown (names_of ds) (flat_map (right_uses n.text) rights) → Each (λ r. right_mismatch (names_of ds) n r ≡ None) rights → Each (λ (r : Right). AreWritten r.expr) rights
        → StandAt (exprs_in (names_of ds) ds) k (map (right_typed (names_of ds) n) rights) → Each IsTypedProduction (map_from (production (names_of ds) n) k rights)
    rights_there n k [] known mismatch written at = tt
    rights_there n k (r ∷ rights) known mismatch written at =
        let t = names_of ds in
        let uses = each_parts (λ u. unknown_at t u ≡ None) (right_uses n.text r) (flat_map (right_uses n.text) rights) known in
        let z : k ≡ k + 0 = omega arith in
        let here : slice_get (exprs_in t ds) k ≡ Some (right_typed t n r) = ap (slice_get (exprs_in t ds)) z ∙ at 0 (right_typed t n r) refl in (
          right_there n k r uses.0 mismatch.0 written.0 here,
          rights_there n (suc k) rights uses.1 mismatch.1 written.1 (λ j x h. let e : suc k + j ≡ k + suc j = omega arith in ap (slice_get (exprs_in t ds)) e ∙ at (suc j) x h),
        )

    production_typed_at : (k : ℕ) (d : Decl) → IsFine (names_of ds) d → StandAt (exprs_in (names_of ds) ds) k (exprs_at (names_of ds) d) → Each IsTypedProduction (productions_at (names_of ds) k d)
    production_typed_at k (Productions n rights) fine at =
        rights_there n k rights fine.0 (first-none (right_mismatch (names_of ds) n) rights fine.1) fine.2.1 at
    production_typed_at k d fine at = tt

    -- productions are of the types of their nonterminals
    pub productions_typed : spec.productions ≡ productions_in (names_of ds) 0 ds → Each (IsFine (names_of ds)) ds → All IsTypedProduction spec.productions
    productions_typed are fine =
        All-from_recursion IsTypedProduction spec.productions
        (subst (Each IsTypedProduction) (sym are) (each_given (names_of ds) ds (productions_at (names_of ds)) IsTypedProduction (IsFine (names_of ds)) production_typed_at fine))

-- the types of attributes may be used
module _ (ds : List Decl) (spec : Spec) (kept : HasTable (names_of ds) spec) where
  abbrev IsOfUsable : Attr → Type 0
  IsOfUsable a = is_usable spec a.of ≡ true

  attrs_used : (owner : ℕ) (attrs : List AttrDecl) → AreKnown (names_of ds) (map (λ (a : AttrDecl). UsesPhylum a.of) attrs) → Each (λ (x : ℕ × Attr). IsOfUsable x.1) (map (attribute (phyla_in ds) owner) attrs)
  attrs_used owner [] h = tt
  attrs_used owner (a ∷ attrs) h = ((used ds spec kept a.of h.0).1, attrs_used owner attrs h.1)

  attrs_used_at : (owners : List Head) (d : Decl) → IsFine (names_of ds) d → Each (λ (x : ℕ × Attr). IsOfUsable x.1) (attributes_at owners (phyla_in ds) d)
  attrs_used_at owners (Attributes n attrs) fine = attrs_used (number_in owners n.text) attrs fine.0.1
  attrs_used_at owners d fine = tt

  owned_used : (pairs : List (ℕ × Attr)) (k : ℕ) → Each (λ (x : ℕ × Attr). IsOfUsable x.1) pairs → Each IsOfUsable (owned pairs k)
  owned_used [] k h = tt
  owned_used (x ∷ pairs) k h = each_append IsOfUsable _ (owned pairs k) (one (nat_eq x.0 k)) (owned_used pairs k h.1)
    where
      one : (b : Bool) → Each IsOfUsable (if b then x.1 ∷ [] else [])
      one true = (h.0, tt)
      one false = tt

  nonterminals_used : (k : ℕ) (heads : List Head) → Each (IsFine (names_of ds)) ds → Each (λ (x : Nonterminal). Each IsOfUsable x.attrs) (map_from (nonterminal (attributes_of (nonterminals_in ds) (phyla_in ds) ds)) k heads)
  nonterminals_used k [] fine = tt
  nonterminals_used k (h ∷ heads) fine = (
    owned_used (attributes_in (nonterminals_in ds) (phyla_in ds) ds) k (each_flat (λ (x : ℕ × Attr). IsOfUsable x.1) (IsFine (names_of ds)) (attributes_at (nonterminals_in ds) (phyla_in ds)) ds (attrs_used_at (nonterminals_in ds)) fine),
    nonterminals_used (suc k) heads fine,
  )

  result_usable : Each (IsFine (names_of ds)) ds → (n : Bytes) (k : ℕ) (a : Attr) → nonterminal_named (names_of ds) n ≡ Some k → symbol_attrs (names_of ds) n ≡ a ∷ [] → is_usable spec a.of ≡ true
  unfolding names_of text_names.names_of
  result_usable fine n k a named one =
      let x = nonterminal_there (names_of ds) n k named in
      let all = each_at (λ (y : Nonterminal). Each IsOfUsable y.attrs) (names_of ds).nonterminals k x.0 (nonterminals_used 0 (nonterminals_in ds) fine) x.1 in
      (subst (Each IsOfUsable) (sym (attrs_there (names_of ds) n k x.0 named x.1) ∙ one) all).0

  -- the result of each production is of the type of its nonterminal, which may be used
  pub results_typed : spec.productions ≡ productions_in (names_of ds) 0 ds → result_count (names_of ds) ≡ None → Each (IsFine (names_of ds)) ds
      → All (λ (r : Production). (result_type spec r.left ≡ Some r.of) × IsTrue (is_usable spec r.of)) spec.productions
  results_typed are none fine =
      let t = names_of ds in
      let written = each_weaker (IsFine t) IsWritten ds (λ d f. f.2) fine in
      let all = each_weaker (IsOf t) (λ (r : Production). (result_type spec r.left ≡ Some r.of) × IsTrue (is_usable spec r.of)) (productions_in t 0 ds)
      (λ r of. (result_typed ds spec are none written r.name r.left of.of.0 of.left of.of.1 ∙ ap Some of.of.2, ap (is_usable spec) (sym of.of.2) ∙ result_usable fine r.name r.left of.of.0 of.left of.of.1))
      (productions_of t none 0 ds (all_defined ds)) in
      All-from_recursion (λ (r : Production). (result_type spec r.left ≡ Some r.of) × IsTrue (is_usable spec r.of)) spec.productions
      (subst (Each (λ (r : Production). (result_type spec r.left ≡ Some r.of) × IsTrue (is_usable spec r.of))) (sym are) all)

  -- each nonterminal has one result, of its type in the record
  pub all_results : spec.productions ≡ productions_in (names_of ds) 0 ds → result_count (names_of ds) ≡ None → Each IsWritten ds
      → (n : Bytes) (k : ℕ) → nonterminal_named (names_of ds) n ≡ Some k → (a : Attr) × (symbol_attrs (names_of ds) n ≡ a ∷ []) × (result_type spec k ≡ Some a.of)
  all_results are none written n k named =
      let a = result_there (names_of ds) n k none named in
      (a.0, a.1, result_typed ds spec are none written n k a.0 named a.1)
