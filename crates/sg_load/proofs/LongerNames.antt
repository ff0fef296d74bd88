-- What names mean in a table whose phyla have further attributes: what they mean without these.
use Rattle.std.proofs.Common.{◌≡◌, ℕ, Bool, true, false, ◌&&◌, if◌then◌else◌, bytes_eq, List, [], ◌∷◌, ◌++◌, map, Option, Some, None, is_some, option_map, unwrap_or, slice_get, refl, sym, ap, subst, ◌∙◌}
use Rattle.std.specs.Prelude.{◌||◌, option_and_then, find}
use Rattle.std.specs.List.{AllByRecursion}
use Rattle.sg_kinds.specs.Dependencies.{phylum_there}
use Rattle.sg_kinds.specs.Specification.{attrs_of, has_shape, is_lexical_shape, is_leaf_shape}
use Rattle.sg_kinds.specs.Typing.{whitespace}
use Rattle.sg_kinds.specs.Values.{Bytes}
use Rattle.sg_kinds.specs.declared.marks.Shape.{Shape}
use Rattle.sg_kinds.specs.declared.spec.Attr.{Attr}
use Rattle.sg_kinds.specs.declared.spec.Occurrence.{Occurrence}
use Rattle.sg_kinds.specs.declared.spec.Phylum.{Phylum}
use Rattle.sg_kinds.proofs.Elementary.{some_there, option_map_some}
use Rattle.sg_ast.specs.Declarations.{Decl, Equations, Schemes}
use Rattle.sg_ast.specs.FirstFault.{or_else}
use Rattle.sg_ast.specs.declared.decl.Part.{Part}
use Rattle.sg_ast.specs.declared.name.Name.{Name}
use Rattle.sg_ast.specs.declared.name.Occurrence.TheVariants.{Own, Named}
use Rattle.sg_ast.specs.declared.name.Occurrence.{Occurrence as Written}
use Rattle.sg_ast.specs.declared.name.Pair.{Pair}
use Rattle.sg_ast.specs.declared.name.Reference.{Reference}
use Rattle.sg_ast.specs.declared.name.Typed.{Typed}
use Rattle.sg_ast.proofs.FirstLaws.{first-none, none-first}
use Rattle.sg_names.specs.Lookups.{phylum_named, nonterminal_named, usable_named, operator_at, attribute, attribute_at, occurrence, occurrence_of, reference, symbol, operand, attr_type, slot_named, symbol_type, name_of}
use Rattle.sg_names.specs.More.{and_attrs, with_more}
use Rattle.sg_names.specs.Names.{operator_of}
use Rattle.sg_names.specs.UnknownName.{unless_known, has_operators, is_lexeme, is_nonterminal, is_attribute, reference_fault, unknown_reference, unknown_enclosing, unknown_at, unknown_name}
use Rattle.sg_names.specs.Uses.{Site, InOperator, InProduction, Elsewhere, Use, UsesPhylum, HasOperators, HasAttributes, UsesOperator, UsesSymbol, UsesResult, Refers, Encloses, UsesVariable, Binds, Calls, Matches, decl_uses, equations_uses, schemes_uses, uses, within}
use Rattle.sg_names.specs.declared.table.Nonterminal.{Nonterminal}
use Rattle.sg_names.specs.declared.table.Operand.{Operand}
use Rattle.sg_names.specs.declared.table.Table.{Table}
use Rattle.sg_names.proofs.MoreLaws.{phylum_more}
use Rattle.sg_resolve.proofs.ShapeLists.{each_implies, from_at}
use Rattle.sg_load.proofs.LongerLists.{place_more, find_more}

-- further attributes, where there is a phylum to have them
abbrev pub if_there : Option Phylum → List Attr → List Attr
if_there None attrs = []
if_there (Some x) attrs = attrs

pub known_is : (b : Bool) (n : Name) → unless_known b n ≡ None → b ≡ true
known_is true n h = refl
known_is false n h = absurd (cc h)

-- what means something still does
still : (b c : Bool) (n : Name) → (b ≡ true → c ≡ true) → unless_known b n ≡ None → unless_known c n ≡ None
still b c n more h = ap (λ d. unless_known d n) (more (known_is b n h))

some_is : {A : Type 0} (o : Option A) (x : A) → o ≡ Some x → is_some o ≡ true
some_is o x e = ap is_some e

abbrev slot_at : ℕ → ℕ → Occurrence
slot_at at s = record { at = at; slot = s }

abbrev operand_at : ℕ → ℕ → Operand
operand_at at p = record { at = at; of = p }

module _ (t : Table) (more : ℕ → List Attr) where
  pub phylum_is : (p : ℕ) → slice_get (with_more t more).phyla p ≡ option_map (and_attrs more p) (slice_get t.phyla p)
  phylum_is p = from_at (and_attrs more) t.phyla p

  pub shape_same : (test : Shape → Bool) (p : ℕ) → has_shape (with_more t more).phyla test p ≡ has_shape t.phyla test p
  shape_same test p = ap (λ o. unwrap_or (option_map (λ (x : Phylum). test x.shape) o) false) (phylum_is p) ∙ by (slice_get t.phyla p)
    where
      by : (o : Option Phylum) → unwrap_or (option_map (λ (x : Phylum). test x.shape) (option_map (and_attrs more p) o)) false ≡ unwrap_or (option_map (λ (x : Phylum). test x.shape) o) false
      by None = refl
      by (Some x) = refl

  pub attrs_are : (p : ℕ) → attrs_of (with_more t more).phyla p ≡ attrs_of t.phyla p ++ if_there (slice_get t.phyla p) (more p)
  attrs_are p = ap (λ o. unwrap_or (option_map (λ (x : Phylum). x.attrs) o) []) (phylum_is p) ∙ by (slice_get t.phyla p)
    where
      by : (o : Option Phylum) → unwrap_or (option_map (λ (x : Phylum). x.attrs) (option_map (and_attrs more p) o)) [] ≡ unwrap_or (option_map (λ (x : Phylum). x.attrs) o) [] ++ if_there o (more p)
      by None = refl
      by (Some x) = refl

  pub slot_more : (p s : ℕ) (n : Bytes) → attribute t p n ≡ Some s → attribute (with_more t more) p n ≡ Some s
  slot_more p s n e =
      ap (λ (l : List Attr). slot_named l n) (attrs_are p) ∙ place_more (λ (a : Attr). bytes_eq n a.name) s (attrs_of t.phyla p) (if_there (slice_get t.phyla p) (more p)) e

  pub type_more : (p q : ℕ) (n : Bytes) → attr_type (attrs_of t.phyla p) n ≡ Some q → attr_type (attrs_of (with_more t more).phyla p) n ≡ Some q
  type_more p q n e =
      let test = λ (a : Attr). bytes_eq n a.name in
      let x = option_map_some (λ (a : Attr). a.of) (find test (attrs_of t.phyla p)) q e in
      ap (λ (l : List Attr). attr_type l n) (attrs_are p)
      ∙ ap (option_map (λ (a : Attr). a.of)) (find_more test x.0 (attrs_of t.phyla p) (if_there (slice_get t.phyla p) (more p)) x.1) ∙ ap Some x.2

  pub usable_same : (n : Bytes) → usable_named (with_more t more) n ≡ usable_named t n
  usable_same n = λ i. option_and_then (λ p. if bytes_eq n whitespace && shape_same is_lexical_shape p i then None else Some p) (phylum_more t more n i)

  pub operators_same : (n : Bytes) → has_operators (with_more t more) n ≡ has_operators t n
  operators_same n = λ i. is_some (option_and_then (λ p. if shape_same is_leaf_shape p i then None else Some p) (phylum_more t more n i))

  lexeme_same : (n : Bytes) → is_lexeme (with_more t more) n ≡ is_lexeme t n
  lexeme_same n = λ i. is_some (option_and_then (λ p. if shape_same is_lexical_shape p i then Some p else None) (usable_same n i))

  pub operator_same : (n op : Name) → operator_at (with_more t more) n op ≡ operator_at t n op
  operator_same n op = λ i. option_and_then (λ p. operator_of t.ops p op.text) (phylum_more t more n.text i)

  occurrence_same : (op : ℕ) (o : Written) → occurrence (with_more t more) op o ≡ occurrence t op o
  occurrence_same op (Own place) = refl
  occurrence_same op (Named q k) = λ i. option_and_then (λ p. option_and_then (λ o. occurrence_of o k p) (slice_get t.ops op)) (usable_same q.text i)

  reference_more : (op : ℕ) (r : Reference) (o : Occurrence) → reference t op r ≡ Some o → reference (with_more t more) op r ≡ Some o
  reference_more op r o e = ap (option_and_then (λ at. attribute_at (with_more t more) op at r.attr.text)) (occurrence_same op r.of) ∙ by (occurrence t op r.of) e
    where
      at_there : (at : ℕ) (q : Option ℕ) → option_and_then (λ p. option_map (slot_at at) (attribute t p r.attr.text)) q ≡ Some o
          → option_and_then (λ p. option_map (slot_at at) (attribute (with_more t more) p r.attr.text)) q ≡ Some o
      at_there at None e = absurd (cc e)
      at_there at (Some p) e =
          let s = option_map_some (slot_at at) (attribute t p r.attr.text) o e in
          ap (option_map (slot_at at)) (slot_more p s.0 r.attr.text s.1) ∙ ap Some s.2

      by : (x : Option ℕ) → option_and_then (λ at. attribute_at t op at r.attr.text) x ≡ Some o → option_and_then (λ at. attribute_at (with_more t more) op at r.attr.text) x ≡ Some o
      by None e = absurd (cc e)
      by (Some at) e = at_there at (phylum_there t.ops op at) e

  symbol_more : (q a : Bytes) (p : ℕ) → symbol_type t q a ≡ Some p → symbol_type (with_more t more) q a ≡ Some p
  symbol_more q a p e = by (option_and_then (λ k. option_map (λ (x : Nonterminal). x.attrs) (slice_get t.nonterminals k)) (nonterminal_named t q)) e
    where
      named : (o : Option ℕ) → attr_type (unwrap_or (option_map (attrs_of t.phyla) o) []) a ≡ Some p → attr_type (unwrap_or (option_map (attrs_of (with_more t more).phyla) o) []) a ≡ Some p
      named None e = e
      named (Some k) e = type_more k p a e

      by : (o : Option (List Attr)) → attr_type (unwrap_or (or_else o (option_map (attrs_of t.phyla) (phylum_named t q))) []) a ≡ Some p
          → attr_type (unwrap_or (or_else o (option_map (attrs_of (with_more t more).phyla) (phylum_named (with_more t more) q))) []) a ≡ Some p
      by None e = ap (λ o. attr_type (unwrap_or (option_map (attrs_of (with_more t more).phyla) o) []) a) (phylum_more t more q) ∙ named (phylum_named t q) e
      by (Some l) e = e

  operand_more : (left : Bytes) (parts : List Part) (r : Reference) (o : Operand) → operand t left parts r ≡ Some o → operand (with_more t more) left parts r ≡ Some o
  operand_more left parts r o e = by (symbol left parts r.of) e
    where
      by : (x : Option ℕ) → option_and_then (λ at. option_map (operand_at at) (symbol_type t (name_of r.of) r.attr.text)) x ≡ Some o
          → option_and_then (λ at. option_map (operand_at at) (symbol_type (with_more t more) (name_of r.of) r.attr.text)) x ≡ Some o
      by None e = absurd (cc e)
      by (Some at) e =
          let s = option_map_some (operand_at at) (symbol_type t (name_of r.of) r.attr.text) o e in
          ap (option_map (operand_at at)) (symbol_more (name_of r.of) r.attr.text s.0 s.1) ∙ ap Some s.2

  listed_more : (n a : Bytes) → is_attribute t n a ≡ true → is_attribute (with_more t more) n a ≡ true
  listed_more n a h = ap (λ o. is_some (option_and_then (λ p. attribute (with_more t more) p a) o)) (phylum_more t more n) ∙ by (phylum_named t n) h
    where
      by : (o : Option ℕ) → is_some (option_and_then (λ p. attribute t p a) o) ≡ true → is_some (option_and_then (λ p. attribute (with_more t more) p a) o) ≡ true
      by None h = h
      by (Some p) h = let s = some_there (attribute t p a) h in some_is (attribute (with_more t more) p a) s.0 (slot_more p s.0 a s.1)

  -- each use that means something does so with further attributes
  refers_kept : (site : Site) (r : Reference) → unknown_reference t site r ≡ None → unknown_reference (with_more t more) site r ≡ None
  refers_kept (InOperator op) r h =
      ap (λ o. reference_fault (is_some o) (is_some (reference (with_more t more) op r)) r) (occurrence_same op r.of) ∙ by (is_some (occurrence t op r.of)) h
    where
      known : is_some (reference t op r) ≡ true → is_some (reference (with_more t more) op r) ≡ true
      known is = let o = some_there (reference t op r) is in some_is (reference (with_more t more) op r) o.0 (reference_more op r o.0 o.1)

      by : (b : Bool) → reference_fault b (is_some (reference t op r)) r ≡ None → reference_fault b (is_some (reference (with_more t more) op r)) r ≡ None
      by true h = still (is_some (reference t op r)) (is_some (reference (with_more t more) op r)) r.attr known h
      by false h = h
  refers_kept (InProduction left parts) r h = by (is_some (symbol left parts r.of)) h
    where
      known : is_some (operand t left parts r) ≡ true → is_some (operand (with_more t more) left parts r) ≡ true
      known is = let o = some_there (operand t left parts r) is in some_is (operand (with_more t more) left parts r) o.0 (operand_more left parts r o.0 o.1)

      by : (b : Bool) → reference_fault b (is_some (operand t left parts r)) r ≡ None → reference_fault b (is_some (operand (with_more t more) left parts r)) r ≡ None
      by true h = still (is_some (operand t left parts r)) (is_some (operand (with_more t more) left parts r)) r.attr known h
      by false h = h
  refers_kept Elsewhere r h = h

  enclosing_kept : (site : Site) (q : Pair) → unknown_enclosing t site q ≡ None → unknown_enclosing (with_more t more) site q ≡ None
  enclosing_kept (InOperator op) q h =
      ap (λ b. if b then unless_known (is_attribute (with_more t more) q.phylum.text q.attr.text) q.attr else unless_known false q.phylum) (operators_same q.phylum.text)
      ∙ by (has_operators t q.phylum.text) h
    where
      by : (b : Bool) → (if b then unless_known (is_attribute t q.phylum.text q.attr.text) q.attr else unless_known false q.phylum) ≡ None
          → (if b then unless_known (is_attribute (with_more t more) q.phylum.text q.attr.text) q.attr else unless_known false q.phylum) ≡ None
      by true h = still (is_attribute t q.phylum.text q.attr.text) (is_attribute (with_more t more) q.phylum.text q.attr.text) q.attr (listed_more q.phylum.text q.attr.text) h
      by false h = h
  enclosing_kept (InProduction left parts) q h = h
  enclosing_kept Elsewhere q h = h

  result_kept : (n a : Name) → unknown_at t (UsesResult n a) ≡ None → unknown_at (with_more t more) (UsesResult n a) ≡ None
  result_kept n a h = by (is_nonterminal t n.text) h
    where
      known : is_some (symbol_type t n.text a.text) ≡ true → is_some (symbol_type (with_more t more) n.text a.text) ≡ true
      known is = let p = some_there (symbol_type t n.text a.text) is in some_is (symbol_type (with_more t more) n.text a.text) p.0 (symbol_more n.text a.text p.0 p.1)

      by : (b : Bool) → (if b then unless_known (is_some (symbol_type t n.text a.text)) a else unless_known false n) ≡ None
          → (if b then unless_known (is_some (symbol_type (with_more t more) n.text a.text)) a else unless_known false n) ≡ None
      by true h = still (is_some (symbol_type t n.text a.text)) (is_some (symbol_type (with_more t more) n.text a.text)) a known h
      by false h = h

  use_kept : (u : Use) → unknown_at t u ≡ None → unknown_at (with_more t more) u ≡ None
  use_kept (UsesPhylum n) h = ap (λ o. unless_known (is_some o) n) (usable_same n.text) ∙ h
  use_kept (HasOperators n) h = ap (λ b. unless_known b n) (operators_same n.text) ∙ h
  use_kept (HasAttributes n) h = ap (λ b. unless_known (b || is_nonterminal t n.text) n) (operators_same n.text) ∙ h
  use_kept (UsesOperator n op) h = (λ i. if is_some (usable_same n.text i) then unless_known (is_some (operator_same n op i)) op else unless_known false n) ∙ h
  use_kept (UsesSymbol n) h = ap (λ b. unless_known (b || is_nonterminal t n.text) n) (lexeme_same n.text) ∙ h
  use_kept (UsesResult n a) h = result_kept n a h
  use_kept (Refers site r) h = refers_kept site r h
  use_kept (Encloses site q) h = enclosing_kept site q h
  use_kept (UsesVariable scope n) h = h
  use_kept (Binds scope n) h = h
  use_kept (Calls n parts) h = h
  use_kept (Matches n parts) h = h

  -- the uses are the same
  decl_same : (d : Decl) → decl_uses (with_more t more) d ≡ decl_uses t d
  decl_same (Equations n op locals es) = ap (λ o. UsesOperator n op ∷ map (λ (l : Typed). UsesPhylum l.of) locals ++ within (equations_uses t es) o) (operator_same n op)
  decl_same (Schemes n op view ss) = ap (λ o. UsesOperator n op ∷ within (schemes_uses t ss) o) (operator_same n op)
  decl_same d = refl

  uses_same : (ds : List Decl) → uses (with_more t more) ds ≡ uses t ds
  uses_same [] = refl
  uses_same (d ∷ ds) = λ i. decl_same d i ++ uses_same ds i

  pub names_known : (ds : List Decl) → unknown_name t ds ≡ None → unknown_name (with_more t more) ds ≡ None
  unfolding unknown_name
  names_known ds h =
      none-first (unknown_at (with_more t more)) (uses (with_more t more) ds)
      (subst (AllByRecursion (λ u. unknown_at (with_more t more) u ≡ None)) (sym (uses_same ds))
      (each_implies (λ u. unknown_at t u ≡ None) (λ u. unknown_at (with_more t more) u ≡ None) use_kept (uses t ds) (first-none (unknown_at t) (uses t ds) h)))
