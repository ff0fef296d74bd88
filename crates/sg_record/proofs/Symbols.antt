-- The symbols of input productions, their types, and what references name among them.
use Rattle.std.proofs.Common.{◌≡◌, ℕ, zero, suc, ◌+◌, ◌-◌, Bool, true, false, cond, ◌&&◌, ◌||◌, if◌then◌else◌, List, [], ◌∷◌, ◌++◌, map, flat_map, take, length, Option, Some, None, slice_get, bytes_eq, nat_eq, refl, sym, ap, subst, ◌∙◌, arith}
use Rattle.std.specs.Prelude.{is_some, option_map, option_and_then, unwrap_or, count_by}
use Rattle.sg_kinds.specs.Values.{Bytes}
use Rattle.sg_kinds.specs.Sound.{HasShapes, IsShaped, IsValue, symbol_type, symbol_types, result_type}
use Rattle.sg_kinds.specs.Specification.{attrs_of, has_shape, is_lexical_shape}
use Rattle.sg_kinds.specs.Typing.{is_usable}
use Rattle.sg_kinds.specs.declared.marks.Shape.{Shape}
use Rattle.sg_kinds.specs.declared.marks.Shape.TheVariants.{Lexemes}
use Rattle.sg_kinds.specs.declared.spec.Attr.{Attr}
use Rattle.sg_kinds.specs.declared.spec.Phylum.{Phylum}
use Rattle.sg_kinds.specs.declared.spec.Spec.{Spec}
use Rattle.sg_kinds.proofs.Elementary.{bytes_is}
use Rattle.sg_ast.specs.declared.decl.Part.{Part}
use Rattle.sg_ast.specs.declared.decl.Part.TheVariants.{Named, Literal}
use Rattle.sg_ast.specs.declared.name.Name.{Name}
use Rattle.sg_ast.specs.declared.name.Occurrence.{Occurrence}
use Rattle.sg_ast.specs.declared.name.Occurrence.TheVariants as occurrence
use Rattle.sg_ast.specs.declared.name.Reference.{Reference}
use Rattle.sg_ast.specs.Declarations.{Decl}
use Rattle.sg_ast.specs.FirstFault.{or_else}
use Rattle.sg_names.specs.declared.table.Nonterminal.{Nonterminal}
use Rattle.sg_names.specs.declared.table.Table.{Table}
use Rattle.sg_names.specs.Drafted.{drafted, HasTable}
use Rattle.sg_names.specs.Lookups.{nonterminal_named, phylum_named, usable_named, symbol_attrs, attr_type, name_of, symbol, places_from, places, chosen, is_part, not_left}
use Rattle.sg_names.specs.Lookups as look
use Rattle.sg_names.specs.Names.{value_attr}
use Rattle.sg_names.specs.UnknownName.{unknown_at, is_lexeme, is_nonterminal}
use Rattle.sg_names.specs.Uses.{UsesSymbol, part_uses}
use Rattle.sg_names.proofs.DraftedLaws.{usable_kept}
use Rattle.sg_remote.specs.Longer.{names_of}
use Rattle.sg_types.specs.Bindings.{OfProduction, is_bound, symbol_there, reference_at}
use Rattle.sg_typing.specs.Written.{AreOutside}
use Rattle.sg_typing.proofs.TableFacts.{usable_is}
use Rattle.sg_record.specs.Record.{phylum_in, symbol_named, symbol_of}
use Rattle.sg_record.proofs.Known.{AreKnown, known_is, named_of_usable}
use Rattle.sg_record.proofs.Lists.{count-cons}

-- a lexeme phylum has the one attribute of its text
lexeme_attrs : (t : Table) (spec : Spec) → HasTable t spec → HasShapes spec → (p : ℕ) → has_shape t.phyla is_lexical_shape p ≡ true → attrs_of t.phyla p ≡ value_attr p ∷ []
lexeme_attrs t spec kept shapes p h = by (slice_get t.phyla p) refl h
  where
    one : (attrs : List Attr) → IsValue p attrs → attrs ≡ value_attr p ∷ []
    one [] v = absurd v
    one (a ∷ []) v = ap (λ (b : Attr). b ∷ []) v
    one (a ∷ b ∷ attrs) v = absurd v

    shaped : (x : Phylum) (s : Shape) → is_lexical_shape s ≡ true → IsShaped spec p x s → x.attrs ≡ value_attr p ∷ []
    shaped x (Lexemes l) h is = one x.attrs is.1
    shaped x s h is = absurd (cc h)

    by : (o : Option Phylum) → slice_get t.phyla p ≡ o → unwrap_or (option_map (λ (x : Phylum). is_lexical_shape x.shape) o) false ≡ true
        → unwrap_or (option_map (λ (x : Phylum). x.attrs) o) [] ≡ value_attr p ∷ []
    by None e g = absurd (cc g)
    by (Some x) e g = shaped x x.shape g (shapes.phyla p x (ap (λ l. slice_get l p) kept.phyla ∙ e)).shape

-- the types of the named symbols, each that of the one attribute of its name
abbrev pub PartsHave : Table → List Part → List ℕ → Type 0
PartsHave t [] G = G ≡ []
PartsHave t (Literal s ∷ parts) G = PartsHave t parts G
PartsHave t (Named n ∷ parts) G = (a : Attr) × (H : List ℕ) × (symbol_attrs t n.text ≡ a ∷ []) × (G ≡ a.of ∷ H) × PartsHave t parts H

parts_count : (t : Table) (parts : List Part) (G : List ℕ) → PartsHave t parts G → length G ≡ count_by is_bound parts
parts_count t [] G h = ap length h
parts_count t (Literal s ∷ parts) G h = parts_count t parts G h
parts_count t (Named n ∷ parts) G h =
    let e : length h.1 ≡ count_by is_bound parts = parts_count t parts h.1 h.4 in
    let c : count_by is_bound (Named n ∷ parts) ≡ 1 + count_by is_bound parts = count-cons is_bound (Named n) parts in
    let l : length G ≡ suc (length h.1) = ap length h.3 in
    omega (arith, e, c, l)

part_there : (t : Table) (parts : List Part) (G : List ℕ) (j : ℕ) (n : Name) (a : Attr) → PartsHave t parts G → slice_get parts j ≡ Some (Named n) → symbol_attrs t n.text ≡ a ∷ []
    → slice_get G (count_by is_bound (take j parts)) ≡ Some a.of
part_there t [] G j n a h at one = absurd (cc at)
part_there t (Literal s ∷ parts) G zero n a h at one = absurd (cc at)
part_there t (Literal s ∷ parts) G (suc j) n a h at one = part_there t parts G j n a h at one
part_there t (Named m ∷ parts) G zero n a h at one =
    let same : m ≡ n = cc at in
    let first : h.0 ≡ a = cc (h.2, ap (λ (x : Name). symbol_attrs t x.text) same, one) in
    ap (λ l. slice_get l 0) h.3 ∙ ap (λ (x : Attr). Some x.of) first
part_there t (Named m ∷ parts) G (suc j) n a h at one =
    let c : count_by is_bound (Named m ∷ take j parts) ≡ 1 + count_by is_bound (take j parts) = count-cons is_bound (Named m) (take j parts) in
    let e : 1 + count_by is_bound (take j parts) ≡ suc (count_by is_bound (take j parts)) = omega arith in
    ap (slice_get G) (c ∙ e) ∙ ap (λ l. slice_get l (suc (count_by is_bound (take j parts)))) h.3 ∙ part_there t parts h.1 j n a h.4 at one

-- the element at a place that passes
place_passes : {A : Type 0} (test : A → Bool) (s : ℕ) (xs : List A) (j at : ℕ) → slice_get (places_from test s xs) j ≡ Some at → (i : ℕ) × (x : A) × (at ≡ s + i) × (slice_get xs i ≡ Some x) × (test x ≡ true)
place_passes test s [] j at h = absurd (cc h)
place_passes {A} test s (x ∷ xs) j at h = by (test x) refl j h (λ i g. later (place_passes test (suc s) xs i at g))
  where
    later : (i : ℕ) × (y : A) × (at ≡ suc s + i) × (slice_get xs i ≡ Some y) × (test y ≡ true) → (i : ℕ) × (y : A) × (at ≡ s + i) × (slice_get (x ∷ xs) i ≡ Some y) × (test y ≡ true)
    later r = (suc r.0, r.1, r.2 ∙ (let e : suc s + r.0 ≡ s + suc r.0 = omega arith in e), r.3, r.4)

    by : (b : Bool) → test x ≡ b → (i : ℕ) → slice_get (if b then s ∷ places_from test (suc s) xs else places_from test (suc s) xs) i ≡ Some at
        → ((i : ℕ) → slice_get (places_from test (suc s) xs) i ≡ Some at → (i : ℕ) × (y : A) × (at ≡ s + i) × (slice_get (x ∷ xs) i ≡ Some y) × (test y ≡ true))
        → (i : ℕ) × (y : A) × (at ≡ s + i) × (slice_get (x ∷ xs) i ≡ Some y) × (test y ≡ true)
    by true e zero g rest = (0, x, (let same : s ≡ at = cc g in omega (arith, same)), refl, e)
    by true e (suc i) g rest = rest i g
    by false e i g rest = rest i g

chosen_passes : (k : Option ℕ) (ats : List ℕ) (at : ℕ) → chosen k ats ≡ Some at → (j : ℕ) × (slice_get ats j ≡ Some at)
chosen_passes (Some k) ats at h = by (nat_eq k 0) h
  where
    by : (b : Bool) → (if b then None else slice_get ats (k - 1)) ≡ Some at → (j : ℕ) × (slice_get ats j ≡ Some at)
    by true e = absurd (cc e)
    by false e = (k - 1, e)
chosen_passes None [] at h = absurd (cc h)
chosen_passes None (a ∷ []) at h = (0, h)
chosen_passes None (a ∷ b ∷ ats) at h = absurd (cc h)

-- a symbol that is named, by its place counted from 1
abbrev NamedAt : List Part → Bytes → ℕ → Type 0
NamedAt parts q at = (j : ℕ) × (n : Name) × (at ≡ suc j) × (slice_get parts j ≡ Some (Named n)) × (q ≡ n.text)

part_named : (q : Bytes) (parts : List Part) (at j : ℕ) (x : Part) → at ≡ 1 + j → slice_get parts j ≡ Some x → is_part q x ≡ true → NamedAt parts q at
part_named q parts at j (Named n) e h test = (j, n, e ∙ (let z : 1 + j ≡ suc j = omega arith in z), h, bytes_is q n.text test)
part_named q parts at j (Literal s) e h test = absurd (cc test)

place_named : (q : Bytes) (is_left : Bool) (parts : List Part) (i at : ℕ) → slice_get (places (is_part q) is_left parts) i ≡ Some at → (at ≡ 0 → ⊥) → NamedAt parts q at
place_named q true parts zero at h some = absurd (some (cc h))
place_named q true parts (suc i) at h some = let r = place_passes (is_part q) 1 parts i at h in part_named q parts at r.0 r.1 r.2 r.3 r.4
place_named q false parts i at h some = let r = place_passes (is_part q) 1 parts i at h in part_named q parts at r.0 r.1 r.2 r.3 r.4

symbol_named_at : (left : Bytes) (parts : List Part) (q : Name) (k : Option ℕ) (at : ℕ) → option_and_then not_left (chosen k (places (is_part q.text) (bytes_eq q.text left) parts)) ≡ Some at → NamedAt parts q.text at
symbol_named_at left parts q k at h = by (chosen k (places (is_part q.text) (bytes_eq q.text left) parts)) refl h
  where
    apart : (c : ℕ) (b : Bool) → nat_eq c 0 ≡ b → (if b then None else Some c) ≡ Some at → (c ≡ at) × (at ≡ 0 → ⊥)
    apart c true e f = absurd (cc f)
    apart c false e f = let same : c ≡ at = cc f in (same, λ z. cc (sym e ∙ ap (λ m. nat_eq m 0) (same ∙ z)))

    by : (o : Option ℕ) → chosen k (places (is_part q.text) (bytes_eq q.text left) parts) ≡ o → option_and_then not_left o ≡ Some at → NamedAt parts q.text at
    by None e f = absurd (cc f)
    by (Some c) e f =
        let a = apart c (nat_eq c 0) refl f in
        let j = chosen_passes k (places (is_part q.text) (bytes_eq q.text left) parts) at (e ∙ ap Some a.0) in
        place_named q.text (bytes_eq q.text left) parts j.0 at j.1 a.1

-- of one attribute each name that means it has its type
pub one_type : (a : Attr) (n : Bytes) (p : ℕ) → attr_type (a ∷ []) n ≡ Some p → a.of ≡ p
one_type a n p h = by (bytes_eq n a.name) h
  where
    by : (b : Bool) → option_map (λ (x : Attr). x.of) (cond b (Some a) None) ≡ Some p → a.of ≡ p
    by true e = cc e
    by false e = absurd (cc e)

module _ (t : Table) (parts : List Part) (G : List ℕ) (have : PartsHave t parts G) where
  -- each named part has one attribute
  one_attr : (j : ℕ) (n : Name) → slice_get parts j ≡ Some (Named n) → (a : Attr) × (symbol_attrs t n.text ≡ a ∷ [])
  one_attr j n at = one parts G j have at
    where
      one : (ps : List Part) (H : List ℕ) (i : ℕ) → PartsHave t ps H → slice_get ps i ≡ Some (Named n) → (a : Attr) × (symbol_attrs t n.text ≡ a ∷ [])
      one [] H i h e = absurd (cc e)
      one (Literal s ∷ ps) H zero h e = absurd (cc e)
      one (Literal s ∷ ps) H (suc i) h e = one ps H i h e
      one (Named m ∷ ps) H zero h e = let same : m ≡ n = cc e in (h.0, ap (λ (x : Name). symbol_attrs t x.text) (sym same) ∙ h.2)
      one (Named m ∷ ps) H (suc i) h e = one ps h.1 i h.4 e

  operand_there : (q : Name) (a : Bytes) (at p : ℕ) → NamedAt parts q.text at → look.symbol_type t q.text a ≡ Some p → slice_get G (count_by is_bound (take (at - 1) parts)) ≡ Some p
  operand_there q a at p named h =
      let one = one_attr named.0 named.1 named.3 in
      let place : at - 1 ≡ named.0 = let e = named.2 in omega (arith, e) in
      let typed : attr_type (one.0 ∷ []) a ≡ Some p = ap (λ l. attr_type l a) (sym (ap (symbol_attrs t) named.4 ∙ one.1)) ∙ h in
      ap (λ i. slice_get G (count_by is_bound (take i parts))) place ∙ part_there t parts G named.0 named.1 one.0 have named.3 one.1 ∙ ap Some (one_type one.0 a p typed)

  reference_there : (left : Bytes) (r : Reference) (x : ℕ × Option ℕ) → reference_at t (OfProduction left parts) r ≡ Some x → slice_get G x.0 ≡ x.1
  reference_there left r x h = by r.of h
    where
      typed : (q : Name) (k : Option ℕ) (at : ℕ) → NamedAt parts q.text at → (o : Option ℕ) → look.symbol_type t q.text r.attr.text ≡ o
          → option_map (symbol_there parts) (option_map (λ p. record { at = at; of = p }) o) ≡ Some x → slice_get G x.0 ≡ x.1
      typed q k at named None e f = absurd (cc f)
      typed q k at named (Some p) e f =
          let same : (count_by is_bound (take (at - 1) parts), Some p) ≡ x = cc f in
          subst (λ (v : ℕ × Option ℕ). slice_get G v.0 ≡ v.1) same (operand_there q r.attr.text at p named e)

      there : (q : Name) (k : Option ℕ) (o : Option ℕ) → symbol left parts (occurrence.Named q k) ≡ o
          → option_map (symbol_there parts) (option_and_then (λ at. option_map (λ p. record { at = at; of = p }) (look.symbol_type t q.text r.attr.text)) o) ≡ Some x → slice_get G x.0 ≡ x.1
      there q k None e f = absurd (cc f)
      there q k (Some at) e f = typed q k at (symbol_named_at left parts q k at e) (look.symbol_type t q.text r.attr.text) refl f

      by : (o : Occurrence) → option_map (symbol_there parts) (option_and_then (λ at. option_map (λ p. record { at = at; of = p }) (look.symbol_type t (name_of o) r.attr.text)) (symbol left parts o)) ≡ Some x → slice_get G x.0 ≡ x.1
      by (occurrence.Own place) f = absurd (cc f)
      by (occurrence.Named q k) f = there q k (symbol left parts (occurrence.Named q k)) refl f

  pub production_outside : (left : Bytes) → AreOutside t (OfProduction left parts) G
  production_outside left = record {
    count = parts_count t parts G have;
    references = reference_there left;
    remotes = λ r x h. absurd (cc h);
    locals = λ n x h. absurd (cc h);
  }

-- the symbols of a production that are known have types
module _ (ds : List Decl) (spec : Spec) (kept : HasTable (names_of ds) spec) (shapes : HasShapes spec) where
  lexeme_there : (n : Bytes) → is_lexeme (names_of ds) n ≡ true → (p : ℕ) × (usable_named (names_of ds) n ≡ Some p) × (has_shape (names_of ds).phyla is_lexical_shape p ≡ true)
  lexeme_there n h = by (usable_named (names_of ds) n) refl h
    where
      by : (o : Option ℕ) → usable_named (names_of ds) n ≡ o → is_some (option_and_then (λ p. if has_shape (names_of ds).phyla is_lexical_shape p then Some p else None) o) ≡ true
          → (p : ℕ) × (usable_named (names_of ds) n ≡ Some p) × (has_shape (names_of ds).phyla is_lexical_shape p ≡ true)
      by None e f = absurd (cc f)
      by (Some p) e f = (p, e, shaped (has_shape (names_of ds).phyla is_lexical_shape p) f)
        where
          shaped : (b : Bool) → is_some (if b then Some p else None) ≡ true → b ≡ true
          shaped true g = refl
          shaped false g = absurd (cc g)

  lexical_typed : (p : ℕ) → has_shape (names_of ds).phyla is_lexical_shape p ≡ true → is_usable (drafted (names_of ds)) p ≡ true → cond (has_shape spec.phyla is_lexical_shape p && is_usable spec p) (Some (p ∷ [])) None ≡ Some (p ∷ [])
  lexical_typed p shape usable =
      ap (λ b. cond (b && is_usable spec p) (Some (p ∷ [])) None) (ap (λ l. has_shape l is_lexical_shape p) kept.phyla ∙ shape)
      ∙ ap (λ b. cond b (Some (p ∷ [])) None) (usable_kept (names_of ds) spec kept p ∙ usable)

  -- where each nonterminal has one result, of its type in the record
  module _ (results : (n : Bytes) (k : ℕ) → nonterminal_named (names_of ds) n ≡ Some k → (a : Attr) × (symbol_attrs (names_of ds) n ≡ a ∷ []) × (result_type spec k ≡ Some a.of)) where
    named_typed : (n : Name) → unknown_at (names_of ds) (UsesSymbol n) ≡ None → (a : Attr) × (symbol_attrs (names_of ds) n.text ≡ a ∷ []) × (symbol_type spec (symbol_of (names_of ds) (Named n)) ≡ Some (a.of ∷ []))
    named_typed n h = by (nonterminal_named (names_of ds) n.text) refl
      where
        by : (o : Option ℕ) → nonterminal_named (names_of ds) n.text ≡ o → (a : Attr) × (symbol_attrs (names_of ds) n.text ≡ a ∷ []) × (symbol_type spec (symbol_named (names_of ds) n.text o) ≡ Some (a.of ∷ []))
        by (Some k) e = let r = results n.text k e in (r.0, r.1, ap (option_map (λ p. p ∷ [])) r.2)
        by None e =
            let t = names_of ds in
            let none : is_nonterminal t n.text ≡ false = ap is_some e in
            let lexeme : is_lexeme t n.text ≡ true = either (is_lexeme t n.text) (is_nonterminal t n.text) none (known_is (is_lexeme t n.text || is_nonterminal t n.text) n h) in
            let p = lexeme_there n.text lexeme in
            let named = named_of_usable t n.text p.0 p.1 in
            let attrs : symbol_attrs t n.text ≡ value_attr p.0 ∷ [] =
            ap (λ o. unwrap_or (or_else (option_and_then (λ k. option_map (λ (x : Nonterminal). x.attrs) (slice_get t.nonterminals k)) o) (option_map (attrs_of t.phyla) (phylum_named t n.text))) []) e
            ∙ ap (λ o. unwrap_or (option_map (attrs_of t.phyla) o) []) named ∙ lexeme_attrs t spec kept shapes p.0 p.2 in
            let number : phylum_in t n.text ≡ p.0 = ap (λ o. unwrap_or o 0) p.1 in
            (value_attr p.0, attrs, ap (λ q. cond (has_shape spec.phyla is_lexical_shape q && is_usable spec q) (Some (q ∷ [])) None) number ∙ lexical_typed p.0 p.2 (usable_is t n.text p.0 p.1))
          where
            either : (a b : Bool) → b ≡ false → (a || b) ≡ true → a ≡ true
            either true b e f = refl
            either false b e f = absurd (cc (e, f))

    pub parts_typed : (parts : List Part) → AreKnown (names_of ds) (flat_map part_uses parts) → (G : List ℕ) × (symbol_types spec (map (symbol_of (names_of ds)) parts) ≡ Some G) × PartsHave (names_of ds) parts G
    parts_typed [] h = ([], refl, refl)
    parts_typed (Literal s ∷ parts) h =
        let rest = parts_typed parts h in
        (rest.0, ap (option_map (λ qs. [] ++ qs)) rest.1, rest.2)
    parts_typed (Named n ∷ parts) h =
        let one = named_typed n h.0 in
        let rest = parts_typed parts h.1 in (
          one.0.of ∷ rest.0,
          ap (option_and_then (λ ps. option_map (λ qs. ps ++ qs) (symbol_types spec (map (symbol_of (names_of ds)) parts)))) one.2 ∙ ap (option_map (λ qs. one.0.of ∷ qs)) rest.1,
          (one.0, rest.0, one.1, refl, rest.2),
        )
