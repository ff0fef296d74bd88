-- The entries of the record.
use Rattle.std.proofs.Common.{◌≡◌, ◌≢◌, ℕ, zero, suc, ◌+◌, ◌<◌, Bool, true, false, ◌||◌, if◌then◌else◌, List, [], ◌∷◌, ◌++◌, map, flat_map, length, Option, Some, None, slice_get, nat_eq, refl, sym, ap, subst, ◌∙◌, arith}
use Rattle.std.specs.Prelude.{is_some, option_map, unwrap_or, IsTrue, MatchOption}
use Rattle.std.specs.List.{AllByRecursion as Each, AllPairs, list_any}
use Rattle.std.proofs.lemmas.List.{length-map}
use Rattle.std.proofs.lemmas.List.Elements.{All-from_recursion}
use Rattle.sg_kinds.specs.Values.{Bytes}
use Rattle.sg_kinds.specs.Sound.{HasEntries, result_type}
use Rattle.sg_kinds.specs.Typing.{is_usable, is_accepted, is_found}
use Rattle.sg_kinds.specs.declared.fault.SpecFault.TheVariants.{EntryTwice, EntryType}
use Rattle.sg_kinds.specs.declared.spec.Attr.{Attr}
use Rattle.sg_kinds.specs.declared.spec.Entry.{Entry}
use Rattle.sg_kinds.specs.declared.spec.Spec.{Spec}
use Rattle.sg_kinds.proofs.Elementary.{eq_itself}
use Rattle.sg_ast.specs.declared.name.Name.{Name}
use Rattle.sg_ast.specs.Declarations.{Decl}
use Rattle.sg_ast.specs.Declarations as decl
use Rattle.sg_ast.specs.FirstFault.{repeat_from, first_repeat}
use Rattle.sg_ast.proofs.FirstLaws.{first-none}
use Rattle.sg_names.specs.declared.table.Table.{Table}
use Rattle.sg_names.specs.Drafted.{drafted, HasTable}
use Rattle.sg_names.specs.Lookups.{nonterminal_named, usable_named, symbol_attrs, symbol_type, attr_type}
use Rattle.sg_names.specs.UnknownName.{unless_known, unknown_at}
use Rattle.sg_names.specs.Uses.{UsesResult, decl_uses}
use Rattle.sg_names.proofs.DraftedLaws.{accepted_kept, usable_kept}
use Rattle.sg_remote.specs.Longer.{names_of}
use Rattle.sg_types.specs.Types as types
use Rattle.sg_typing.proofs.TableFacts.{usable_is}
use Rattle.sg_record.specs.Entries.{entered, twice_at, entry_twice, type_fault, entry_type}
use Rattle.sg_record.specs.Record.{phylum_in, nonterminal_in, entry_at}
use Rattle.sg_record.proofs.Known.{AreKnown, phylum_known}
use Rattle.sg_record.proofs.Lists.{any_left, any_right, each_both, each_flat, each_weaker}
use Rattle.sg_record.proofs.Symbols.{one_type}

-- elements of which no two are equal
EachPair : {A : Type 0} → (A → A → Type 0) → List A → Type 0
EachPair R [] = Unit {0}
EachPair R (x ∷ xs) = Each (R x) xs × EachPair R xs

pairs_of : {A : Type 0} (R : A → A → Type 0) (xs : List A) → EachPair R xs → AllPairs R xs
unfolding EachPair
pairs_of R [] h i j d l m = absurd (omega (arith, m))
pairs_of R (x ∷ xs) h i zero d l m = absurd (omega (arith, l))
pairs_of R (x ∷ xs) h zero (suc j) d l m = All-from_recursion (R x) xs h.0 j d (omega (arith, m))
pairs_of R (x ∷ xs) h (suc i) (suc j) d l m = pairs_of R xs h.1 i j d (omega (arith, l)) (omega (arith, m))

-- a list without repeats
later_other : (before : List ℕ) (place : ℕ) (xs : List ℕ) (y : ℕ) → list_any (λ z. nat_eq z y) before ≡ true → repeat_from nat_eq before place xs ≡ None → Each (λ x. y ≢ x) xs
later_other before place [] y seen h = tt
later_other before place (x ∷ xs) y seen h = by (list_any (λ z. nat_eq z x) before) refl h (later_other (before ++ x ∷ []) (suc place) xs y (any_left (λ z. nat_eq z y) before (x ∷ []) seen))
  where
    by : (b : Bool) → list_any (λ z. nat_eq z x) before ≡ b → (if b then Some place else repeat_from nat_eq (before ++ x ∷ []) (suc place) xs) ≡ None
        → (repeat_from nat_eq (before ++ x ∷ []) (suc place) xs ≡ None → Each (λ z. y ≢ z) xs) → Each (λ z. y ≢ z) (x ∷ xs)
    by true e f rest = absurd (cc f)
    by false e f rest = ((λ same. absurd (cc (sym e ∙ ap (λ n. list_any (λ z. nat_eq z n) before) (sym same) ∙ seen))), rest f)

no_two : (before : List ℕ) (place : ℕ) (xs : List ℕ) → repeat_from nat_eq before place xs ≡ None → EachPair ◌≢◌ xs
unfolding EachPair
no_two before place [] h = tt
no_two before place (x ∷ xs) h = by (list_any (λ z. nat_eq z x) before) h (no_two (before ++ x ∷ []) (suc place) xs)
  where
    by : (b : Bool) → (if b then Some place else repeat_from nat_eq (before ++ x ∷ []) (suc place) xs) ≡ None → (repeat_from nat_eq (before ++ x ∷ []) (suc place) xs ≡ None → EachPair ◌≢◌ xs) → Each (λ z. x ≢ z) xs × EachPair ◌≢◌ xs
    by true f rest = absurd (cc f)
    by false f rest = (later_other (before ++ x ∷ []) (suc place) xs x (any_right (λ z. nat_eq z x) before (x ∷ []) (ap (λ b. b || false) (eq_itself x))) f, rest f)

-- the place of a repeat is in the list
repeat_within : (before : List ℕ) (place : ℕ) (xs : List ℕ) (k : ℕ) → repeat_from nat_eq before place xs ≡ Some k → k < place + length xs
repeat_within before place [] k h = absurd (cc h)
repeat_within before place (x ∷ xs) k h = by (list_any (λ z. nat_eq z x) before) h (repeat_within (before ++ x ∷ []) (suc place) xs k)
  where
    by : (b : Bool) → (if b then Some place else repeat_from nat_eq (before ++ x ∷ []) (suc place) xs) ≡ Some k → (repeat_from nat_eq (before ++ x ∷ []) (suc place) xs ≡ Some k → k < suc place + length xs) → k < place + suc (length xs)
    by true f rest = let same : place ≡ k = cc f in omega (arith, same)
    by false f rest = let low : k < suc place + length xs = rest f in omega (arith, low)

name_there : (xs : List Name) (k : ℕ) → k < length xs → (n : Name) × (slice_get xs k ≡ Some n)
name_there [] k h = absurd (omega (arith, h))
name_there (x ∷ xs) zero h = (x, refl)
name_there (x ∷ xs) (suc k) h = name_there xs k (omega (arith, h))

never_twice : (t : Table) (ds : List Decl) → entry_twice t ds ≡ None → first_repeat nat_eq (map (λ (n : Name). phylum_in t n.text) (entered ds)) ≡ None
never_twice t ds h = by (first_repeat nat_eq (map (λ (n : Name). phylum_in t n.text) (entered ds))) refl h
  where
    by : (o : Option ℕ) → first_repeat nat_eq (map (λ (n : Name). phylum_in t n.text) (entered ds)) ≡ o → twice_at (entered ds) o ≡ None → first_repeat nat_eq (map (λ (n : Name). phylum_in t n.text) (entered ds)) ≡ None
    by None e f = e
    by (Some k) e f =
        let low : k < 0 + length (map (λ (n : Name). phylum_in t n.text) (entered ds)) = repeat_within [] 0 (map (λ (n : Name). phylum_in t n.text) (entered ds)) k e in
        let count : length (map (λ (n : Name). phylum_in t n.text) (entered ds)) ≡ length (entered ds) = length-map (entered ds) (λ (n : Name). phylum_in t n.text) in
        let n = name_there (entered ds) k (omega (arith, low, count)) in
        absurd (cc (ap (option_map (λ (m : Name). EntryTwice m.place m.text)) n.1, f))

-- the phyla of entries, as they are written
same_phyla : (t : Table) (ds : List Decl) → map (λ (x : Entry). x.phylum) (flat_map (entry_at t) ds) ≡ map (λ (n : Name). phylum_in t n.text) (entered ds)
same_phyla t [] = refl
same_phyla t (decl.Entry n m a ∷ ds) = ap (λ (l : List ℕ). phylum_in t n.text ∷ l) (same_phyla t ds)
same_phyla t (d ∷ ds) = same_phyla t ds

pairs_mapped : (es : List Entry) → EachPair ◌≢◌ (map (λ (x : Entry). x.phylum) es) → EachPair (λ (x y : Entry). x.phylum ≢ y.phylum) es
unfolding EachPair
pairs_mapped [] h = tt
pairs_mapped (e ∷ es) h = (unmapped es h.0, pairs_mapped es h.1)
  where
    unmapped : (xs : List Entry) → Each (λ p. e.phylum ≢ p) (map (λ (x : Entry). x.phylum) xs) → Each (λ (y : Entry). e.phylum ≢ y.phylum) xs
    unmapped [] g = tt
    unmapped (x ∷ xs) g = (g.0, unmapped xs g.1)

-- a result that is used is of a nonterminal
result_known : (t : Table) (m a : Name) → unknown_at t (UsesResult m a) ≡ None → (k : ℕ) × (nonterminal_named t m.text ≡ Some k)
result_known t m a h = by (nonterminal_named t m.text) refl h
  where
    by : (o : Option ℕ) → nonterminal_named t m.text ≡ o → (if is_some o then unless_known (is_some (symbol_type t m.text a.text)) a else unless_known false m) ≡ None → (k : ℕ) × (nonterminal_named t m.text ≡ Some k)
    by None e f = absurd (cc f)
    by (Some k) e f = (k, e)

-- a type that is accepted
accepted_there : (t : Table) (p : ℕ) (o : Option ℕ) → is_found (drafted t) p o ≡ true → (q : ℕ) × (o ≡ Some q) × (is_accepted (drafted t) q p ≡ true)
accepted_there t p None h = absurd (cc h)
accepted_there t p (Some q) h = (q, refl, h)

module _ (ds : List Decl) (spec : Spec) (kept : HasTable (names_of ds) spec) (results : (n : Bytes) (k : ℕ) → nonterminal_named (names_of ds) n ≡ Some k → (a : Attr) × (symbol_attrs (names_of ds) n ≡ a ∷ []) × (result_type spec k ≡ Some a.of)) where
  abbrev IsEntered : Entry → Type 0
  IsEntered x = IsTrue (is_usable spec x.phylum) × MatchOption (result_type spec x.nonterminal) ⊥ (λ p. IsTrue (is_accepted spec p x.phylum))

  entry_fine : (d : Decl) → AreKnown (names_of ds) (decl_uses (names_of ds) d) × (type_fault (names_of ds) d ≡ None) → Each IsEntered (entry_at (names_of ds) d)
  entry_fine (decl.Entry n m a) h =
      let t = names_of ds in
      let p = phylum_known t n h.0.0 in
      let phylum : phylum_in t n.text ≡ p.0 = ap (λ o. unwrap_or o 0) p.1 in
      let k = result_known t m a h.0.1.0 in
      let number : nonterminal_in t m.text ≡ k.0 = ap (λ o. unwrap_or o 0) k.1 in
      let r = results m.text k.0 k.1 in
      let test : types.fits_where t (usable_named t n.text) (symbol_type t m.text a.text) ≡ true = passes (types.fits_where t (usable_named t n.text) (symbol_type t m.text a.text)) h.1 in
      let found : is_found (drafted t) p.0 (symbol_type t m.text a.text) ≡ true = ap (λ o. types.fits_where t o (symbol_type t m.text a.text)) (sym p.1) ∙ test in
      let q = accepted_there t p.0 (symbol_type t m.text a.text) found in
      let of : r.0.of ≡ q.0 = one_type r.0 a.text q.0 (ap (λ l. attr_type l a.text) (sym r.1) ∙ q.1) in
      let accepted : is_accepted spec r.0.of (phylum_in t n.text) ≡ true = (λ i. is_accepted spec (of i) (phylum i)) ∙ accepted_kept t spec kept q.0 p.0 ∙ q.2 in (
        (
          ap (is_usable spec) phylum ∙ usable_kept t spec kept p.0 ∙ usable_is t n.text p.0 p.1,
          subst (λ (o : Option ℕ). MatchOption o ⊥ (λ x. IsTrue (is_accepted spec x (phylum_in t n.text)))) (sym (ap (result_type spec) number ∙ r.2)) accepted,
        ),
        tt,
      )
    where
      passes : (b : Bool) → (if b then None else Some (EntryType n.place n.text)) ≡ None → b ≡ true
      passes true e = refl
      passes false e = absurd (cc e)
  entry_fine d h = tt

  pub record_entries : spec.entries ≡ flat_map (entry_at (names_of ds)) ds → Each (λ d. AreKnown (names_of ds) (decl_uses (names_of ds) d)) ds → entry_twice (names_of ds) ds ≡ None → entry_type (names_of ds) ds ≡ None → HasEntries spec
  record_entries made known once typed = record {
    once = pairs_of (λ (x y : Entry). x.phylum ≢ y.phylum) spec.entries
        (pairs_mapped spec.entries (subst (EachPair ◌≢◌) (sym (ap (map (λ (x : Entry). x.phylum)) made ∙ same_phyla (names_of ds) ds)) (no_two [] 0 (map (λ (n : Name). phylum_in (names_of ds) n.text) (entered ds)) (never_twice (names_of ds) ds once))));
    usable = All-from_recursion (λ (x : Entry). IsTrue (is_usable spec x.phylum)) spec.entries (part (λ x h. h.0));
    results = All-from_recursion (λ (x : Entry). MatchOption (result_type spec x.nonterminal) ⊥ (λ p. IsTrue (is_accepted spec p x.phylum))) spec.entries (part (λ x h. h.1));
  }
    where
      all : Each IsEntered spec.entries
      all = subst (Each IsEntered) (sym made)
          (each_flat IsEntered (λ d. AreKnown (names_of ds) (decl_uses (names_of ds) d) × (type_fault (names_of ds) d ≡ None)) (entry_at (names_of ds)) ds entry_fine
          (each_both (λ d. AreKnown (names_of ds) (decl_uses (names_of ds) d)) (λ d. type_fault (names_of ds) d ≡ None) ds known (first-none (type_fault (names_of ds)) ds typed)))

      part : {P : Entry → Type 0} → ((x : Entry) → IsEntered x → P x) → Each P spec.entries
      part {P} step = each_weaker IsEntered P spec.entries step all
