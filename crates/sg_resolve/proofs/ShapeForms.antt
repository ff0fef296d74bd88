-- The shape of a phylum, and what its operators and attributes are by it.
use Rattle.std.proofs.Common.{◌≡◌, ◌≢◌, ◌⊎◌, inl, inr, ℕ, ◌<◌, ◌≤◌, Bool, true, false, not, if◌then◌else◌, nat_eq, nat_lt, List, [], ◌∷◌, length, flat_map, Some, None, slice_get, option_map, unwrap_or, refl, sym, ap, subst, ◌∙◌, arith}
use Rattle.std.specs.Prelude.{option_and_then, IsTrue}
use Rattle.std.specs.List.{AllByRecursion}
use Rattle.std.proofs.lemmas.Bool.Decides.{nat_tests}
use Rattle.std.proofs.lemmas.Option.{slice_get_within}
use Rattle.std.proofs.lemmas.Bool.{and_parts}
use Rattle.sg_kinds.specs.Values.{Bytes}
use Rattle.sg_kinds.specs.declared.spec.Spec.{Spec}
use Rattle.sg_kinds.specs.declared.spec.Phylum.{Phylum}
use Rattle.sg_kinds.specs.declared.marks.Shape.{Shape}
use Rattle.sg_kinds.specs.declared.marks.Shape.TheVariants.{Truths, Numbers, Texts, Lexemes, Ordinary, Optional, Listed, OptionalListed}
use Rattle.sg_kinds.specs.declared.fault.SpecFault.TheVariants as fault
use Rattle.sg_kinds.specs.Specification.{truths, numbers, texts, args_of, is_leaf_shape}
use Rattle.sg_kinds.specs.Sound.{is_base_at, IsValue, args_count, IsPair, IsList, IsShaped}
use Rattle.sg_kinds.proofs.Elementary.{eq_true, eq_is}
use Rattle.sg_ast.specs.declared.name.Name.{Name}
use Rattle.sg_ast.specs.Declarations as decl
use Rattle.sg_ast.specs.Declarations.{Decl}
use Rattle.sg_ast.proofs.FirstLaws.{first-none}
use Rattle.sg_names.specs.declared.table.Table.{Table}
use Rattle.sg_names.specs.declared.heads.Head.{Head}
use Rattle.sg_names.specs.Heads.{number_in}
use Rattle.sg_names.specs.Names.{phyla_in, names_of, shape_of, value_attr, lexemes_before, listing_at}
use Rattle.sg_names.specs.Lookups.{phylum_named}
use Rattle.sg_names.specs.Shapes.{is_nullary, is_pair_of, is_list, ops_of, list_names, list_shape_at, list_shape, is_optional, optional_names, optional_shape_at, optional_shape}
use Rattle.sg_resolve.proofs.ShapeLists.{each_always, each_both, each_flat, each_implies, each_owned, each_unflat}
use Rattle.sg_resolve.proofs.ShapeFacts.{finds_number}
use Rattle.sg_resolve.proofs.ShapeTable.{own_listings, own_ops, own_attrs, phylum_made, phyla_count, named_is}

above : (p : ℕ) → 2 < p → nat_lt 2 p ≡ true
above p low = grind (arith, nat_tests)

-- the shape of a phylum is a leaf's, or what its first listing says
pub shape_cases : (P : Shape → Type 0) (l : ℕ) (ls : List Shape) (k : ℕ) (h : Head)
    → (h.lexical ≡ true → P (Lexemes l)) → (h.lexical ≡ false → k ≡ 0 → P Truths) → (h.lexical ≡ false → k ≡ 1 → P Numbers) → (h.lexical ≡ false → k ≡ 2 → P Texts)
    → (h.lexical ≡ false → 2 < k → P (unwrap_or (slice_get ls 0) Ordinary)) → P (shape_of l ls k h)
shape_cases P l ls k h lexeme zeroth first second rest = by h.lexical (nat_eq k truths) (nat_eq k numbers) (nat_eq k texts) refl refl refl refl
  where
    past : nat_eq k 0 ≡ false → nat_eq k 1 ≡ false → nat_eq k 2 ≡ false → 2 < k
    past a b c = grind (arith, nat_tests)

    by : (a b c d : Bool) → h.lexical ≡ a → nat_eq k truths ≡ b → nat_eq k numbers ≡ c → nat_eq k texts ≡ d
        → P (if a then Lexemes l else if b then Truths else if c then Numbers else if d then Texts else unwrap_or (slice_get ls 0) Ordinary)
    by true b c d ea eb ec ed = lexeme ea
    by false true c d ea eb ec ed = zeroth ea (eq_is k 0 eb)
    by false false true d ea eb ec ed = first ea (eq_is k 1 ec)
    by false false false true ea eb ec ed = second ea (eq_is k 2 ed)
    by false false false false ea eb ec ed = rest ea (past eb ec ed)

-- listings are of phyla with operators
listing_plain : (phyla : List Head) (d : Decl) → AllByRecursion (λ (x : ℕ × Shape). is_leaf_shape x.1 ≡ false) (listing_at phyla d)
listing_plain phyla (decl.Root n) = tt
listing_plain phyla (decl.Listed n) = (refl, tt)
listing_plain phyla (decl.Optional true n) = (refl, tt)
listing_plain phyla (decl.Optional false n) = (refl, tt)
listing_plain phyla (decl.Operators n alts) = tt
listing_plain phyla (decl.LexemeOf n s) = tt
listing_plain phyla (decl.Attributes n attrs) = tt
listing_plain phyla (decl.Equations n op locals es) = tt
listing_plain phyla (decl.Schemes n op view ss) = tt
listing_plain phyla (decl.Function t n params e) = tt
listing_plain phyla (decl.Transform n title q e) = tt
listing_plain phyla (decl.Productions n rights) = tt
listing_plain phyla (decl.Entry n m a) = tt
listing_plain phyla (decl.Precedence g ls place) = tt

first_plain : (ls : List Shape) → AllByRecursion (λ s. is_leaf_shape s ≡ false) ls → is_leaf_shape (unwrap_or (slice_get ls 0) Ordinary) ≡ false
first_plain [] a = refl
first_plain (s ∷ ls) a = a.0

pub not_leaf : (ds : List Decl) (p : ℕ) → is_leaf_shape (unwrap_or (slice_get (own_listings ds p) 0) Ordinary) ≡ false
not_leaf ds p =
    first_plain (own_listings ds p)
    (each_owned (λ k s. is_leaf_shape s ≡ false) p (flat_map (listing_at (phyla_in ds)) ds)
    (each_flat (λ (x : ℕ × Shape). is_leaf_shape x.1 ≡ false) (listing_at (phyla_in ds)) ds (each_always (λ d. AllByRecursion (λ (x : ℕ × Shape). is_leaf_shape x.1 ≡ false) (listing_at (phyla_in ds) d)) (listing_plain (phyla_in ds)) ds)))

-- the first three phyla are the base phyla
plain_base : (p : ℕ) (s : Shape) → 2 < p → is_leaf_shape s ≡ false → is_base_at p s ≡ true
plain_base p Truths past e = absurd (cc e)
plain_base p Numbers past e = absurd (cc e)
plain_base p Texts past e = absurd (cc e)
plain_base p (Lexemes l) past e = absurd (cc e)
plain_base p Ordinary past e = above p past
plain_base p Optional past e = above p past
plain_base p Listed past e = above p past
plain_base p OptionalListed past e = above p past

pub based : (ds : List Decl) (p : ℕ) (h : Head) → (h.lexical ≡ true → 2 < p) → IsTrue (is_base_at p (phylum_made ds p h).shape)
based ds p h past =
    shape_cases (λ s. is_base_at p s ≡ true) (lexemes_before (phyla_in ds) p) (own_listings ds p) p h
    (λ lexical. above p (past lexical)) (λ plain is. eq_true p 0 is) (λ plain is. eq_true p 1 is) (λ plain is. eq_true p 2 is)
    (λ plain low. plain_base p (unwrap_or (slice_get (own_listings ds p) 0) Ordinary) low (not_leaf ds p))

-- what a listing of a phylum says of its operators
abbrev pub Fits : Table → ℕ → List ℕ → Shape → Type 0
Fits t p ops Listed = is_list t (Some p) ops ≡ true
Fits t p ops OptionalListed = is_list t (Some p) ops ≡ true
Fits t p ops Optional = is_optional t ops ≡ true
Fits t p ops s = ⊥

abbrev pub IsListing : Table → ℕ → Shape → Type 0
IsListing t p s = (x : Phylum) → slice_get t.phyla p ≡ Some x → Fits t p x.ops s

named_at : (ds : List Decl) (n : Bytes) (x : Phylum) → slice_get (names_of ds).phyla (number_in (phyla_in ds) n) ≡ Some x → phylum_named (names_of ds) n ≡ Some (number_in (phyla_in ds) n)
named_at ds n x e =
    let low = slice_get_within (names_of ds).phyla (number_in (phyla_in ds) n) x e in
    named_is ds n ∙ (finds_number (phyla_in ds) n (omega (arith, low, phyla_count ds))).place

ops_at : (t : Table) (n : Name) (k : ℕ) (x : Phylum) → phylum_named t n.text ≡ Some k → slice_get t.phyla k ≡ Some x → ops_of t n ≡ x.ops
ops_at t n k x named e =
    ap (λ o. unwrap_or (option_map (λ (x : Phylum). x.ops) (option_and_then (slice_get t.phyla) o)) []) named ∙ ap (λ o. unwrap_or (option_map (λ (x : Phylum). x.ops) o) []) e

no_list_fault : (t : Table) (n : Name) → list_shape_at t n ≡ None → is_list t (phylum_named t n.text) (ops_of t n) ≡ true
no_list_fault t n e = by (is_list t (phylum_named t n.text) (ops_of t n)) e
  where
    by : (b : Bool) → (if b then None else Some (fault.ListShape n.place n.text)) ≡ None → b ≡ true
    by true e = refl
    by false e = absurd (cc e)

no_optional_fault : (t : Table) (n : Name) → optional_shape_at t n ≡ None → is_optional t (ops_of t n) ≡ true
no_optional_fault t n e = by (is_optional t (ops_of t n)) e
  where
    by : (b : Bool) → (if b then None else Some (fault.OptionalShape n.place n.text)) ≡ None → b ≡ true
    by true e = refl
    by false e = absurd (cc e)

list_fits : (ds : List Decl) (n : Name) → list_shape_at (names_of ds) n ≡ None → (x : Phylum) → slice_get (names_of ds).phyla (number_in (phyla_in ds) n.text) ≡ Some x
    → is_list (names_of ds) (Some (number_in (phyla_in ds) n.text)) x.ops ≡ true
list_fits ds n e x here =
    let named = named_at ds n.text x here in
    ap (λ o. is_list (names_of ds) o x.ops) (sym named) ∙ ap (is_list (names_of ds) (phylum_named (names_of ds) n.text)) (sym (ops_at (names_of ds) n (number_in (phyla_in ds) n.text) x named here))
    ∙ no_list_fault (names_of ds) n e

optional_fits : (ds : List Decl) (n : Name) → optional_shape_at (names_of ds) n ≡ None → (x : Phylum) → slice_get (names_of ds).phyla (number_in (phyla_in ds) n.text) ≡ Some x → is_optional (names_of ds) x.ops ≡ true
optional_fits ds n e x here =
    let named = named_at ds n.text x here in
    ap (is_optional (names_of ds)) (sym (ops_at (names_of ds) n (number_in (phyla_in ds) n.text) x named here)) ∙ no_optional_fault (names_of ds) n e

listing_of : (ds : List Decl) (d : Decl) → AllByRecursion (λ n. list_shape_at (names_of ds) n ≡ None) (list_names d) × AllByRecursion (λ n. optional_shape_at (names_of ds) n ≡ None) (optional_names d)
    → AllByRecursion (λ (x : ℕ × Shape). IsListing (names_of ds) x.0 x.1) (listing_at (phyla_in ds) d)
listing_of ds (decl.Root n) a = tt
listing_of ds (decl.Listed n) a = (list_fits ds n a.0.0, tt)
listing_of ds (decl.Optional true n) a = (list_fits ds n a.0.0, tt)
listing_of ds (decl.Optional false n) a = (optional_fits ds n a.1.0, tt)
listing_of ds (decl.Operators n alts) a = tt
listing_of ds (decl.LexemeOf n s) a = tt
listing_of ds (decl.Attributes n attrs) a = tt
listing_of ds (decl.Equations n op locals es) a = tt
listing_of ds (decl.Schemes n op view ss) a = tt
listing_of ds (decl.Function t n params e) a = tt
listing_of ds (decl.Transform n title q e) a = tt
listing_of ds (decl.Productions n rights) a = tt
listing_of ds (decl.Entry n m a) b = tt
listing_of ds (decl.Precedence g ls place) a = tt

-- where lists and optional phyla have no fault, the listings of each phylum fit it
pub listings_fit : (ds : List Decl) → list_shape (names_of ds) ds ≡ None → optional_shape (names_of ds) ds ≡ None → (p : ℕ) → AllByRecursion (IsListing (names_of ds) p) (own_listings ds p)
unfolding list_shape optional_shape
listings_fit ds e f p =
    let lists : AllByRecursion (λ d. AllByRecursion (λ n. list_shape_at (names_of ds) n ≡ None) (list_names d)) ds =
    each_unflat (λ n. list_shape_at (names_of ds) n ≡ None) list_names ds (first-none (list_shape_at (names_of ds)) (flat_map list_names ds) e) in
    let options : AllByRecursion (λ d. AllByRecursion (λ n. optional_shape_at (names_of ds) n ≡ None) (optional_names d)) ds =
    each_unflat (λ n. optional_shape_at (names_of ds) n ≡ None) optional_names ds (first-none (optional_shape_at (names_of ds)) (flat_map optional_names ds) f) in
    let List' = λ (d : Decl). AllByRecursion (λ n. list_shape_at (names_of ds) n ≡ None) (list_names d) in
    let Option' = λ (d : Decl). AllByRecursion (λ n. optional_shape_at (names_of ds) n ≡ None) (optional_names d) in
    each_owned (IsListing (names_of ds)) p (flat_map (listing_at (phyla_in ds)) ds)
    (each_flat (λ (x : ℕ × Shape). IsListing (names_of ds) x.0 x.1) (listing_at (phyla_in ds)) ds
    (each_implies (λ d. List' d × Option' d) (λ d. AllByRecursion (λ (x : ℕ × Shape). IsListing (names_of ds) x.0 x.1) (listing_at (phyla_in ds) d)) (listing_of ds) ds (each_both List' Option' ds lists options)))

-- what soundness asks of an operator's arguments
nullary_is : (args : List ℕ) → is_nullary args ≡ true → args ≡ []
nullary_is [] e = refl
nullary_is (a ∷ args) e = absurd (cc e)

other : (e p : ℕ) → not (nat_eq e p) ≡ true → e ≢ p
other e p h same = absurd (grind (arith, nat_tests))

pair_is : (p : ℕ) (args : List ℕ) → is_pair_of (Some p) args ≡ true → IsPair p args
pair_is p [] h = absurd (cc h)
pair_is p (e ∷ []) h = absurd (cc h)
pair_is p (e ∷ q ∷ []) h = let b = and_parts (not (nat_eq e p)) (nat_eq q p) h in (other e p b.0, eq_is q p b.1)
pair_is p (e ∷ q ∷ r ∷ args) h = absurd (cc h)

module _ (spec : Spec) (t : Table) (same_args : (op : ℕ) → args_of spec.ops op ≡ args_of t.ops op) where
  list_is : (p : ℕ) (ops : List ℕ) → is_list t (Some p) ops ≡ true → IsList spec p ops
  list_is p [] h = absurd (cc h)
  list_is p (nil ∷ []) h = absurd (cc h)
  list_is p (nil ∷ pair ∷ []) h =
      let b = and_parts (is_nullary (args_of t.ops nil)) (is_pair_of (Some p) (args_of t.ops pair)) h in
      (same_args nil ∙ nullary_is (args_of t.ops nil) b.0, subst (IsPair p) (sym (same_args pair)) (pair_is p (args_of t.ops pair) b.1))
  list_is p (nil ∷ pair ∷ op ∷ ops) h = absurd (cc h)

  optional_is : (ops : List ℕ) → is_optional t ops ≡ true → (2 ≤ length ops) × (args_count spec (slice_get ops 0) ≡ Some 0)
  optional_is [] h = absurd (cc h)
  optional_is (a ∷ []) h = absurd (cc h)
  optional_is (a ∷ b ∷ ops) h = (omega arith, ap (λ (l : List ℕ). Some (length l)) (same_args a ∙ nullary_is (args_of t.ops a) h))

  -- what a listing says is what soundness asks
  fits : (p : ℕ) (x : Phylum) (s : Shape) → Fits t p x.ops s → IsShaped spec p x s
  fits p x Listed f = list_is p x.ops f
  fits p x OptionalListed f = list_is p x.ops f
  fits p x Optional f = optional_is x.ops f
  fits p x Ordinary f = absurd f
  fits p x Truths f = absurd f
  fits p x Numbers f = absurd f
  fits p x Texts f = absurd f
  fits p x (Lexemes l) f = absurd f

  first_fits : (p : ℕ) (x : Phylum) (ls : List Shape) → slice_get t.phyla p ≡ Some x → AllByRecursion (IsListing t p) ls → (x.shape ≡ Ordinary → 1 ≤ length x.ops)
      → x.shape ≡ unwrap_or (slice_get ls 0) Ordinary → IsShaped spec p x (unwrap_or (slice_get ls 0) Ordinary)
  first_fits p x [] here a some e = some e
  first_fits p x (s ∷ ls) here a some e = fits p x s (a.0 x here)

  -- an ordinary phylum has an operator, a leaf none
  pub shaped : (ds : List Decl) (p : ℕ) (h : Head) → slice_get t.phyla p ≡ Some (phylum_made ds p h)
      → AllByRecursion (IsListing t p) (own_listings ds p) → ((h.lexical ≡ true) ⊎ (p < 3) → own_ops ds p ≡ []) → ((phylum_made ds p h).shape ≡ Ordinary → 1 ≤ length (own_ops ds p))
      → IsShaped spec p (phylum_made ds p h) (phylum_made ds p h).shape
  shaped ds p h here listings lone some =
      shape_cases (λ s. (phylum_made ds p h).shape ≡ s → IsShaped spec p (phylum_made ds p h) s) (lexemes_before (phyla_in ds) p) (own_listings ds p) p h
      (λ lexical e. (lone (inl lexical), value (ap is_leaf_shape e)))
      (λ plain zeroth e. (lone (inr (omega (arith, zeroth))), value (ap is_leaf_shape e)))
      (λ plain first e. (lone (inr (omega (arith, first))), value (ap is_leaf_shape e)))
      (λ plain second e. (lone (inr (omega (arith, second))), value (ap is_leaf_shape e)))
      (λ plain past e. first_fits p (phylum_made ds p h) (own_listings ds p) here listings some e) refl
    where
      value : is_leaf_shape (phylum_made ds p h).shape ≡ true → IsValue p (phylum_made ds p h).attrs
      value e = subst (λ b. IsValue p (if b then value_attr p ∷ [] else own_attrs ds p)) (sym e) refl
