-- Each attribute of the table of declarations is written.
use Rattle.std.proofs.Common.{◌≡◌, refl, sym, ap, ◌∙◌, ℕ, zero, suc, Bool, true, false, cond, nat_eq, not, if◌then◌else◌, List, [], ◌∷◌, ◌++◌, map, length, Some, slice_get}
use Rattle.std.specs.Prelude.{count_by, filter}
use Rattle.std.specs.List.{AllByRecursion}
use Rattle.std.proofs.lemmas.List.Sums.{length-filter}
use Rattle.sg_kinds.specs.Far.{is_far, is_written}
use Rattle.sg_kinds.specs.Specification.{attrs_of, is_leaf_shape}
use Rattle.sg_kinds.specs.declared.marks.Shape.{Shape}
use Rattle.sg_kinds.specs.declared.spec.Attr.{Attr}
use Rattle.sg_kinds.specs.declared.spec.Far.{Far}
use Rattle.sg_kinds.specs.declared.spec.Phylum.{Phylum}
use Rattle.sg_ast.specs.declared.decl.AttrDecl.{AttrDecl}
use Rattle.sg_ast.specs.Declarations.{Decl, Attributes}
use Rattle.sg_names.specs.declared.heads.Head.{Head}
use Rattle.sg_names.specs.Heads.{number_in}
use Rattle.sg_names.specs.Names.{map_from, owned, owners, attribute, attributes_at, attributes_in, attributes_of, attrs_there, value_attr, shape_of, lexemes_before, phylum, listings_of, operators_in, phyla_in, names_of}

abbrev pub AreWritten : List Attr → Type 0
AreWritten attrs = AllByRecursion (λ (a : Attr). a.far ≡ []) attrs

-- what an owner has by declarations
own_written : (phyla : List Head) (owner k : ℕ) (attrs : List AttrDecl) (rest : List (ℕ × Attr)) → AreWritten (owned rest k) → AreWritten (owned (map (attribute phyla owner) attrs ++ rest) k)
own_written phyla owner k [] rest h = h
own_written phyla owner k (a ∷ attrs) rest h = by (nat_eq owner k) (own_written phyla owner k attrs rest h)
  where
    by : (b : Bool) → AreWritten (owned (map (attribute phyla owner) attrs ++ rest) k) → AreWritten ((if b then (attribute phyla owner a).1 ∷ [] else []) ++ owned (map (attribute phyla owner) attrs ++ rest) k)
    by true more = (refl, more)
    by false more = more

decl_written : (owners phyla : List Head) (k : ℕ) (d : Decl) (rest : List (ℕ × Attr)) → AreWritten (owned rest k) → AreWritten (owned (attributes_at owners phyla d ++ rest) k)
decl_written owners phyla k (Attributes n attrs) rest h = own_written phyla (number_in owners n.text) k attrs rest h
decl_written owners phyla k d rest h = h

all_written : (owners phyla : List Head) (k : ℕ) (ds : List Decl) → AreWritten (attributes_of owners phyla ds k)
all_written owners phyla k [] = tt
all_written owners phyla k (d ∷ ds) = decl_written owners phyla k d (attributes_in owners phyla ds) (all_written owners phyla k ds)

there_written : (attrs : List Attr) (k : ℕ) (s : Shape) → AreWritten attrs → AreWritten (attrs_there attrs k s)
there_written attrs k s h = by (is_leaf_shape s)
  where
    by : (b : Bool) → AreWritten (if b then value_attr k ∷ [] else attrs)
    by true = (refl, tt)
    by false = h

made_written : (all : List Head) (l : ℕ → List Shape) (o : ℕ → List ℕ) (a : ℕ → List Attr) → ((k : ℕ) → AreWritten (a k)) → (k : ℕ) (heads : List Head) → AllByRecursion (λ (x : Phylum). AreWritten x.attrs) (map_from (phylum all l o a) k heads)
made_written all l o a h k [] = tt
made_written all l o a h k (x ∷ xs) = (there_written (a k) k (shape_of (lexemes_before all k) (l k) k x) (h k), made_written all l o a h (suc k) xs)

-- the attributes of each phylum
pub attrs_written : (ds : List Decl) → AllByRecursion (λ (x : Phylum). AreWritten x.attrs) (names_of ds).phyla
unfolding names_of
attrs_written ds =
    made_written (phyla_in ds) (listings_of (phyla_in ds) ds) (owned (owners (operators_in (phyla_in ds) ds))) (attributes_of (phyla_in ds) (phyla_in ds) ds)
    (λ k. all_written (phyla_in ds) (phyla_in ds) k ds) 0 (phyla_in ds)

written_in : (phyla : List Phylum) → AllByRecursion (λ (x : Phylum). AreWritten x.attrs) phyla → (p : ℕ) → AreWritten (attrs_of phyla p)
written_in [] h p = tt
written_in (x ∷ xs) h zero = h.0
written_in (x ∷ xs) h (suc p) = written_in xs h.1 p

pub written_there : (ds : List Decl) (p : ℕ) → AreWritten (attrs_of (names_of ds).phyla p)
written_there ds p = written_in (names_of ds).phyla (attrs_written ds) p

is_first_written : (fs : List Far) → fs ≡ [] → nat_eq (length fs) 0 ≡ true
is_first_written fs h = ap (λ l. nat_eq (length l) 0) h

-- written ones, and no far ones
pub only_written : (xs : List Attr) → AreWritten xs → filter is_written xs ≡ xs
only_written [] h = refl
only_written (a ∷ xs) h =
    ap (λ b. cond b (a ∷ filter is_written xs) (filter is_written xs)) (is_first_written a.far h.0) ∙ ap (λ l. a ∷ l) (only_written xs h.1)

none_far : (xs : List Attr) → AreWritten xs → filter is_far xs ≡ []
none_far [] h = refl
none_far (a ∷ xs) h =
    ap (λ b. cond (not b) (a ∷ filter is_far xs) (filter is_far xs)) (is_first_written a.far h.0) ∙ none_far xs h.1

pub written_count : (xs : List Attr) → AreWritten xs → count_by is_written xs ≡ length xs
written_count xs h = sym (length-filter is_written xs) ∙ ap length (only_written xs h)

pub far_count : (xs : List Attr) → AreWritten xs → count_by is_far xs ≡ 0
far_count xs h = sym (length-filter is_far xs) ∙ ap length (none_far xs h)

pub not_far : (xs : List Attr) → AreWritten xs → (s : ℕ) (a : Attr) → slice_get xs s ≡ Some a → is_far a ≡ false
not_far [] h s a e = cc
not_far (x ∷ xs) h zero a e =
    let same : x ≡ a = cc in
    ap (λ (y : Attr). not (nat_eq (length y.far) 0)) (sym same) ∙ ap not (is_first_written x.far h.0)
not_far (x ∷ xs) h (suc s) a e = not_far xs h.1 s a e

-- the written attributes of the table are all of it
pub only_written_there : (ds : List Decl) (p : ℕ) → filter is_written (attrs_of (names_of ds).phyla p) ≡ attrs_of (names_of ds).phyla p
only_written_there ds p = only_written (attrs_of (names_of ds).phyla p) (written_there ds p)
