-- The phyla and operators of a table of names, and what finds them.
use Rattle.std.proofs.Common.{◌≡◌, ℕ, bytes_eq, List, length, map, Some, slice_get, option_map, unwrap_or, refl, sym, ap, ◌∙◌}
use Rattle.std.specs.List.{AllByRecursion, position}
use Rattle.sg_kinds.specs.Values.{Bytes}
use Rattle.sg_kinds.specs.declared.spec.Phylum.{Phylum}
use Rattle.sg_kinds.specs.declared.spec.Operator.{Operator}
use Rattle.sg_kinds.specs.declared.spec.Attr.{Attr}
use Rattle.sg_kinds.specs.declared.spec.Local.{Local}
use Rattle.sg_kinds.specs.declared.marks.Shape.{Shape}
use Rattle.sg_kinds.proofs.Elementary.{option_map_some}
use Rattle.sg_ast.specs.Declarations.{Decl}
use Rattle.sg_ast.specs.FirstFault.{first}
use Rattle.sg_names.specs.declared.heads.Head.{Head}
use Rattle.sg_names.specs.Heads.{is_head}
use Rattle.sg_names.specs.Names.{map_from, phylum, owned, owners, listings_of, attributes_of, locals_of, with_local, with_locals, operators_in, phyla_in, root_at, names_of}
use Rattle.sg_names.specs.Lookups.{phylum_named}
use Rattle.sg_names.proofs.TableMade.{phylum_place}
use Rattle.sg_names.proofs.OpPlaces.{map_from_length}
use Rattle.sg_resolve.proofs.ShapeLists.{from_at, each_from}
use Rattle.sg_resolve.proofs.ShapeFacts.{Finds, finds_place}

-- the operators of declarations without their locals; what a phylum owns
abbrev pub plain_ops : List Decl → List Operator
plain_ops ds = operators_in (phyla_in ds) ds

abbrev pub own_listings : List Decl → ℕ → List Shape
own_listings ds = listings_of (phyla_in ds) ds

abbrev pub own_ops : List Decl → ℕ → List ℕ
own_ops ds = owned (owners (plain_ops ds))

abbrev pub own_attrs : List Decl → ℕ → List Attr
own_attrs ds = attributes_of (phyla_in ds) (phyla_in ds) ds

abbrev pub own_locals : List Decl → ℕ → List Local
own_locals ds = locals_of (phyla_in ds) (plain_ops ds) ds

abbrev pub phylum_made : List Decl → ℕ → Head → Phylum
phylum_made ds = phylum (phyla_in ds) (own_listings ds) (own_ops ds) (own_attrs ds)

pub phyla_are : (ds : List Decl) → (names_of ds).phyla ≡ map_from (phylum_made ds) 0 (phyla_in ds)
unfolding names_of
phyla_are ds = refl

pub ops_are : (ds : List Decl) → (names_of ds).ops ≡ with_locals (own_locals ds) (plain_ops ds)
unfolding names_of
ops_are ds = refl

pub root_is : (ds : List Decl) → (names_of ds).root ≡ unwrap_or (first (root_at (phyla_in ds)) ds) 0
unfolding names_of
root_is ds = refl

pub places_are : (ds : List Decl) → (names_of ds).phylum_places ≡ map (λ (h : Head). h.place) (phyla_in ds)
unfolding names_of
places_are ds = refl

pub phyla_count : (ds : List Decl) → length (names_of ds).phyla ≡ length (phyla_in ds)
phyla_count ds = ap (λ (l : List Phylum). length l) (phyla_are ds) ∙ map_from_length (phylum_made ds) 0 (phyla_in ds)

-- a phylum is made of its first definition
pub phylum_is : (ds : List Decl) (p : ℕ) (x : Phylum) → slice_get (names_of ds).phyla p ≡ Some x → (h : Head) × (slice_get (phyla_in ds) p ≡ Some h) × (phylum_made ds p h ≡ x)
phylum_is ds p x e = option_map_some (phylum_made ds p) (slice_get (phyla_in ds) p) x (sym (from_at (phylum_made ds) (phyla_in ds) p) ∙ ap (λ (l : List Phylum). slice_get l p) (sym (phyla_are ds)) ∙ e)

pub phylum_there : (ds : List Decl) (p : ℕ) (h : Head) → slice_get (phyla_in ds) p ≡ Some h → slice_get (names_of ds).phyla p ≡ Some (phylum_made ds p h)
phylum_there ds p h e = ap (λ (l : List Phylum). slice_get l p) (phyla_are ds) ∙ from_at (phylum_made ds) (phyla_in ds) p ∙ ap (option_map (phylum_made ds p)) e

-- what a name means by the table
pub named_is : (ds : List Decl) (n : Bytes) → phylum_named (names_of ds) n ≡ position (is_head n) (phyla_in ds)
named_is ds n = ap (λ (l : List Phylum). position (λ (x : Phylum). bytes_eq n x.name) l) (phyla_are ds) ∙ phylum_place (own_listings ds) (own_ops ds) (own_attrs ds) (phyla_in ds) (phyla_in ds) n

pub named_finds : (ds : List Decl) (n : Bytes) (k : ℕ) → phylum_named (names_of ds) n ≡ Some k → Finds (phyla_in ds) n k
named_finds ds n k e = finds_place (phyla_in ds) n k (sym (named_is ds n) ∙ e)

-- what holds of operators whatever their locals, and of all locals
pub each_op : (P : Operator → Type 0) (ds : List Decl) → AllByRecursion (λ o. (k : ℕ) → P (with_local (own_locals ds) k o)) (plain_ops ds) → AllByRecursion P (names_of ds).ops
unfolding names_of
each_op P ds a = each_from P (with_local (own_locals ds)) 0 (plain_ops ds) a
