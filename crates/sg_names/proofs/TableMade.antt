-- A table from what its parts own.
use Rattle.std.proofs.Common.{◌≡◌, ℕ, suc, ◌+◌, List, [], ◌∷◌, bytes_eq, refl, sym, ap, ◌∙◌, Some, cond, map, flat_map, unwrap_or}
use Rattle.std.specs.List.{position, position_from}
use Rattle.sg_kinds.specs.declared.marks.Shape.{Shape}
use Rattle.sg_kinds.specs.declared.spec.Attr.{Attr}
use Rattle.sg_kinds.specs.declared.spec.Local.{Local}
use Rattle.sg_kinds.specs.declared.spec.Operator.{Operator}
use Rattle.sg_kinds.specs.declared.spec.Phylum.{Phylum}
use Rattle.sg_names.specs.declared.heads.Head.{Head}
use Rattle.sg_names.specs.declared.table.Nonterminal.{Nonterminal}
use Rattle.sg_names.specs.Heads.{is_head}
use Rattle.sg_kinds.specs.declared.fault.Position.{Position}
use Rattle.sg_ast.specs.Declarations.{Decl}
use Rattle.sg_ast.specs.FirstFault.{first}
use Rattle.sg_ast.specs.Parts.{op_places_at}
use Rattle.sg_names.specs.declared.table.Signature.{Signature}
use Rattle.sg_names.specs.declared.table.Table.{Table}
use Rattle.sg_names.specs.Names.{map_from, phylum, nonterminal, with_locals, owned, owners, listings_of, attributes_of, locals_of, function_at, root_at, operators_in, phyla_in, nonterminals_in, table_from, names_of}
use Rattle.sg_names.proofs.Firsts.{from_zero}

pub phyla_made : {made : List Phylum} (heads slice : List Head) (l l' : ℕ → List Shape) (o o' : ℕ → List ℕ) (a a' : ℕ → List Attr) → slice ≡ heads
    → ((k : ℕ) → l k ≡ l' k) → ((k : ℕ) → o k ≡ o' k) → ((k : ℕ) → a k ≡ a' k)
    → made ≡ map_from (phylum slice l o a) 0 slice → made ≡ map_from (phylum heads l' o' a') 0 heads
phyla_made heads slice l l' o o' a a' same el eo ea is = is ∙ (λ i. map_from (phylum (same i) (λ k. el k i) (λ k. eo k i) (λ k. ea k i)) 0 (same i))

pub nonterminals_made : {made : List Nonterminal} (heads slice : List Head) (a a' : ℕ → List Attr) → slice ≡ heads → ((k : ℕ) → a k ≡ a' k)
    → made ≡ map_from (nonterminal a) 0 slice → made ≡ map_from (nonterminal a') 0 heads
nonterminals_made heads slice a a' same ea is = is ∙ (λ i. map_from (nonterminal (λ k. ea k i)) 0 (same i))

pub ops_made : {made : List Operator} (ops bare : List Operator) (l l' : ℕ → List Local) → ops ≡ bare → ((k : ℕ) → l k ≡ l' k)
    → made ≡ with_locals l ops → made ≡ with_locals l' bare
ops_made ops bare l l' same el is = is ∙ (λ i. with_locals (λ k. el k i) (same i))

-- names of what is made are the names of the definitions
place_made : {A : Type 0} (name : A → List ℕ) (f : ℕ → Head → A) (n : List ℕ) → ((k : ℕ) (h : Head) → name (f k h) ≡ h.name)
    → (s i : ℕ) (heads : List Head) → position_from (λ x. bytes_eq n (name x)) i (map_from f s heads) ≡ position_from (is_head n) i heads
place_made name f n same s i [] = refl
place_made name f n same s i (h ∷ hs) =
    ap (λ m. cond (bytes_eq n m) (Some i) (position_from (λ x. bytes_eq n (name x)) (i + 1) (map_from f (suc s) hs))) (same s h)
    ∙ ap (λ o. cond (bytes_eq n h.name) (Some i) o) (place_made name f n same (suc s) (i + 1) hs)

pub phylum_place : (l : ℕ → List Shape) (o : ℕ → List ℕ) (a : ℕ → List Attr) (heads all : List Head) (n : List ℕ) → position (λ (x : Phylum). bytes_eq n x.name) (map_from (phylum all l o a) 0 heads) ≡ position (is_head n) heads
phylum_place l o a heads all n =
    from_zero (λ (x : Phylum). bytes_eq n x.name) (map_from (phylum all l o a) 0 heads)
    ∙ place_made (λ (x : Phylum). x.name) (phylum all l o a) n (λ k h. refl) 0 0 heads ∙ sym (from_zero (is_head n) heads)

pub nonterminal_place : (a : ℕ → List Attr) (heads : List Head) (n : List ℕ) → position (λ (x : Nonterminal). bytes_eq n x.name) (map_from (nonterminal a) 0 heads) ≡ position (is_head n) heads
nonterminal_place a heads n =
    from_zero (λ (x : Nonterminal). bytes_eq n x.name) (map_from (nonterminal a) 0 heads)
    ∙ place_made (λ (x : Nonterminal). x.name) (nonterminal a) n (λ k h. refl) 0 0 heads ∙ sym (from_zero (is_head n) heads)

-- the table from its fields
pub table_made : (heads others : List Head) (ds : List Decl) (bare slice : List Operator) (p : List Phylum) (o : List Operator) (f : List Signature) (n : List Nonterminal) (r : ℕ) (pp op : List Position)
    → bare ≡ operators_in heads ds → slice ≡ bare
    → p ≡ map_from (phylum heads (listings_of heads ds) (owned (owners slice)) (attributes_of heads heads ds)) 0 heads
    → o ≡ with_locals (locals_of heads bare ds) bare → f ≡ flat_map (function_at heads) ds
    → n ≡ map_from (nonterminal (attributes_of others heads ds)) 0 others → r ≡ unwrap_or (first (root_at heads) ds) 0
    → pp ≡ map (λ (h : Head). h.place) heads → op ≡ flat_map op_places_at ds
    → record { phyla = p; ops = o; functions = f; nonterminals = n; root = r; phylum_places = pp; op_places = op } ≡ table_from heads others (operators_in heads ds) ds
table_made heads others ds bare slice p o f n r pp op is same ep eo ef en er epp eop =
    let p' : p ≡ map_from (phylum heads (listings_of heads ds) (owned (owners (operators_in heads ds))) (attributes_of heads heads ds)) 0 heads =
    ep ∙ ap (λ (b : List Operator). map_from (phylum heads (listings_of heads ds) (owned (owners b)) (attributes_of heads heads ds)) 0 heads) (same ∙ is) in
    let o' : o ≡ with_locals (locals_of heads (operators_in heads ds) ds) (operators_in heads ds) = eo ∙ ap (λ (b : List Operator). with_locals (locals_of heads b ds) b) is in
    λ i. record { phyla = p' i; ops = o' i; functions = ef i; nonterminals = en i; root = er i; phylum_places = epp i; op_places = eop i }

-- the table of the definitions
pub named : (heads others : List Head) (ds : List Decl) (t : Table) → t ≡ table_from heads others (operators_in heads ds) ds → heads ≡ phyla_in ds → others ≡ nonterminals_in ds → t ≡ names_of ds
unfolding names_of
named heads others ds t is h o = is ∙ (λ i. table_from (h i) (o i) (operators_in (h i) ds) ds)
