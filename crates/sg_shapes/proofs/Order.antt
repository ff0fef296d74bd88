-- What the rows of shapes go along stands in the order of the text.
use Rattle.std.proofs.Common.{◌≡◌, ℕ, suc, Bool, true, false, if◌then◌else◌, List, [], ◌∷◌, ◌++◌, map, drop, fold, refl, sym, ap, ◌∙◌, subst, append_assoc, append-nil}
use Rattle.std.specs.Prelude.{flat_map}
use Rattle.std.specs.List.{list_any}
use Rattle.std.proofs.lemmas.List.{map-append}
use Rattle.sg_kinds.specs.declared.fault.Position.{Position}
use Rattle.sg_kinds.specs.declared.spec.Attr.{Attr}
use Rattle.sg_ast.specs.declared.name.Name.{Name}
use Rattle.sg_ast.specs.Declarations.{Decl, Root, Listed, Optional, Operators, LexemeOf, Productions}
use Rattle.sg_ast.specs.Rising.{places_of, SomeOf, nothing, passed, taken}
use Rattle.sg_ast.proofs.RisingLaws.{some_of_each, some_some}
use Rattle.sg_names.specs.declared.heads.Head.{Head}
use Rattle.sg_names.specs.declared.table.Nonterminal.{Nonterminal}
use Rattle.sg_names.specs.Heads.{is_head, with_head, base_heads}
use Rattle.sg_names.specs.Names.{map_from, nonterminal, attributes_of, phylum_defined, nonterminal_defined, phyla_in, nonterminals_in, names_of}
use Rattle.sg_names.specs.Shapes.{root_names, roots, list_names, optional_names}

-- what each declaration gives, over all of them
all_in : {A : Type 0} (place : A → Position) (f : Decl → List A) → ((d : Decl) → SomeOf (map place (f d)) (places_of d)) → (ds : List Decl) → SomeOf (map place (flat_map f ds)) (flat_map places_of ds)
all_in {A} place f one ds = subst (λ (l : List Position). SomeOf l (flat_map places_of ds)) (sym (joined ds)) (some_of_each (λ d. map place (f d)) places_of one ds)
  where
    joined : (ds : List Decl) → map place (flat_map f ds) ≡ flat_map (λ d. map place (f d)) ds
    joined [] = refl
    joined (d ∷ ds) = map-append place (f d) (flat_map f ds) ∙ ap (λ l. map place (f d) ++ l) (joined ds)

-- the names in declarations of roots, lists and optional phyla
root_in : (d : Decl) → SomeOf (map (λ (n : Name). n.place) (root_names d)) (places_of d)
root_in (Root n) = taken nothing
root_in d = nothing

list_in : (d : Decl) → SomeOf (map (λ (n : Name). n.place) (list_names d)) (places_of d)
list_in (Listed n) = taken nothing
list_in (Optional true n) = taken nothing
list_in d = nothing

optional_in : (d : Decl) → SomeOf (map (λ (n : Name). n.place) (optional_names d)) (places_of d)
optional_in (Optional false n) = taken nothing
optional_in d = nothing

pub roots_in : (ds : List Decl) → SomeOf (map (λ (n : Name). n.place) (roots ds)) (flat_map places_of ds)
roots_in ds = all_in (λ (n : Name). n.place) root_names root_in ds

pub lists_in : (ds : List Decl) → SomeOf (map (λ (n : Name). n.place) (flat_map list_names ds)) (flat_map places_of ds)
lists_in ds = all_in (λ (n : Name). n.place) list_names list_in ds

pub optionals_in : (ds : List Decl) → SomeOf (map (λ (n : Name). n.place) (flat_map optional_names ds)) (flat_map places_of ds)
optionals_in ds = all_in (λ (n : Name). n.place) optional_names optional_in ds

-- first definitions are some of all definitions, in their order
firsts : (before hs : List Head) → (more : List Head) × (fold with_head before hs ≡ before ++ more) × SomeOf (map (λ (h : Head). h.place) more) (map (λ (h : Head). h.place) hs)
firsts before [] = ([], sym (append-nil before), nothing)
firsts before (h ∷ hs) = by (list_any (is_head h.name) before) (firsts before hs) (firsts (before ++ h ∷ []) hs)
  where
    by : (b : Bool) → (more : List Head) × (fold with_head before hs ≡ before ++ more) × SomeOf (map (λ (h : Head). h.place) more) (map (λ (h : Head). h.place) hs)
        → (more : List Head) × (fold with_head (before ++ h ∷ []) hs ≡ (before ++ h ∷ []) ++ more) × SomeOf (map (λ (h : Head). h.place) more) (map (λ (h : Head). h.place) hs)
        → (more : List Head) × (fold with_head (if b then before else before ++ h ∷ []) hs ≡ before ++ more) × SomeOf (map (λ (h : Head). h.place) more) (h.place ∷ map (λ (h : Head). h.place) hs)
    by true old new = (old.0, old.1, passed old.2)
    by false old new = (h ∷ new.0, new.1 ∙ append_assoc before (h ∷ []) new.0, taken new.2)

phylum_in : (d : Decl) → SomeOf (map (λ (h : Head). h.place) (phylum_defined d)) (places_of d)
phylum_in (Operators n alts) = taken nothing
phylum_in (LexemeOf n s) = taken nothing
phylum_in d = nothing

nonterminal_in : (d : Decl) → SomeOf (map (λ (h : Head). h.place) (nonterminal_defined d)) (places_of d)
nonterminal_in (Productions n rights) = taken nothing
nonterminal_in d = nothing

same_places : (attrs : ℕ → List Attr) (k : ℕ) (hs : List Head) → map (λ (n : Nonterminal). n.place) (map_from (nonterminal attrs) k hs) ≡ map (λ (h : Head). h.place) hs
same_places attrs k [] = refl
same_places attrs k (h ∷ hs) = ap (λ l. h.place ∷ l) (same_places attrs (suc k) hs)

-- the phyla that the text defines, and its nonterminals
pub phyla_ordered : (ds : List Decl) → SomeOf (drop 3 (names_of ds).phylum_places) (flat_map places_of ds)
unfolding names_of
phyla_ordered ds =
    let g = firsts base_heads (flat_map phylum_defined ds) in
    subst (λ (hs : List Head). SomeOf (drop 3 (map (λ (h : Head). h.place) hs)) (flat_map places_of ds)) (sym g.1) (some_some g.2 (all_in (λ (h : Head). h.place) phylum_defined phylum_in ds))

pub nonterminals_ordered : (ds : List Decl) → SomeOf (map (λ (n : Nonterminal). n.place) (names_of ds).nonterminals) (flat_map places_of ds)
unfolding names_of
nonterminals_ordered ds =
    let g = firsts [] (flat_map nonterminal_defined ds) in
    subst (λ (l : List Position). SomeOf l (flat_map places_of ds)) (sym (same_places (attributes_of (nonterminals_in ds) (phyla_in ds) ds) 0 (nonterminals_in ds) ∙ ap (map (λ (h : Head). h.place)) g.1))
    (some_some g.2 (all_in (λ (h : Head). h.place) nonterminal_defined nonterminal_in ds))
