-- Each operator has the place of its name.
use Rattle.std.proofs.Common.{◌≡◌, refl, sym, ap, ◌∙◌, ℕ, suc, ◌+◌, List, [], ◌∷◌, length, length-append}
use Rattle.std.specs.Prelude.{flat_map}
use Rattle.std.proofs.lemmas.List.{length-map}
use Rattle.sg_ast.specs.declared.decl.Alt.{Alt}
use Rattle.sg_ast.specs.Declarations.{Decl, Operators}
use Rattle.sg_ast.specs.Parts.{op_places_at}
use Rattle.sg_names.specs.declared.heads.Head.{Head}
use Rattle.sg_names.specs.Names.{map_from, operator, operators_at, operators_in, phyla_in, with_local, locals_of, names_of}

pub map_from_length : {A B : Type 0} (f : ℕ → A → B) (k : ℕ) (xs : List A) → length (map_from f k xs) ≡ length xs
map_from_length f k [] = refl
map_from_length f k (x ∷ xs) = ap suc (map_from_length f (suc k) xs)

at_count : (phyla : List Head) (d : Decl) → length (op_places_at d) ≡ length (operators_at phyla d)
at_count phyla (Operators n alts) = length-map alts (λ (a : Alt). a.name.place) ∙ sym (length-map alts (operator phyla n))
at_count phyla d = refl

in_count : (phyla : List Head) (ds : List Decl) → length (flat_map op_places_at ds) ≡ length (operators_in phyla ds)
in_count phyla [] = refl
in_count phyla (d ∷ ds) =
    length-append (op_places_at d) (flat_map op_places_at ds) ∙ (λ i. at_count phyla d i + in_count phyla ds i) ∙ sym (length-append (operators_at phyla d) (operators_in phyla ds))

pub places_count : (ds : List Decl) → length (names_of ds).op_places ≡ length (names_of ds).ops
unfolding names_of
places_count ds = in_count (phyla_in ds) ds ∙ sym (map_from_length (with_local (locals_of (phyla_in ds) (operators_in (phyla_in ds) ds) ds)) 0 (operators_in (phyla_in ds) ds))
