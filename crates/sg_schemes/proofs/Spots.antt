-- The rows of schemes are the first faults of their spots.
use Rattle.std.proofs.Common.{◌≡◌, ℕ, List, [], ◌∷◌, length, refl, sym, ◌∙◌}
use Rattle.std.specs.Prelude.{flat_map, Option, Some, None, option_and_then}
use Rattle.sg_kinds.specs.declared.fault.SpecFault.{SpecFault}
use Rattle.sg_kinds.specs.Specification.{args_of}
use Rattle.sg_ast.specs.declared.name.Name.{Name}
use Rattle.sg_ast.specs.declared.decl.Item.{Item}
use Rattle.sg_ast.specs.declared.decl.Item.TheVariants.{Writes, Child, Shows, Separates}
use Rattle.sg_ast.specs.declared.decl.SchemeDecl.{SchemeDecl}
use Rattle.sg_ast.specs.Declarations.{Decl, Schemes}
use Rattle.sg_ast.specs.FirstFault.{or_else, first}
use Rattle.sg_ast.proofs.FirstLaws.{or_none, first-flat, first-map}
use Rattle.sg_names.specs.declared.table.Table.{Table}
use Rattle.sg_names.specs.Lookups.{phylum_named, operator_named}
use Rattle.sg_schemes.specs.Places.{places_fault, is_list_pair, operator_faults, phylum_faults, kids_fault, scheme_kids}
use Rattle.sg_schemes.specs.Strings.{string_fault, item_fault, scheme_fault, decl_fault, scheme_text}
use Rattle.sg_schemes.specs.Spots.{each_scheme, item_strings, scheme_strings, strings_at}

-- one rule for another, spot by spot
first_same : {X A : Type 0} (f g : X → Option A) → ((x : X) → f x ≡ g x) → (xs : List X) → first f xs ≡ first g xs
first_same f g same [] = refl
first_same f g same (x ∷ xs) = rw (same x, first_same f g same xs) refl

-- what is told of schemes is told of each by itself
abbrev Splits : (List SchemeDecl → Option SpecFault) → Type 0
Splits f = (schemes : List SchemeDecl) → f schemes ≡ first (λ s. f (s ∷ [])) schemes

abbrev no_fault : SchemeDecl → Option SpecFault
no_fault s = None

none_first : (schemes : List SchemeDecl) → None ≡ first no_fault schemes
none_first [] = refl
none_first (s ∷ schemes) = none_first schemes

first_splits : (f : SchemeDecl → Option SpecFault) → Splits (first f)
first_splits f schemes = first_same f (λ s. or_else (f s) None) (λ s. sym (or_none (f s))) schemes

then_splits : (f : ℕ → List SchemeDecl → Option SpecFault) → ((k : ℕ) → Splits (f k)) → (o : Option ℕ) → Splits (λ schemes. option_and_then (λ k. f k schemes) o)
then_splits f each None schemes = none_first schemes
then_splits f each (Some k) schemes = each k schemes

operator_splits : (t : Table) (p : ℕ) (op : Name) → Splits (phylum_faults t p op)
operator_splits t p op schemes =
    then_splits (λ k. operator_faults t p k op) (λ k. first_splits (places_fault (is_list_pair t p k) (length (args_of t.ops k)) op)) (operator_named t p op.text) schemes

decl_splits : (t : Table) (d : Decl) → kids_fault t d ≡ first (kids_fault t) (each_scheme d)
decl_splits t (Schemes p op view schemes) =
    then_splits (λ k. phylum_faults t k op) (λ k. operator_splits t k op) (phylum_named t p.text) schemes
    ∙ sym (first-map (kids_fault t) (λ s. Schemes p op view (s ∷ [])) schemes)
decl_splits t d = refl

pub by_scheme : (t : Table) (ds : List Decl) → scheme_kids t ds ≡ first (kids_fault t) (flat_map each_scheme ds)
by_scheme t ds = first_same (kids_fault t) (λ d. first (kids_fault t) (each_scheme d)) (decl_splits t) ds ∙ sym (first-flat (kids_fault t) each_scheme ds)

-- strings
item_told : (item : Item) → item_fault item ≡ first string_fault (item_strings item)
item_told (Writes s) = sym (or_none (string_fault s))
item_told (Child how) = refl
item_told (Shows target) = refl
item_told (Separates strings) = refl

scheme_told : (s : SchemeDecl) → scheme_fault s ≡ first string_fault (scheme_strings s)
scheme_told s = first_same item_fault (λ item. first string_fault (item_strings item)) item_told s.items ∙ sym (first-flat string_fault item_strings s.items)

decl_told : (d : Decl) → decl_fault d ≡ first string_fault (strings_at d)
decl_told (Schemes p op view schemes) =
    first_same scheme_fault (λ s. first string_fault (scheme_strings s)) scheme_told schemes ∙ sym (first-flat string_fault scheme_strings schemes)
decl_told d = refl

pub by_string : (ds : List Decl) → scheme_text ds ≡ first string_fault (flat_map strings_at ds)
by_string ds = first_same decl_fault (λ d. first string_fault (strings_at d)) decl_told ds ∙ sym (first-flat string_fault strings_at ds)
