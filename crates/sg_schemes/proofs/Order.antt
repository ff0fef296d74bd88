-- What the rows of schemes go along stands in the order of the text.
use Rattle.std.proofs.Common.{◌≡◌, List, [], ◌∷◌, ◌++◌, map, refl, sym, ap, ◌∙◌, subst}
use Rattle.std.specs.Prelude.{flat_map}
use Rattle.std.specs.List.{join_by}
use Rattle.std.proofs.lemmas.List.{map-append}
use Rattle.sg_kinds.specs.declared.fault.Position.{Position}
use Rattle.sg_ast.specs.declared.name.Quoted.{Quoted}
use Rattle.sg_ast.specs.declared.decl.Alt.{Alt}
use Rattle.sg_ast.specs.declared.decl.Item.{Item}
use Rattle.sg_ast.specs.declared.decl.Item.TheVariants.{Writes, Child, Shows, Separates}
use Rattle.sg_ast.specs.declared.decl.SchemeDecl.{SchemeDecl}
use Rattle.sg_ast.specs.Declarations.{Decl, Operators, Schemes}
use Rattle.sg_ast.specs.Parts.{op_places_at}
use Rattle.sg_ast.specs.Spelling.{Piece, bar, spell_name, spell_text, spell_alt, spell_item, spell_scheme, spell_view}
use Rattle.sg_ast.specs.Rising.{kept_places, places_of, SomeOf, nothing, passed, taken}
use Rattle.sg_ast.proofs.RisingLaws.{some_of_each, in_front, in_back, in_both}
use Rattle.sg_names.specs.Names as written
use Rattle.sg_remote.specs.Longer.{names_of}
use Rattle.sg_schemes.specs.Spots.{scheme_places, item_strings, scheme_strings, strings_at}

-- operators
more_alts_in : (alts : List Alt) → SomeOf (map (λ (a : Alt). a.name.place) alts) (kept_places (flat_map (λ (a : Alt). bar ++ spell_alt a) alts))
more_alts_in [] = nothing
more_alts_in (a ∷ alts) = taken (in_back _ (flat_map spell_name a.args ++ _) (flat_map (λ (a : Alt). bar ++ spell_alt a) alts) (more_alts_in alts))

alts_in : (alts : List Alt) → SomeOf (map (λ (a : Alt). a.name.place) alts) (kept_places (join_by spell_alt bar alts))
alts_in [] = nothing
alts_in (a ∷ alts) = taken (in_back _ (flat_map spell_name a.args ++ _) (flat_map (λ (a : Alt). bar ++ spell_alt a) alts) (more_alts_in alts))

operators_in : (d : Decl) → SomeOf (op_places_at d) (places_of d)
operators_in (Operators p alts) = passed (in_front _ (join_by spell_alt bar alts) _ (alts_in alts))
operators_in d = nothing

pub operators_ordered : (ds : List Decl) → SomeOf (names_of ds).op_places (flat_map places_of ds)
unfolding names_of written.names_of
operators_ordered ds = some_of_each op_places_at places_of operators_in ds

-- schemes
schemes_in : (schemes : List SchemeDecl) → SomeOf (map (λ (s : SchemeDecl). s.place) schemes) (kept_places (flat_map spell_scheme schemes))
schemes_in [] = nothing
schemes_in (s ∷ schemes) = taken (in_back _ (flat_map spell_item s.items ++ _) (flat_map spell_scheme schemes) (schemes_in schemes))

decl_schemes_in : (d : Decl) → SomeOf (scheme_places d) (places_of d)
decl_schemes_in (Schemes p op view schemes) = passed (passed (in_back _ (spell_view view) _ (in_front _ (flat_map spell_scheme schemes) _ (schemes_in schemes))))
decl_schemes_in d = nothing

pub schemes_ordered : (ds : List Decl) → SomeOf (flat_map scheme_places ds) (flat_map places_of ds)
schemes_ordered ds = some_of_each scheme_places places_of decl_schemes_in ds

-- strings
abbrev places : List Quoted → List Position
places strings = map (λ (s : Quoted). s.place) strings

each_in : {X : Type 0} (f : X → List Quoted) (spell : X → List Piece) → ((x : X) → SomeOf (places (f x)) (kept_places (spell x))) → (xs : List X) → SomeOf (places (flat_map f xs)) (kept_places (flat_map spell xs))
each_in f spell one [] = nothing
each_in f spell one (x ∷ xs) =
    subst (λ (l : List Position). SomeOf l (kept_places (spell x ++ flat_map spell xs))) (sym (map-append (λ (s : Quoted). s.place) (f x) (flat_map f xs)))
    (in_both (places (f x)) (places (flat_map f xs)) (spell x) (flat_map spell xs) (one x) (each_in f spell one xs))

texts_in : (strings : List Quoted) → SomeOf (places strings) (kept_places (flat_map spell_text strings))
texts_in [] = nothing
texts_in (s ∷ strings) = taken (texts_in strings)

item_in : (item : Item) → SomeOf (places (item_strings item)) (kept_places (spell_item item))
item_in (Writes s) = taken nothing
item_in (Child how) = nothing
item_in (Shows target) = nothing
item_in (Separates strings) = in_front _ (flat_map spell_text strings) _ (texts_in strings)

scheme_in : (s : SchemeDecl) → SomeOf (places (scheme_strings s)) (kept_places (spell_scheme s))
scheme_in s = passed (in_front _ (flat_map spell_item s.items) _ (each_in item_strings spell_item item_in s.items))

decl_strings_in : (d : Decl) → SomeOf (places (strings_at d)) (places_of d)
decl_strings_in (Schemes p op view schemes) =
    passed (passed (in_back _ (spell_view view) _ (in_front _ (flat_map spell_scheme schemes) _ (each_in scheme_strings spell_scheme scheme_in schemes))))
decl_strings_in d = nothing

joined : (ds : List Decl) → places (flat_map strings_at ds) ≡ flat_map (λ d. places (strings_at d)) ds
joined [] = refl
joined (d ∷ ds) = map-append (λ (s : Quoted). s.place) (strings_at d) (flat_map strings_at ds) ∙ ap (λ l. places (strings_at d) ++ l) (joined ds)

pub strings_ordered : (ds : List Decl) → SomeOf (map (λ (s : Quoted). s.place) (flat_map strings_at ds)) (flat_map places_of ds)
strings_ordered ds = subst (λ (l : List Position). SomeOf l (flat_map places_of ds)) (sym (joined ds)) (some_of_each (λ d. places (strings_at d)) places_of decl_strings_in ds)
