-- What is counted stands in the order of the text.
use Rattle.std.proofs.Common.{◌≡◌, List, [], ◌∷◌, ◌++◌, length, map, Some, refl, sym, ◌∙◌}
use Rattle.std.specs.Prelude.{flat_map}
use Rattle.std.specs.List.{join_by}
use Rattle.std.proofs.lemmas.List.{length-map}
use Rattle.sg_kinds.specs.declared.fault.Position.{Position}
use Rattle.sg_ast.specs.declared.name.Typed.{Typed}
use Rattle.sg_ast.specs.declared.decl.Alt.{Alt}
use Rattle.sg_ast.specs.declared.decl.AttrDecl.{AttrDecl}
use Rattle.sg_ast.specs.Declarations.{Decl, Right, Operators, Attributes, Equations, Schemes, Function, Productions}
use Rattle.sg_ast.specs.Parts.{op_places_at}
use Rattle.sg_ast.specs.Spelling.{bar, spell_name, spell_part, spell_alt, spell_attr, spell_local, spell_right}
use Rattle.sg_ast.specs.Rising.{kept_places, places_of, SomeOf, nothing, passed, taken}
use Rattle.sg_ast.proofs.RisingLaws.{some_of_each, in_back, in_front}
use Rattle.sg_counts.specs.Limits.{arities_of, attributes_of, locals_of, parameters_of, schemes_of, symbols_of, views_in, attribute_places, local_places, parameter_places, scheme_places, symbol_places, view_places, GoesAlong}

-- operators
more_alts_in : (alts : List Alt) → SomeOf (map (λ (a : Alt). a.name.place) alts) (kept_places (flat_map (λ (a : Alt). bar ++ spell_alt a) alts))
more_alts_in [] = nothing
more_alts_in (a ∷ alts) = taken (in_back _ (flat_map spell_name a.args ++ _) (flat_map (λ (a : Alt). bar ++ spell_alt a) alts) (more_alts_in alts))

pub alts_in : (alts : List Alt) → SomeOf (map (λ (a : Alt). a.name.place) alts) (kept_places (join_by spell_alt bar alts))
alts_in [] = nothing
alts_in (a ∷ alts) = taken (in_back _ (flat_map spell_name a.args ++ _) (flat_map (λ (a : Alt). bar ++ spell_alt a) alts) (more_alts_in alts))

-- attributes and locals
pub attrs_in : (attrs : List AttrDecl) → SomeOf (map (λ (a : AttrDecl). a.name.place) attrs) (kept_places (flat_map spell_attr attrs))
attrs_in [] = nothing
attrs_in (a ∷ attrs) = passed (taken (attrs_in attrs))

pub locals_in : (locals : List Typed) → SomeOf (map (λ (l : Typed). l.name.place) locals) (kept_places (flat_map spell_local locals))
locals_in [] = nothing
locals_in (l ∷ locals) = passed (taken (locals_in locals))

-- productions
more_rights_in : (rights : List Right) → SomeOf (map (λ (r : Right). r.place) rights) (kept_places (flat_map (λ (r : Right). bar ++ spell_right r) rights))
more_rights_in [] = nothing
more_rights_in (r ∷ rights) = taken (in_back _ (flat_map spell_part r.parts ++ _) (flat_map (λ (r : Right). bar ++ spell_right r) rights) (more_rights_in rights))

rights_in : (rights : List Right) → SomeOf (map (λ (r : Right). r.place) rights) (kept_places (join_by spell_right bar rights))
rights_in [] = nothing
rights_in (r ∷ rights) = taken (in_back _ (flat_map spell_part r.parts ++ _) (flat_map (λ (r : Right). bar ++ spell_right r) rights) (more_rights_in rights))

-- two lists over one
both_long : {A X Y : Type 0} (xs : List A) (f : A → X) (g : A → Y) → length (map f xs) ≡ length (map g xs)
both_long xs f g = length-map xs f ∙ sym (length-map xs g)

arities_one : (d : Decl) → length (arities_of d) ≡ length (op_places_at d)
arities_one (Operators p alts) = both_long alts (λ (a : Alt). length a.args) (λ (a : Alt). a.name.place)
arities_one d = refl

arities_in : (d : Decl) → SomeOf (op_places_at d) (places_of d)
arities_in (Operators p alts) = passed (in_front _ (join_by spell_alt bar alts) _ (alts_in alts))
arities_in d = nothing

attributes_one : (d : Decl) → length (attributes_of d) ≡ length (attribute_places d)
attributes_one (Attributes p attrs) = both_long attrs (λ _. p.text) (λ (a : AttrDecl). a.name.place)
attributes_one d = refl

attributes_in : (d : Decl) → SomeOf (attribute_places d) (places_of d)
attributes_in (Attributes p attrs) = passed (in_front _ (flat_map spell_attr attrs) _ (attrs_in attrs))
attributes_in d = nothing

locals_one : (d : Decl) → length (locals_of d) ≡ length (local_places d)
locals_one (Equations p op locals equations) = both_long locals (λ _. (p.text, op.text)) (λ (l : Typed). l.name.place)
locals_one d = refl

locals_there : (d : Decl) → SomeOf (local_places d) (places_of d)
locals_there (Equations p op locals equations) = passed (passed (in_front _ (flat_map spell_local locals) _ (locals_in locals)))
locals_there d = nothing

parameters_one : (d : Decl) → length (parameters_of d) ≡ length (parameter_places d)
parameters_one (Function t n params e) = refl
parameters_one d = refl

parameters_in : (d : Decl) → SomeOf (parameter_places d) (places_of d)
parameters_in (Function t n params e) = passed (taken nothing)
parameters_in d = nothing

schemes_one : (d : Decl) → length (schemes_of d) ≡ length (scheme_places d)
schemes_one (Schemes p op view schemes) = refl
schemes_one d = refl

schemes_in : (d : Decl) → SomeOf (scheme_places d) (places_of d)
schemes_in (Schemes p op view schemes) = passed (taken nothing)
schemes_in d = nothing

symbols_one : (d : Decl) → length (symbols_of d) ≡ length (symbol_places d)
symbols_one (Productions n rights) = both_long rights (λ (r : Right). length r.parts) (λ (r : Right). r.place)
symbols_one d = refl

symbols_in : (d : Decl) → SomeOf (symbol_places d) (places_of d)
symbols_in (Productions n rights) = passed (in_front _ (join_by spell_right bar rights) _ (rights_in rights))
symbols_in d = nothing

views_one : (d : Decl) → length (views_in d) ≡ length (view_places d)
views_one (Schemes p op (Some v) schemes) = refl
views_one d = refl

views_there : (d : Decl) → SomeOf (view_places d) (places_of d)
views_there (Schemes p op (Some v) schemes) = passed (passed (taken nothing))
views_there d = nothing

along : {X : Type 0} (things : Decl → List X) (places : Decl → List Position) → ((d : Decl) → length (things d) ≡ length (places d)) → ((d : Decl) → SomeOf (places d) (places_of d)) → GoesAlong things places
along things places one there = record { one_each = one; in_order = some_of_each places places_of there }

pub arities_along : GoesAlong arities_of op_places_at
arities_along = along arities_of op_places_at arities_one arities_in

pub attributes_along : GoesAlong attributes_of attribute_places
attributes_along = along attributes_of attribute_places attributes_one attributes_in

pub locals_along : GoesAlong locals_of local_places
locals_along = along locals_of local_places locals_one locals_there

pub parameters_along : GoesAlong parameters_of parameter_places
parameters_along = along parameters_of parameter_places parameters_one parameters_in

pub schemes_along : GoesAlong schemes_of scheme_places
schemes_along = along schemes_of scheme_places schemes_one schemes_in

pub symbols_along : GoesAlong symbols_of symbol_places
symbols_along = along symbols_of symbol_places symbols_one symbols_in

pub views_along : GoesAlong views_in view_places
views_along = along views_in view_places views_one views_there
