-- Equations and operators stand in the order of the text.
use Rattle.std.proofs.Common.{◌≡◌, ℕ, List, [], ◌∷◌, ◌++◌, map, Option, Some, None, refl, sym, ap, ◌∙◌, subst}
use Rattle.std.specs.Prelude.{flat_map}
use Rattle.std.specs.List.{join_by}
use Rattle.std.proofs.lemmas.List.{map-append}
use Rattle.sg_kinds.specs.declared.fault.Position.{Position}
use Rattle.sg_kinds.specs.declared.spec.Occurrence.{Occurrence}
use Rattle.sg_ast.specs.declared.name.Occurrence.{Occurrence as Written}
use Rattle.sg_ast.specs.declared.name.Occurrence.TheVariants.{Own, Named}
use Rattle.sg_ast.specs.declared.decl.Alt.{Alt}
use Rattle.sg_ast.specs.declared.decl.Target.{Target}
use Rattle.sg_ast.specs.declared.decl.Target.TheVariants as target
use Rattle.sg_ast.specs.Declarations.{Decl, Equation, Operators, Equations}
use Rattle.sg_ast.specs.Parts.{op_places_at, target_place}
use Rattle.sg_ast.specs.Spelling.{bar, spell_name, spell_alt, spell_local, spell_target, spell_equation}
use Rattle.sg_ast.specs.Rising.{kept_places, places_of, SomeOf, nothing, passed, taken}
use Rattle.sg_ast.proofs.RisingLaws.{some_of_each, in_front, in_back, in_both}
use Rattle.sg_names.specs.Names as written
use Rattle.sg_remote.specs.Longer.{names_of}
use Rattle.sg_names.specs.Lookups.{operator_at}
use Rattle.sg_names.specs.declared.table.Table.{Table}
use Rattle.sg_equations.specs.declared.targets.Defined.{Defined}
use Rattle.sg_equations.specs.Targets.{target_there, defined_as, defined_by, defined_under, defined_at, defined_in}
use Rattle.sg_equations.specs.DefinedPlaces.{defined_places}

-- operators
more_alts_in : (alts : List Alt) → SomeOf (map (λ (a : Alt). a.name.place) alts) (kept_places (flat_map (λ (a : Alt). bar ++ spell_alt a) alts))
more_alts_in [] = nothing
more_alts_in (a ∷ alts) = taken (in_back _ (flat_map spell_name a.args ++ _) (flat_map (λ (a : Alt). bar ++ spell_alt a) alts) (more_alts_in alts))

alts_in : (alts : List Alt) → SomeOf (map (λ (a : Alt). a.name.place) alts) (kept_places (join_by spell_alt bar alts))
alts_in [] = nothing
alts_in (a ∷ alts) = taken (in_back _ (flat_map spell_name a.args ++ _) (flat_map (λ (a : Alt). bar ++ spell_alt a) alts) (more_alts_in alts))

operators_in : (d : Decl) → SomeOf (op_places_at d) (places_of d)
operators_in (Operators p alts) = passed (in_front _ (join_by spell_alt bar alts) _ (alts_in alts))
operators_in d = nothing

pub operators_ordered : (ds : List Decl) → SomeOf (names_of ds).op_places (flat_map places_of ds)
unfolding names_of written.names_of
operators_ordered ds = some_of_each op_places_at places_of operators_in ds

-- equations
target_in : (x : Target) → SomeOf (target_place x ∷ []) (kept_places (spell_target x))
target_in (target.Attribute r) = reference_in r.of r.attr
  where
    reference_in : (of : Written) (attr : _) → SomeOf (target_place (target.Attribute (record { of = of; attr = attr })) ∷ []) (kept_places (spell_target (target.Attribute (record { of = of; attr = attr }))))
    reference_in (Own place) attr = taken nothing
    reference_in (Named n number) attr = taken nothing
target_in (target.Local n) = taken nothing

defined_as_in : (op : ℕ) (x : Target) (o : Option Occurrence) → SomeOf (defined_places (defined_as op x o)) (kept_places (spell_target x))
defined_as_in op x None = nothing
defined_as_in op x (Some o) = target_in x

equation_in : (t : Table) (op : ℕ) (e : Equation) → SomeOf (defined_places (defined_by t op e)) (kept_places (spell_equation e))
equation_in t op e = in_front _ (spell_target e.target) _ (defined_as_in op e.target (target_there t op e.target))

equations_in : (t : Table) (op : ℕ) (es : List Equation) → SomeOf (defined_places (flat_map (defined_by t op) es)) (kept_places (flat_map spell_equation es))
equations_in t op [] = nothing
equations_in t op (e ∷ es) =
    subst (λ (l : List Position). SomeOf l (kept_places (spell_equation e ++ flat_map spell_equation es))) (sym (map-append (λ (d : Defined). d.place) (defined_by t op e) (flat_map (defined_by t op) es)))
    (in_both (defined_places (defined_by t op e)) (defined_places (flat_map (defined_by t op) es)) (spell_equation e) (flat_map spell_equation es) (equation_in t op e) (equations_in t op es))

under_in : (t : Table) (es : List Equation) (o : Option ℕ) → SomeOf (defined_places (defined_under t es o)) (kept_places (flat_map spell_equation es))
under_in t es None = nothing
under_in t es (Some op) = equations_in t op es

decl_in : (t : Table) (d : Decl) → SomeOf (defined_places (defined_at t d)) (places_of d)
decl_in t (Equations p op locals es) =
    passed (passed (in_back _ (flat_map spell_local locals) _ (in_front _ (flat_map spell_equation es) _ (under_in t es (operator_at t p op)))))
decl_in t d = nothing

joined : (t : Table) (ds : List Decl) → defined_places (defined_in t ds) ≡ flat_map (λ d. defined_places (defined_at t d)) ds
joined t [] = refl
joined t (d ∷ ds) = map-append (λ (d : Defined). d.place) (defined_at t d) (defined_in t ds) ∙ ap (λ l. defined_places (defined_at t d) ++ l) (joined t ds)

pub targets_ordered : (t : Table) (ds : List Decl) → SomeOf (defined_places (defined_in t ds)) (flat_map places_of ds)
targets_ordered t ds = subst (λ (l : List Position). SomeOf l (flat_map places_of ds)) (sym (joined t ds)) (some_of_each (λ d. defined_places (defined_at t d)) places_of (decl_in t) ds)
