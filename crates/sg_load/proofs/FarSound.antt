-- The shapes and the far attributes of a specification with the longer table of declarations without a fault.
use Rattle.std.proofs.Common.{◌≡◌, ℕ, suc, true, if◌then◌else◌, List, [], ◌∷◌, ◌++◌, length, map, Some, None, slice_get, refl, sym, ap, subst, ◌∙◌}
use Rattle.std.specs.Prelude.{option_and_then}
use Rattle.std.specs.List.{AllByRecursion as Each}
use Rattle.std.proofs.lemmas.List.{length-map}
use Rattle.sg_kinds.specs.Dependencies.{occurrence}
use Rattle.sg_kinds.specs.Expressions.{Expr, Named}
use Rattle.sg_kinds.specs.Far.{HasFar, IsHanded, far_text, is_far, source_slot}
use Rattle.sg_kinds.specs.Instances.{rule_for}
use Rattle.sg_kinds.specs.Sound.{HasShapes}
use Rattle.sg_kinds.specs.Specification.{args_of, attrs_of, phylum_of}
use Rattle.sg_kinds.specs.declared.spec.Attr.{Attr}
use Rattle.sg_kinds.specs.declared.spec.Phylum.{Phylum}
use Rattle.sg_kinds.specs.declared.spec.Rule.{Rule}
use Rattle.sg_kinds.specs.declared.spec.Spec.{Spec}
use Rattle.sg_kinds.proofs.Elementary.{slice_get-seam}
use Rattle.sg_ast.specs.Declarations.{Decl}
use Rattle.sg_names.specs.Drafted.{HasTable}
use Rattle.sg_names.specs.Shapes.{result_count}
use Rattle.sg_names.specs.UnknownName.{unknown_name}
use Rattle.sg_names.specs.declared.table.Table.{Table}
use Rattle.sg_names.proofs.DraftedLaws.{args_kept, phylum_kept}
use Rattle.sg_names.proofs.OpPlaces.{places_count}
use Rattle.sg_resolve.specs.Resolved.{resolve_fault}
use Rattle.sg_resolve.specs.ShapeLexemes.{lexeme_count}
use Rattle.sg_resolve.proofs.ShapeRows.{no_fault}
use Rattle.sg_resolve.proofs.ShapesSound.{shapes_sound}
use Rattle.sg_typing.specs.Bodies.{exprs_in, first_mismatch}
use Rattle.sg_typing.specs.declared.bodies.TypedExpr.{TypedExpr}
use Rattle.sg_equations.specs.Complete.{incomplete}
use Rattle.sg_equations.specs.Handed.{AreHandedDown, HasSource}
use Rattle.sg_equations.specs.RulesOf.{rules_in}
use Rattle.sg_equations.proofs.RulesSound.{handed_there}
use Rattle.sg_remote.specs.Atoms.{atoms}
use Rattle.sg_remote.specs.Handing.{handing, rule}
use Rattle.sg_remote.specs.Longer.{far_type, names_of}
use Rattle.sg_remote.specs.NoEnclosing.{IsNoEnclosing}
use Rattle.sg_remote.specs.declared.atoms.Atom.{Atom}
use Rattle.sg_load.proofs.FarAtoms.{atoms_legal, atoms_same}
use Rattle.sg_load.proofs.FarAttrs.{far_attrs, far_borne, handed_down, listings, long, long_is, short, stands_last}
use Rattle.sg_load.proofs.FarLists.{IsLegal, text_same}
use Rattle.sg_load.proofs.FarPhyla.{leaves_bare, owners_there, root_bare, types_used}
use Rattle.sg_load.proofs.LongerNames.{names_known}
use Rattle.sg_load.proofs.LongerShapes.{and_more, longer_shapes, with_phyla}

-- a specification without the far attributes has the written table
pub written_table : (ds : List Decl) (spec : Spec) → HasTable (long ds) spec → HasTable (short ds) (with_phyla spec (short ds).phyla)
written_table ds spec table = record { phyla = refl; ops = table.ops; functions = table.functions; root = table.root }

pub longer_is : (ds : List Decl) (spec : Spec) → HasTable (long ds) spec → spec ≡ and_more spec (short ds).phyla (far_attrs ds)
longer_is ds spec table = ap (with_phyla spec) table.phyla

-- what is known of the longer table
long_results : (ds : List Decl) → result_count (short ds) ≡ None → result_count (long ds) ≡ None
unfolding result_count
long_results ds e = e

pub names_long : (ds : List Decl) → resolve_fault ds ≡ None → unknown_name (names_of ds) ds ≡ None
names_long ds rows = subst (λ (t : Table). unknown_name t ds ≡ None) (sym (long_is ds)) (names_known (short ds) (far_attrs ds) ds (no_fault ds rows).unknown)

pub places_long : (ds : List Decl) → length (names_of ds).op_places ≡ length (names_of ds).ops
places_long ds = subst (λ (t : Table). length t.op_places ≡ length t.ops) (sym (long_is ds)) (places_count ds)

pub results_long : (ds : List Decl) → resolve_fault ds ≡ None → result_count (names_of ds) ≡ None
results_long ds rows = subst (λ (t : Table). result_count t ≡ None) (sym (long_is ds)) (long_results ds (no_fault ds rows).results)

pub legal_long : (ds : List Decl) → resolve_fault ds ≡ None → first_mismatch (names_of ds) ds ≡ None → Each (λ (a : Atom). IsLegal (short ds) a.list) (atoms (short ds) ds)
legal_long ds rows fits = atoms_legal (short ds) (far_attrs ds) ds (no_fault ds rows).unknown (subst (λ (t : Table). first_mismatch t ds ≡ None) (long_is ds) fits)

module _ (ds : List Decl) (spec : Spec) (rows : resolve_fault ds ≡ None) (fits : first_mismatch (names_of ds) ds ≡ None) (table : HasTable (names_of ds) spec) (lexemes : length spec.lexemes ≡ lexeme_count ds) where
  has : HasTable (long ds) spec
  has = subst (λ (t : Table). HasTable t spec) (long_is ds) table

  legal : Each (λ (a : Atom). IsLegal (short ds) a.list) (atoms (short ds) ds)
  legal = legal_long ds rows fits

  bare : HasShapes (with_phyla spec (short ds).phyla)
  bare = shapes_sound ds (with_phyla spec (short ds).phyla) rows (written_table ds spec has) lexemes

  ops : (op : ℕ) → phylum_of spec.ops op ≡ phylum_of (short ds).ops op
  ops op = phylum_kept (long ds) spec has op

  down : AreHandedDown (long ds)
  down = handed_down ds legal (owners_there ds legal spec bare ops)

  pub handed_long : AreHandedDown (names_of ds)
  handed_long = subst AreHandedDown (sym (long_is ds)) down

  pub shapes_long : IsNoEnclosing (names_of ds) ds None → HasShapes spec
  shapes_long enclosed =
      let same = atoms_same (short ds) (far_attrs ds) ds (no_fault ds rows).unknown in
      let none : far_attrs ds spec.root ≡ [] = ap (far_attrs ds) has.root ∙ root_bare ds legal same (subst (λ (t : Table). IsNoEnclosing t ds None) (long_is ds) enclosed) in
      subst HasShapes (sym (longer_is ds spec has))
      (longer_shapes spec (short ds).phyla (far_attrs ds) bare (leaves_bare ds legal spec bare ops) (types_used ds legal spec bare ops) none)

  there : (p s : ℕ) (a : Attr) → slice_get (attrs_of spec.phyla p) s ≡ Some a → slice_get (attrs_of (long ds).phyla p) s ≡ Some a
  there p s a at = ap (λ (l : List Phylum). slice_get (attrs_of l p) s) (sym has.phyla) ∙ at

  named_far : (p s : ℕ) (a : Attr) → slice_get (attrs_of spec.phyla p) s ≡ Some a → is_far a ≡ true → a.name ≡ far_text spec.phyla a.far
  named_far p s a at far =
      let x = far_borne ds legal p s a (there p s a at) far in
      ap (λ (y : Attr). y.name) (sym x.is) ∙ sym (text_same (short ds) (far_attrs ds) (far_type (short ds).phyla x.list) x.list x.legal.each) ∙ (λ i. far_text (sym has.phyla i) (x.is i).far)

  module _ (complete : incomplete (names_of ds) ds ≡ None) (rules : spec.rules ≡ rules_in (names_of ds) (exprs_in (names_of ds) ds) 0 ds ++ handing (names_of ds) (length (exprs_in (names_of ds) ds)))
      (exprs : spec.exprs ≡ map (λ (x : TypedExpr). x.expr) (exprs_in (names_of ds) ds) ++ Named 0 ∷ []) where
    -- the equation that hands a far attribute down
    handed_far : (op k p q s : ℕ) (a : Attr) → phylum_of spec.ops op ≡ Some p → slice_get (args_of spec.ops op) k ≡ Some q → slice_get (attrs_of spec.phyla q) s ≡ Some a → is_far a ≡ true → IsHanded spec op k p s a
    handed_far op k p q s a own arg at far =
        let t = names_of ds in
        let e = length (exprs_in t ds) in
        let arg' : slice_get (args_of t.ops op) k ≡ Some q = ap (λ (l : List ℕ). slice_get l k) (sym (args_kept t spec table op)) ∙ arg in
        let at' : slice_get (attrs_of t.phyla q) s ≡ Some a = ap (λ (l : List Phylum). slice_get (attrs_of l q) s) (sym table.phyla) ∙ at in
        let x : HasSource t op a = handed_long.sources op k q s a arg' at' far in
        let left : phylum_of t.ops op ≡ Some p = sym (phylum_kept t spec table op) ∙ own in
        let is : source_slot t.phyla p a.far ≡ Some x.slot =
        sym (ap (λ b. if b then option_and_then (λ k. source_slot t.phyla k a.far) (phylum_of t.ops op) else None) far ∙ ap (option_and_then (λ k. source_slot t.phyla k a.far)) left) ∙ x.is in
        record {
          source = x.slot;
          is_source = ap (λ (l : List Phylum). source_slot l p a.far) table.phyla ∙ is;
          rule = rule e op (occurrence (suc k) s) x.slot;
          found = ap (λ (rs : List Rule). rule_for rs op (occurrence (suc k) s)) rules ∙ handed_there t ds e op k q s a complete arg' at' far x;
          args = refl;
          expr = ap (λ (l : List Expr). slice_get l e) exprs
              ∙ ap (slice_get (map (λ (y : TypedExpr). y.expr) (exprs_in t ds) ++ Named 0 ∷ [])) (sym (length-map (exprs_in t ds) (λ (y : TypedExpr). y.expr)))
              ∙ slice_get-seam (map (λ (y : TypedExpr). y.expr) (exprs_in t ds)) (Named 0) [];
        }

    pub far_long : HasFar spec
    far_long = record {
      inherited = λ p s a at far. let x = far_borne ds legal p s a (there p s a at) far in ap (λ (y : Attr). y.way) (sym x.is);
      named = named_far;
      listed = λ p s a at far. listings ds legal spec has.phyla p a (far_borne ds legal p s a (there p s a at) far);
      last = λ p i j a b low before behind far. stands_last ds legal p i j a b low (there p i a before) (there p j b behind) far;
      handed = handed_far;
    }
