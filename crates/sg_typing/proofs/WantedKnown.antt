-- Where uses are known, what an expression stands for and the parameters around it have types.
use Rattle.std.proofs.Common.{◌≡◌, refl, ap, ◌∙◌, ℕ, ◌+◌, true, List, [], ◌∷◌, ◌++◌, map, Option, Some, None}
use Rattle.std.specs.Prelude.{is_some, option_map, option_and_then, if◌then◌else◌}
use Rattle.sg_kinds.proofs.Elementary.{some_there}
use Rattle.sg_kinds.specs.Typing.{slot_type}
use Rattle.sg_kinds.specs.Specification.{locals_of}
use Rattle.sg_kinds.specs.declared.spec.Local.{Local}
use Rattle.sg_ast.specs.Declarations.{Equation}
use Rattle.sg_ast.specs.Expressions.{Expr}
use Rattle.sg_ast.specs.Patterns.{Pattern}
use Rattle.sg_ast.specs.declared.decl.Target.{Target}
use Rattle.sg_ast.specs.declared.decl.Target.TheVariants as target
use Rattle.sg_ast.specs.declared.name.Name.{Name}
use Rattle.sg_ast.specs.declared.name.Typed.{Typed}
use Rattle.sg_ast.proofs.FirstLaws.{neither}
use Rattle.sg_names.specs.Drafted.{drafted}
use Rattle.sg_names.specs.Lookups.{is_whitespace, phylum_named, reference, usable_named}
use Rattle.sg_names.specs.UnknownName.{is_known, is_there, reference_fault, unknown_at, unless_known}
use Rattle.sg_names.specs.Uses.{Binds, Elsewhere, InOperator, UsesPhylum, equation_uses, expr_uses, in_function, in_transform, is_visible, local_scope, params_scope, params_uses, pattern_scope, pattern_uses, target_uses, with_variable}
use Rattle.sg_names.specs.declared.table.Table.{Table}
use Rattle.sg_types.specs.Bindings.{own_slots}
use Rattle.sg_typing.specs.Bodies.{parameter, reference_type, target_type}
use Rattle.sg_typing.specs.Known.{AreKnown}
use Rattle.sg_typing.specs.Written.{known}
use Rattle.sg_typing.proofs.ArgsTyped.{local_typed, reference_typed}
use Rattle.sg_typing.proofs.BodyUntyped.{locals_among, none_among}
use Rattle.sg_typing.proofs.NamesMean.{known_first, known_is, known_parts, local_named, reference_known}

-- what an equation defines
module _ (t : Table) (op : ℕ) where
  target_known : (x : Target) → AreKnown t (target_uses (InOperator op) (local_scope t op) x) → is_some (target_type t op x) ≡ true
  target_known (target.Attribute r) k =
      let there = reference_known (is_known t (InOperator op) r) (is_there t (InOperator op) r.of) r (neither (reference_fault (is_there t (InOperator op) r.of) (is_known t (InOperator op) r) r) None k.0).0 in
      let o = some_there (reference t op r) there in
      let p = reference_typed t op r o.0 o.1 in
      ap (λ o. is_some (reference_type t op o)) o.1 ∙ ap is_some p.1
  target_known (target.Local n) k =
      let seen = known_is (is_visible (local_scope t op) n.text) n (neither (unless_known (is_visible (local_scope t op) n.text) n) None k.0).0 in
      let x = local_named t op n.text (locals_among [] [] (map (λ (l : Local). l.name) (locals_of t.ops op)) (none_among []) n.text seen) in
      let p = local_typed t op x.0 n.text x.1 in
      ap (λ o. is_some (option_and_then (slot_type (drafted t) op 0) (option_map (λ k. own_slots t op + k) o))) x.1 ∙ ap is_some p.1

  pub wanted_known : (q : Equation) → AreKnown t (equation_uses (InOperator op) (local_scope t op) q) → is_some (target_type t op q.target) ≡ true
  wanted_known q k = target_known q.target (known_parts t (target_uses (InOperator op) (local_scope t op) q.target) (expr_uses (InOperator op) (local_scope t op) q.expr) k).0

-- a phylum that may be used is there
phylum_there : (t : Table) (n : Name) → unknown_at t (UsesPhylum n) ≡ None → (p : ℕ) × (phylum_named t n.text ≡ Some p)
phylum_there t n h = by (phylum_named t n.text) refl (known_is (is_some (usable_named t n.text)) n h)
  where
    by : (o : Option ℕ) → phylum_named t n.text ≡ o → is_some (option_and_then (λ q. if is_whitespace t q n.text then None else Some q) o) ≡ true → (p : ℕ) × (phylum_named t n.text ≡ Some p)
    by None e k = cc
    by (Some p) e k = (p, e)

params_known : (t : Table) (scope : List (List ℕ)) (params : List Typed) → AreKnown t (params_uses scope params) → (types : List ℕ) × (known (map (parameter t) params) ≡ Some types)
params_known t scope [] k = ([], refl)
params_known t scope (x ∷ xs) k =
    let c = known_first t (UsesPhylum x.of) (Binds scope x.name ∷ params_uses (with_variable scope x.name.text) xs) k in
    let d = known_first t (Binds scope x.name) (params_uses (with_variable scope x.name.text) xs) c.2 in
    let p = phylum_there t x.of c.0 in
    let rest = params_known t (with_variable scope x.name.text) xs d.2 in
    (p.0 ∷ rest.0, rw (p.1, rest.1) refl)

pub parameters_known : (t : Table) (of : Name) (params : List Typed) (e : Expr) → AreKnown t (in_function of params e) → (is_some (phylum_named t of.text) ≡ true) × (is_some (known (map (parameter t) params)) ≡ true)
parameters_known t of params e k =
    let c = known_first t (UsesPhylum of) (params_uses [] params ++ expr_uses Elsewhere (params_scope [] params) e) k in
    let p = phylum_there t of c.0 in
    let ps = params_known t [] params (known_parts t (params_uses [] params) (expr_uses Elsewhere (params_scope [] params) e) c.2).0 in
    (ap is_some p.1, ap is_some ps.1)

pub subject_known : (t : Table) (n : Name) (q : Pattern) (e : Expr) → AreKnown t (in_transform n q e) → is_some (phylum_named t n.text) ≡ true
subject_known t n q e k =
    let c = known_first t (UsesPhylum n) (pattern_uses [] q ++ expr_uses Elsewhere (pattern_scope [] q) e) k in
    ap is_some (phylum_there t n c.0).1
