-- The rules of the record are those of what equations define.
use Rattle.std.proofs.Common.{◌≡◌, ℕ, suc, ◌+◌, Bool, nat_eq, List, [], ◌∷◌, ◌++◌, map, Option, Some, None, refl, sym, ap, subst, ◌∙◌}
use Rattle.std.specs.Prelude.{◌&&◌, flat_map}
use Rattle.std.specs.List.{AllByRecursion, count_by}
use Rattle.std.proofs.lemmas.List.{map-append}
use Rattle.sg_kinds.specs.Instances.{defines}
use Rattle.sg_kinds.specs.declared.spec.Occurrence.{Occurrence}
use Rattle.sg_kinds.specs.declared.spec.Rule.{Rule}
use Rattle.sg_ast.specs.Declarations.{Decl, Equation, Equations}
use Rattle.sg_ast.specs.declared.decl.Target.{Target}
use Rattle.sg_names.specs.Lookups.{operator_at}
use Rattle.sg_names.specs.declared.table.Table.{Table}
use Rattle.sg_typing.specs.Bodies.{expr_count}
use Rattle.sg_typing.specs.declared.bodies.TypedExpr.{TypedExpr}
use Rattle.sg_equations.specs.declared.targets.Defined.{Defined}
use Rattle.sg_equations.specs.RulesOf.{ruled, rules_from, rules_under, rules_at, rules_in}
use Rattle.sg_equations.specs.Targets.{target_there, defined_as, defined_by, defined_under, defined_at, defined_in}
use Rattle.sg_equations.proofs.Counts.{count_map}

abbrev pub rule_key : Rule → ℕ × Occurrence
rule_key r = (r.op, r.target)

abbrev pub defined_key : Defined → ℕ × Occurrence
defined_key d = (d.op, d.target)

ruled_keys : (exprs : List TypedExpr) (op k : ℕ) (target : Target) (o : Option Occurrence) → map rule_key (ruled exprs op k o) ≡ map defined_key (defined_as op target o)
ruled_keys exprs op k target None = refl
ruled_keys exprs op k target (Some o) = refl

joined_keys : (rs ss : List Rule) (ds es : List Defined) → map rule_key rs ≡ map defined_key ds → map rule_key ss ≡ map defined_key es → map rule_key (rs ++ ss) ≡ map defined_key (ds ++ es)
joined_keys rs ss ds es h k = map-append rule_key rs ss ∙ (λ i. h i ++ k i) ∙ sym (map-append defined_key ds es)

from_keys : (t : Table) (exprs : List TypedExpr) (op k : ℕ) (es : List Equation) → map rule_key (rules_from t exprs op k es) ≡ map defined_key (flat_map (defined_by t op) es)
from_keys t exprs op k [] = refl
from_keys t exprs op k (e ∷ es) =
    joined_keys (ruled exprs op k (target_there t op e.target)) (rules_from t exprs op (suc k) es) (defined_by t op e) (flat_map (defined_by t op) es)
    (ruled_keys exprs op k e.target (target_there t op e.target)) (from_keys t exprs op (suc k) es)

under_keys : (t : Table) (exprs : List TypedExpr) (k : ℕ) (es : List Equation) (op : Option ℕ) → map rule_key (rules_under t exprs k es op) ≡ map defined_key (defined_under t es op)
under_keys t exprs k es None = refl
under_keys t exprs k es (Some op) = from_keys t exprs op k es

at_keys : (t : Table) (exprs : List TypedExpr) (k : ℕ) (d : Decl) → map rule_key (rules_at t exprs k d) ≡ map defined_key (defined_at t d)
at_keys t exprs k (Equations p op locals es) = under_keys t exprs k es (operator_at t p op)
at_keys t exprs k d = refl

pub in_keys : (t : Table) (exprs : List TypedExpr) (k : ℕ) (ds : List Decl) → map rule_key (rules_in t exprs k ds) ≡ map defined_key (defined_in t ds)
in_keys t exprs k [] = refl
in_keys t exprs k (d ∷ ds) = joined_keys (rules_at t exprs k d) (rules_in t exprs (k + expr_count d) ds) (defined_at t d) (defined_in t ds) (at_keys t exprs k d) (in_keys t exprs (k + expr_count d) ds)

-- whether something defines an occurrence of an operator
abbrev pub is_for : ℕ → Occurrence → ℕ × Occurrence → Bool
is_for op o x = nat_eq x.0 op && (nat_eq x.1.at o.at && nat_eq x.1.slot o.slot)

pub same_count : (op : ℕ) (o : Occurrence) (rs : List Rule) (ds : List Defined) → map rule_key rs ≡ map defined_key ds → count_by (defines op o) rs ≡ count_by (λ d. is_for op o (defined_key d)) ds
same_count op o rs ds h = sym (count_map rule_key (is_for op o) rs) ∙ ap (count_by (is_for op o)) h ∙ count_map defined_key (is_for op o) ds

map_all : {X Y : Type 0} (P : Y → Type 0) (f : X → Y) (xs : List X) → AllByRecursion (λ x. P (f x)) xs → AllByRecursion P (map f xs)
map_all P f [] h = tt
map_all P f (x ∷ xs) h = (h.0, map_all P f xs h.1)

all_map : {X Y : Type 0} (P : Y → Type 0) (f : X → Y) (xs : List X) → AllByRecursion P (map f xs) → AllByRecursion (λ x. P (f x)) xs
all_map P f [] h = tt
all_map P f (x ∷ xs) h = (h.0, all_map P f xs h.1)

pub same_all : (P : ℕ × Occurrence → Type 0) (rs : List Rule) (ds : List Defined) → map rule_key rs ≡ map defined_key ds → AllByRecursion (λ d. P (defined_key d)) ds → AllByRecursion (λ r. P (rule_key r)) rs
same_all P rs ds h all = all_map P rule_key rs (subst (AllByRecursion P) (sym h) (map_all P defined_key ds all))
