-- The laws of what is kept of declarations, over every table.
use Rattle.std.proofs.Common.{◌≡◌, ℕ, true, List, ◌++◌, Some, None}
use Rattle.std.specs.Prelude.{is_some}
use Rattle.sg_kinds.specs.Typing.{type_of, bound_types}
use Rattle.sg_ast.specs.Patterns.{Pattern}
use Rattle.sg_ast.specs.Expressions.{Expr}
use Rattle.sg_ast.specs.Written.{HasValues, AreWritten}
use Rattle.sg_names.specs.declared.table.Table.{Table}
use Rattle.sg_names.specs.Drafted.{drafted}
use Rattle.sg_types.specs.declared.scope.Variable.{Variable}
use Rattle.sg_types.specs.Bindings.{Owner}
use Rattle.sg_types.specs.Patterns as pattern
use Rattle.sg_types.specs.Expressions.{type_in, mismatch_in, recorded}
use Rattle.sg_typing.specs.Written.{HasLists, AreOutside, known}
use Rattle.sg_typing.proofs.RecordTyped.{pattern_typed}
use Rattle.sg_typing.proofs.ExprTyped.{expr_type_kept, expr_has_type}
use Rattle.sg_typing.proofs.TableFacts.{usable_is, callables_known}

pub pattern_kept : (t : Table) (q : Pattern) (p : ℕ) → HasValues q → pattern.mismatch_in t q (Some p) ≡ None → bound_types (drafted t) (pattern.recorded t q) p ≡ known (pattern.variables_of t q (Some p))
pattern_kept t q p v h = pattern_typed t (usable_is t) q p v h

pub expr_kept : (t : Table) → HasLists t → (w : Owner) (outer : List ℕ) → AreOutside t w outer → (vs : List Variable) (types : List ℕ) (e : Expr) → known vs ≡ Some types → AreWritten e → mismatch_in t w vs e ≡ None → type_of (drafted t) (outer ++ types) (recorded t w vs e) ≡ type_in t w vs e
expr_kept t lists w outer out vs types e k v h = expr_type_kept t (usable_is t) lists (callables_known t) w outer out vs types e k v h

pub expr_typed : (t : Table) → HasLists t → (w : Owner) (outer : List ℕ) → AreOutside t w outer → (vs : List Variable) (types : List ℕ) (e : Expr) → known vs ≡ Some types → AreWritten e → mismatch_in t w vs e ≡ None → is_some (type_in t w vs e) ≡ true
expr_typed t lists w outer out vs types e k v h = expr_has_type t (usable_is t) lists (callables_known t) w outer out vs types e k v h
