use Rattle.std.proofs.Common.{◌≡◌, ◌*◌, ◌+◌, List, [], length, map}
use Rattle.sg_kinds.specs.Values.{Value}
use Rattle.sg_pool.specs.Pools.{IsGrown}
use Rattle.sg_kinds.specs.ExprView.{exprs_of, cases_of}
use Rattle.sg_kinds.specs.Evaluation.{value_within, row_reached, first_case}
use Rattle.sg_eval.specs.Lives.{value_in, IsKnown, AreKnown, bindings, bound_in, AreUsable}
use Rattle.sg_eval.specs.MadeTerms.{AreMade}
use Rattle.sg_eval.proofs.eval.+eval.Given as goal

abbrev pub decreases-enter : goal.decreases-enter
decreases-enter l = 7 * l.room + 1

abbrev pub decreases-reach : goal.decreases-reach
decreases-reach l = 7 * l.room

abbrev pub decreases-descend : goal.decreases-descend
decreases-descend l = 7 * l.room + 6

abbrev pub decreases-step : goal.decreases-step
decreases-step l = 7 * l.room + 5

abbrev pub decreases-single : goal.decreases-single
decreases-single l = 7 * l.room + 3

abbrev pub decreases-binary : goal.decreases-binary
decreases-binary l = 7 * l.room + 3

abbrev pub decreases-logical : goal.decreases-logical
decreases-logical l = 7 * l.room + 3

abbrev pub decreases-cons : goal.decreases-cons
decreases-cons l = 7 * l.room + 3

abbrev pub decreases-choice : goal.decreases-choice
decreases-choice l = 7 * l.room + 3

abbrev pub decreases-apply : goal.decreases-apply
decreases-apply l = 7 * l.room + 4

abbrev pub decreases-call : goal.decreases-call
decreases-call l = 7 * l.room + 4

abbrev pub decreases-bind : goal.decreases-bind
decreases-bind l = 7 * l.room + 3

abbrev pub decreases-with : goal.decreases-with
decreases-with l = 7 * l.room + 4

abbrev pub decreases-first_match : goal.decreases-first_match
decreases-first_match l = 7 * l.room + 3

abbrev pub decreases-row : goal.decreases-row
decreases-row l = 7 * l.room + 3

-- the values so far, and what is left of the row
abbrev pub invariant-row-loop-rest : goal.invariant-row-loop-rest
invariant-row-loop-rest l = record {
  made : AreMade l.scope.spec.now l.made l.pool;
  same_env : l.env.items ≡ l.initial.env.items;
  grown : IsGrown l.initial.pool l.pool;
  usable : (last : List Value) → IsGrown l.pool last → AreUsable last l.values.items;
  goes_on : (last : List Value) → IsGrown l.pool last
      → row_reached (value_within l.scope.spec.now l.room) (map (value_in last) l.values.items) (exprs_of l.rest) (bound_in last l.scope.args.now l.initial.env.items) l.fuel
      ≡ row_reached (value_within l.scope.spec.now l.room) [] (exprs_of l.fn.parts) (bound_in last l.scope.args.now l.initial.env.items) l.initial.fuel;
}

-- the cases so far do not match
abbrev pub invariant-first_match-loop-rest : goal.invariant-first_match-loop-rest
invariant-first_match-loop-rest l = record {
  made : AreMade l.scope.spec.now l.made l.pool;
  same_env : l.env.items ≡ l.initial.env.items;
  grown : IsGrown l.initial.pool l.pool;
  value : IsKnown (length l.pool) l.x;
  known : AreKnown (length l.pool) (bindings l.scope.args.now l.env.items);
  same_fuel : l.fuel ≡ l.initial.fuel;
  goes_on : (last : List Value) → IsGrown l.pool last
      → first_case l.scope.spec.now (value_within l.scope.spec.now l.room) (value_in last l.x) (cases_of l.rest) (bound_in last l.scope.args.now l.initial.env.items) l.initial.fuel
      ≡ first_case l.scope.spec.now (value_within l.scope.spec.now l.room) (value_in last l.x) (cases_of l.fn.cases) (bound_in last l.scope.args.now l.initial.env.items) l.initial.fuel;
}
