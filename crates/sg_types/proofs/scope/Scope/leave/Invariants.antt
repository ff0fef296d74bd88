use Rattle.std.proofs.Common.{◌≡◌, length, take}
use Rattle.sg_types.specs.Scopes.{AreFirst}
use Rattle.sg_types.proofs.scope.Scope.leave.Given as goal

abbrev pub invariant-loop-self : goal.invariant-loop-self
invariant-loop-self l = record {
  first : AreFirst l.self-inside.variables.items l.self-inside.places;
  front : take l.count l.self-inside.variables.items ≡ take l.count l.fn.self;
}

abbrev pub decreases-loop-self : goal.decreases-loop-self
decreases-loop-self l = length l.self-inside.variables.items
