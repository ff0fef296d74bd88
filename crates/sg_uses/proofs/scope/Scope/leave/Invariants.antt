use Rattle.std.proofs.Common.{◌≡◌, length, map, take}
use Rattle.sg_uses.specs.Seen.{IsSeen}
use Rattle.sg_uses.proofs.scope.Scope.leave.Given as goal

abbrev pub invariant-loop-self : goal.invariant-loop-self
invariant-loop-self l = record {
  seen : IsSeen (map (λ v. v.items) l.self-inside.names.items) l.self-inside.seen;
  front : take l.count (map (λ v. v.items) l.self-inside.names.items) ≡ take l.count l.fn.self;
}

abbrev pub decreases-loop-self : goal.decreases-loop-self
decreases-loop-self l = length l.self-inside.names.items
