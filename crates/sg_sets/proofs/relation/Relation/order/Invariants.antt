use Rattle.std.proofs.Common.{◌≡◌, ◌<◌, [], length}
use Rattle.std.specs.Prelude.{All}
use Rattle.sg_sets.proofs.relation.Relation.order.Given as goal

abbrev pub invariant-loop-a : goal.invariant-loop-a
invariant-loop-a l = record {
  order : All (λ a. a < length l.self) l.order.items;
  way : l.way.items ≡ [];
  seen : length l.seen ≡ length l.self;
}
