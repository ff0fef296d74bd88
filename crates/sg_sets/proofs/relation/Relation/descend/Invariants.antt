use Rattle.std.proofs.Common.{◌≡◌, ◌+◌, ◌<◌, ◌*◌, length}
use Rattle.std.specs.Prelude.{All}
use Rattle.sg_sets.specs.Members.{missing_of}
use Rattle.sg_sets.proofs.relation.Relation.descend.Given as goal

abbrev pub invariant-loop-a : goal.invariant-loop-a
invariant-loop-a l = record {
  way : All (λ a. a < length l.self) l.way.items;
  order : All (λ a. a < length l.self) l.order.items;
  seen : length l.seen ≡ length l.self;
}

abbrev pub decreases-loop-a : goal.decreases-loop-a
decreases-loop-a l = 2 * missing_of l.seen + length l.way.items
