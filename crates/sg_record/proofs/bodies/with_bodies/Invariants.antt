use Rattle.std.proofs.Common.{◌≡◌, ◌++◌}
use Rattle.std.specs.Vec.Iter.{into_iter_items}
use Rattle.sg_record.specs.Record.{with_bodies}
use Rattle.sg_record.proofs.bodies.with_bodies.Given as goal

abbrev pub invariant-loop-signature : goal.invariant-loop-signature
invariant-loop-signature l = l.made.items ++ with_bodies l.rest (into_iter_items l.signature-iterator) ≡ with_bodies l.bodies l.fn.functions.items
