use Rattle.std.proofs.Common.{◌≡◌, ◌++◌, drop, map}
use Rattle.sg_views.specs.Schemes.{item_of}
use Rattle.sg_views.proofs.schemes.items.Given as goal

abbrev pub invariant-loop-each : goal.invariant-loop-each
invariant-loop-each l = l.made.items ++ map (item_of l.names l.op) (drop l.each-index l.items) ≡ map (item_of l.names l.op) l.items
