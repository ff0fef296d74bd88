use Rattle.std.specs.Prelude.{◌≡◌, [], replicate}
use Rattle.sg_orders.proofs.grown.empties.Given as goal

abbrev pub invariant-loop-made : goal.invariant-loop-made
invariant-loop-made g l = l.rows.items ≡ replicate l.made []
