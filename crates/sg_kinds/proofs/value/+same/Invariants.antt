use Rattle.std.proofs.Common.{◌≡◌, ◌*◌, ◌+◌, take}
use Rattle.sg_kinds.specs.Values.{depth_of, depths_of, row_of}
use Rattle.sg_kinds.proofs.value.+same.Given as goal

abbrev pub decreases-Value::same : goal.decreases-Value::same
decreases-Value::same l = 2 * depth_of l.self.now

abbrev pub decreases-are_same : goal.decreases-are_same
decreases-are_same l = 2 * depths_of (row_of l.xs.now) + 1

abbrev pub invariant-are_same-loop-i : goal.invariant-are_same-loop-i
invariant-are_same-loop-i l = take l.i l.xs ≡ take l.i l.ys
