use Rattle.std.proofs.Common.{◌≡◌, ◌*◌, ◌+◌, take}
use Rattle.sg_kinds.specs.Values.{depth_of, depths_of, row_of}
use Rattle.sg_kinds.proofs.value.+copy.Given as goal

abbrev pub decreases-Value::copy : goal.decreases-Value::copy
decreases-Value::copy l = 2 * depth_of l.self.now

abbrev pub decreases-copy_all : goal.decreases-copy_all
decreases-copy_all l = 2 * depths_of (row_of l.values.now) + 1

abbrev pub invariant-copy_all-loop-value : goal.invariant-copy_all-loop-value
invariant-copy_all-loop-value l = l.copies.items ≡ take l.value-index l.values
