use Rattle.std.proofs.Common.{◌≡◌, ◌++◌, ◌*◌, ◌+◌, take}
use Rattle.sg_kinds.specs.Values.{depth_of, depths_of, row_of}
use Rattle.sg_saved.proofs.Written.{spelled_values}
use Rattle.sg_saved.proofs.spelling.+spell.Given as goal

abbrev pub decreases-put_value : goal.decreases-put_value
decreases-put_value l = 2 * depth_of l.v.now

abbrev pub decreases-put_values : goal.decreases-put_values
decreases-put_values l = 2 * depths_of (row_of l.values.now) + 1

abbrev pub invariant-put_values-loop-i : goal.invariant-put_values-loop-i
invariant-put_values-loop-i l = l.out.items ≡ l.initial.out.items ++ spelled_values l.spec (take l.i l.values)
