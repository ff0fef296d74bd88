use Rattle.std.proofs.Common.{◌*◌, ◌+◌}
use Rattle.sg_kinds.specs.Values.{size_of, sizes_of, row_of}
use Rattle.sg_eval.proofs.patterns.+comparing.Given as goal

abbrev pub decreases-is_value_at : goal.decreases-is_value_at
decreases-is_value_at l = 2 * size_of l.v.now

abbrev pub decreases-are_values_at : goal.decreases-are_values_at
decreases-are_values_at l = 2 * sizes_of (row_of l.vs.now) + 1
