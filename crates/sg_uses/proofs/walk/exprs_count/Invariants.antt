use Rattle.std.proofs.Common.{◌≡◌, ◌+◌}
use Rattle.sg_ast.specs.View.{exprs_of}
use Rattle.sg_names.specs.Uses as uses
use Rattle.sg_uses.proofs.walk.exprs_count.Given as goal

abbrev pub invariant-loop-left : goal.invariant-loop-left
invariant-loop-left l = l.count + uses.exprs_count (exprs_of l.left) ≡ uses.exprs_count (exprs_of l.fn.exprs)
