use Rattle.std.proofs.Common.{◌≡◌, ◌+◌}
use Rattle.sg_ast.specs.View.{patterns_of}
use Rattle.sg_names.specs.Uses as uses
use Rattle.sg_uses.proofs.walk.patterns_count.Given as goal

abbrev pub invariant-loop-left : goal.invariant-loop-left
invariant-loop-left l = l.count + uses.patterns_count (patterns_of l.left) ≡ uses.patterns_count (patterns_of l.fn.patterns)
