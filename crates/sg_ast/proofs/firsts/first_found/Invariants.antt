use Rattle.std.proofs.Common.{◌≡◌, drop}
use Rattle.sg_ast.specs.FirstFault.{first}
use Rattle.sg_ast.proofs.firsts.first_found.Given as goal

abbrev pub invariant-loop-spot : goal.invariant-loop-spot
invariant-loop-spot g l = first (g.R.Rule.fault_of l.rule) (drop l.spot-index l.spots) ≡ first (g.R.Rule.fault_of l.rule) l.spots
