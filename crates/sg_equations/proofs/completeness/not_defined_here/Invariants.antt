use Rattle.std.proofs.Common.{◌≡◌, drop}
use Rattle.sg_ast.specs.FirstFault.{first}
use Rattle.sg_equations.specs.Complete.{not_owed}
use Rattle.sg_equations.proofs.completeness.not_defined_here.Given as goal

abbrev pub invariant-loop-equation : goal.invariant-loop-equation
invariant-loop-equation l = first (not_owed l.names) (drop l.equation-index l.defined) ≡ first (not_owed l.names) l.defined
