use Rattle.std.proofs.Common.{◌≡◌, ◌++◌, drop, map}
use Rattle.sg_ast.specs.View.{equation_of}
use Rattle.sg_remote.specs.Atoms.{atoms_of}
use Rattle.sg_remote.proofs.atoms.add_equations.Given as goal

abbrev pub invariant-loop-equation : goal.invariant-loop-equation
invariant-loop-equation l =
    l.atoms.items ++ atoms_of l.names l.op (map equation_of (drop l.equation-index l.equations))
    ≡ l.initial.atoms.items ++ atoms_of l.names l.op (map equation_of l.equations)
