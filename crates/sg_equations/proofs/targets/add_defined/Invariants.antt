use Rattle.std.proofs.Common.{◌≡◌, ◌++◌, take, flat_map}
use Rattle.sg_ast.specs.View.{equation_of}
use Rattle.sg_equations.specs.Targets.{defined_by}
use Rattle.sg_equations.proofs.targets.add_defined.Given as goal

abbrev pub invariant-loop-equation : goal.invariant-loop-equation
invariant-loop-equation l = l.defined.items ≡ l.initial.defined.items ++ flat_map (λ e. defined_by l.names l.op (equation_of e)) (take l.equation-index l.equations)
