use Rattle.std.proofs.Common.{◌≡◌, ◌++◌, drop, map}
use Rattle.sg_ast.specs.View.{equation_of}
use Rattle.sg_equations.specs.RulesOf.{rules_from}
use Rattle.sg_equations.proofs.rules_of.add_rules.Given as goal

abbrev pub invariant-loop-equation : goal.invariant-loop-equation
invariant-loop-equation l =
    l.rules.items ++ rules_from l.names l.exprs l.op l.k (map equation_of (drop l.equation-index l.equations))
    ≡ l.initial.rules.items ++ rules_from l.names l.exprs l.op l.first (map equation_of l.equations)
