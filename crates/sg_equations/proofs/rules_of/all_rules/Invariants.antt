use Rattle.std.proofs.Common.{◌≡◌, ◌++◌, drop, map}
use Rattle.sg_ast.specs.View.{tree_of}
use Rattle.sg_equations.specs.RulesOf.{rules_in}
use Rattle.sg_equations.proofs.rules_of.all_rules.Given as goal

abbrev pub invariant-loop-decl : goal.invariant-loop-decl
invariant-loop-decl l = l.rules.items ++ rules_in l.names l.exprs l.k (map tree_of (drop l.decl-index l.decls)) ≡ rules_in l.names l.exprs 0 (map tree_of l.decls)
