use Rattle.std.proofs.Common.{◌≡◌, ◌++◌, map, take}
use Rattle.std.specs.List.{flat_map}
use Rattle.sg_ast.specs.Declarations.{Equation}
use Rattle.sg_ast.specs.View.{equation_of}
use Rattle.sg_counts.specs.Duplicates.{expr_defined}
use Rattle.sg_counts.specs.DefinitionsView.{seen_of}
use Rattle.sg_counts.proofs.definitions.add_equations.Given as goal

abbrev pub invariant-loop-equation : goal.invariant-loop-equation
invariant-loop-equation l = seen_of l.found.items ≡ seen_of l.initial.found.items ++ flat_map (λ (x : Equation). expr_defined x.expr) (map equation_of (take l.equation-index l.equations))
