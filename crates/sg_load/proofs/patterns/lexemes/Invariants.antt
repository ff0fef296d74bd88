use Rattle.sg_ast.specs.View.{trees_of}
use Rattle.sg_load.specs.PatternsSoFar.{ArePatternsOf}
use Rattle.sg_load.proofs.patterns.lexemes.Given as goal

abbrev pub invariant-loop-place : goal.invariant-loop-place
invariant-loop-place l = ArePatternsOf (trees_of l.decls) l.place l.patterns.items l.empty
