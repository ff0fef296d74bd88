use Rattle.std.proofs.Common.{◌≡◌, ◌++◌, drop, map}
use Rattle.sg_ast.specs.View.{tree_of, trees_of}
use Rattle.sg_record.specs.Record.{productions_in}
use Rattle.sg_record.proofs.productions.productions.Given as goal

abbrev pub invariant-loop-decl : goal.invariant-loop-decl
invariant-loop-decl l = l.productions.items ++ productions_in l.names l.k (map tree_of (drop l.decl-index l.decls)) ≡ productions_in l.names 0 (trees_of l.decls)
