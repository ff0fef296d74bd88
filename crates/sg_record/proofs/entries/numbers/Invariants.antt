use Rattle.std.proofs.Common.{◌≡◌, ◌++◌, drop, map}
use Rattle.sg_ast.specs.View.{tree_of, trees_of}
use Rattle.sg_ast.specs.declared.name.Name.{Name}
use Rattle.sg_record.specs.Record.{phylum_in}
use Rattle.sg_record.specs.Entries.{entered}
use Rattle.sg_record.proofs.entries.numbers.Given as goal

abbrev pub invariant-loop-decl : goal.invariant-loop-decl
invariant-loop-decl l =
    l.numbers.items ++ map (λ (n : Name). phylum_in l.names n.text) (entered (map tree_of (drop l.decl-index l.decls)))
    ≡ map (λ (n : Name). phylum_in l.names n.text) (entered (trees_of l.decls))
