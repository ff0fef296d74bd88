use Rattle.std.proofs.Common.{◌≡◌, map, flat_map, fold, drop}
use Rattle.sg_ast.specs.View.{tree_of, trees_of}
use Rattle.sg_names.specs.Heads.{with_head}
use Rattle.sg_names.specs.Names.{nonterminal_defined, nonterminals_in}
use Rattle.sg_tables.proofs.definitions.nonterminals.Given as goal

abbrev pub invariant-loop-decl : goal.invariant-loop-decl
invariant-loop-decl l = fold with_head l.heads (flat_map nonterminal_defined (map tree_of (drop l.decl-index l.decls))) ≡ nonterminals_in (trees_of l.decls)
