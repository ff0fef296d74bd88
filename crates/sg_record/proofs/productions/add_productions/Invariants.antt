use Rattle.std.proofs.Common.{◌≡◌, ◌++◌, drop, map}
use Rattle.sg_ast.specs.View.{right_of}
use Rattle.sg_names.specs.Names.{map_from}
use Rattle.sg_record.specs.Record.{production}
use Rattle.sg_record.proofs.productions.add_productions.Given as goal

abbrev pub invariant-loop-right : goal.invariant-loop-right
invariant-loop-right l =
    l.productions.items ++ map_from (production l.names l.left) l.k (map right_of (drop l.right-index l.rights))
    ≡ l.initial.productions.items ++ map_from (production l.names l.left) l.first (map right_of l.rights)
