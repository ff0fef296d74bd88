use Rattle.std.proofs.Common.{◌≡◌, ◌++◌, map, drop}
use Rattle.sg_ast.specs.declared.decl.Alt.{Alt}
use Rattle.sg_tables.proofs.definitions.add_alt_places.Given as goal

abbrev pub invariant-loop-alt : goal.invariant-loop-alt
invariant-loop-alt l = l.places.items ++ map (λ (a : Alt). a.name.place) (drop l.alt-index l.alts) ≡ l.fn.places.items ++ map (λ (a : Alt). a.name.place) l.alts
