use Rattle.std.proofs.Common.{◌≡◌, ◌++◌, map, drop}
use Rattle.sg_names.specs.declared.heads.Head.{Head}
use Rattle.sg_tables.proofs.tables.places.Given as goal

abbrev pub invariant-loop-head : goal.invariant-loop-head
invariant-loop-head l = l.places.items ++ map (λ (h : Head). h.place) (drop l.head-index l.heads) ≡ map (λ (h : Head). h.place) l.heads
