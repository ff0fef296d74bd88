use Rattle.std.proofs.Common.{◌≡◌, map, take}
use Rattle.sg_names.specs.Lookups.{far_of}
use Rattle.sg_names.proofs.names.Names.far_list.Given as goal

abbrev pub invariant-loop-pair : goal.invariant-loop-pair
invariant-loop-pair l = l.list.items ≡ map (far_of l.self) (take l.pair-index l.pairs)
