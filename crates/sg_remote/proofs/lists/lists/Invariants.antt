use Rattle.std.proofs.Common.{◌≡◌, map, drop}
use Rattle.sg_remote.specs.Keys.{list_of}
use Rattle.sg_remote.specs.Lists.{lists_from, lists_of}
use Rattle.sg_remote.proofs.lists.lists.Given as goal

abbrev pub invariant-loop-atom : goal.invariant-loop-atom
invariant-loop-atom l = lists_from (map (λ k. list_of k.items) l.lists.keys) (drop l.atom-index l.atoms) ≡ lists_of l.atoms
