use Rattle.std.proofs.Common.{◌≡◌, ◌++◌, map, drop}
use Rattle.sg_remote.specs.Keys.{list_of}
use Rattle.sg_remote.proofs.lists.listed.Given as goal

abbrev pub invariant-loop-key : goal.invariant-loop-key
invariant-loop-key l = l.lists.items ++ map (λ k. list_of k.items) (drop l.key-index l.keys) ≡ map (λ k. list_of k.items) l.keys
