use Rattle.std.proofs.Common.{◌≡◌, ◌++◌, drop}
use Rattle.sg_remote.specs.Keys.{key_of}
use Rattle.sg_remote.proofs.lists.key_of.Given as goal

abbrev pub invariant-loop-far : goal.invariant-loop-far
invariant-loop-far l = l.key.items ++ key_of (drop l.far-index l.list) ≡ key_of l.list
