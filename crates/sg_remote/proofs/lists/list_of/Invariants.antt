use Rattle.std.proofs.Common.{◌≡◌, ◌++◌, drop}
use Rattle.sg_remote.specs.Keys.{list_of}
use Rattle.sg_remote.proofs.lists.list_of.Given as goal

abbrev pub invariant-loop-phylum : goal.invariant-loop-phylum
invariant-loop-phylum l = l.list.items ++ list_of (drop l.phylum-index l.key) ≡ list_of l.key
