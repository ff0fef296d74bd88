use Rattle.std.proofs.Common.{◌≡◌, map, drop}
use Rattle.sg_uses.specs.Noted.{noted}
use Rattle.sg_names.specs.Uses as uses
use Rattle.sg_uses.proofs.walked.phyla.Given as goal

abbrev pub invariant-loop-name : goal.invariant-loop-name
invariant-loop-name l = noted l.context.names.now l.found (map uses.UsesPhylum (drop l.name-index l.names)) ≡ noted l.context.names.now l.fn.found (map uses.UsesPhylum l.names)
