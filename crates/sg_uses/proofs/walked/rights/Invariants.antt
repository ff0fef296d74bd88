use Rattle.std.proofs.Common.{◌≡◌, map, flat_map, drop}
use Rattle.sg_uses.specs.Noted.{noted}
use Rattle.sg_names.specs.Uses as uses
use Rattle.sg_ast.specs.View.{right_of}
use Rattle.sg_uses.proofs.walked.rights.Given as goal

abbrev pub invariant-loop-one : goal.invariant-loop-one
invariant-loop-one l = noted l.names l.found (flat_map (uses.right_uses l.left.text) (map right_of (drop l.one-index l.rights))) ≡ noted l.names l.fn.found (flat_map (uses.right_uses l.left.text) (map right_of l.rights))
