use Rattle.std.proofs.Common.{◌≡◌, ◌++◌, drop}
use Rattle.sg_kinds.specs.Far.{rest_text}
use Rattle.sg_remote.proofs.far_attrs.add_rest.Given as goal

abbrev pub invariant-loop-far : goal.invariant-loop-far
invariant-loop-far l = l.text.items ++ rest_text l.names.phyla (drop l.far-index l.rest) ≡ l.initial.text.items ++ rest_text l.names.phyla l.rest
