use Rattle.std.proofs.Common.{◌≡◌, not, find, None}
use Rattle.sg_kinds.specs.Instances.{below}
use Rattle.sg_names.specs.Drafted.{drafted}
use Rattle.sg_shapes.specs.Unfinished.{is_finished}
use Rattle.sg_shapes.proofs.unfinished.first.Given as goal

abbrev pub invariant-loop-place : goal.invariant-loop-place
invariant-loop-place l = find (λ p. not (is_finished (drafted l.table) p)) (below l.place) ≡ None
