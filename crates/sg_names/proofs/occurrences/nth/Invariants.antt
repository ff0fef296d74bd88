use Rattle.std.proofs.Common.{◌≡◌, ◌+◌, drop, slice_get}
use Rattle.sg_names.specs.Lookups.{places_from}
use Rattle.sg_names.proofs.occurrences.nth.Given as goal

abbrev pub invariant-loop-place : goal.invariant-loop-place
invariant-loop-place g l = slice_get (places_from (g.T.Test.passes l.test) (l.place + 1) (drop l.place l.xs)) l.number ≡ slice_get (places_from (g.T.Test.passes l.test) 1 l.xs) l.fn.number
