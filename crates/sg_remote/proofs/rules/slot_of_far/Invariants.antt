use Rattle.std.proofs.Common.{◌≡◌, drop}
use Rattle.std.specs.List.{position_from}
use Rattle.sg_kinds.specs.Far as far
use Rattle.sg_kinds.specs.declared.spec.Attr.{Attr}
use Rattle.sg_remote.proofs.rules.slot_of_far.Given as goal

abbrev pub invariant-loop-place : goal.invariant-loop-place
invariant-loop-place l = position_from (λ (a : Attr). far.same_far a.far l.list) l.place (drop l.place l.attrs) ≡ far.slot_of_far l.attrs l.list
