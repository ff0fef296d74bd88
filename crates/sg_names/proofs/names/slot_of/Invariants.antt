use Rattle.std.proofs.Common.{◌≡◌, drop, bytes_eq}
use Rattle.std.specs.List.{position_from}
use Rattle.sg_kinds.specs.declared.spec.Attr.{Attr}
use Rattle.sg_names.specs.Lookups.{slot_named}
use Rattle.sg_names.proofs.names.slot_of.Given as goal

abbrev pub invariant-loop-place : goal.invariant-loop-place
invariant-loop-place l = position_from (λ (a : Attr). bytes_eq l.name a.name) l.place (drop l.place l.attrs) ≡ slot_named l.attrs l.name
