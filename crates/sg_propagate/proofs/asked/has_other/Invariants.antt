use Rattle.std.proofs.Common.{take}
use Rattle.std.specs.Prelude.{◌≡◌, Some, slice_get}
use Rattle.sg_kinds.specs.declared.spec.Rule.{Rule}
use Rattle.sg_propagate.proofs.Asking.{ShowsNone}
use Rattle.sg_propagate.proofs.asked.has_other.Given as goal

abbrev pub invariant-loop-o : goal.invariant-loop-o
invariant-loop-o l = (r : Rule) → slice_get l.terms.spec.rules l.fn.rule ≡ Some r → ShowsNone l.terms l.top l.left l.n l.work (take l.o-index r.args)
