use Rattle.std.proofs.Common.{◌≡◌, ℕ, suc, ◌<◌}
use Rattle.std.specs.Prelude.{Some, slice_get}
use Rattle.sg_reasons.specs.Reasons.{Reason, IsReason}
use Rattle.sg_reasons.proofs.checking.are_reasons.Given as goal

abbrev pub invariant-loop-place : goal.invariant-loop-place
invariant-loop-place l = (i : ℕ) (r : Reason) → i < l.place → slice_get l.reasons i ≡ Some r → IsReason l.scene.rules.now l.reasons (suc i) r
