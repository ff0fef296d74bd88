use Rattle.std.proofs.Common.{◌≡◌, ◌^◌, ◌<◌, take}
use Rattle.sg_text.specs.Forms.{value_of}
use Rattle.sg_text.proofs.forms.value.Given as goal

abbrev pub invariant-loop-digit : goal.invariant-loop-digit
invariant-loop-digit l = (value_of (take l.digit-index l.digits) ≡ l.value) × (l.value < 2 ^ 63)
