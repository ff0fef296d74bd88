use Rattle.std.proofs.Common.{◌≡◌, ◌<◌, ◌^◌, take}
use Rattle.sg_text.specs.Forms.{value_of}
use Rattle.sg_script.proofs.forms.value_of.Given as goal

abbrev pub invariant-loop-digit : goal.invariant-loop-digit
invariant-loop-digit l = record {
  value : l.number ≡ value_of (take l.digit-index l.digits);
  small : l.number < 10 ^ l.digit-index;
}
