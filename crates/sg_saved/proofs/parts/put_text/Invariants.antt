use Rattle.std.proofs.Common.{◌≡◌, ◌++◌, take}
use Rattle.sg_saved_form.specs.Files.{escaped}
use Rattle.sg_saved.proofs.parts.put_text.Given as goal

abbrev pub invariant-loop-b : goal.invariant-loop-b
invariant-loop-b l = l.out.items ≡ l.initial.out.items ++ escaped (take l.b-index l.text)
