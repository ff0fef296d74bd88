use Rattle.std.proofs.Common.{◌≡◌, ◌++◌, take}
use Rattle.sg_script.specs.Spelled.{escaped}
use Rattle.sg_live.proofs.texts.write_string.Given as goal

abbrev pub invariant-loop-b : goal.invariant-loop-b
invariant-loop-b l = l.out.items ≡ l.initial.out.items ++ escaped (take l.b-index l.text)
