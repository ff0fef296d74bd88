use Rattle.std.proofs.Common.{◌≡◌, ◌++◌, take}
use Rattle.std.specs.Prelude.{flat_map}
use Rattle.sg_known.specs.Known.{thing_text}
use Rattle.sg_known.proofs.known.write_things.Given as goal

abbrev pub invariant-loop-thing : goal.invariant-loop-thing
invariant-loop-thing l = l.out.items ≡ l.initial.out.items ++ flat_map thing_text (take l.thing-index l.things)
