use Rattle.std.proofs.Common.{◌≡◌, ◌++◌, map, take}
use Rattle.sg_known.specs.Things.{literal_thing}
use Rattle.sg_known.proofs.things.add_literals.Given as goal

abbrev pub invariant-loop-literal : goal.invariant-loop-literal
invariant-loop-literal l = l.found.items ≡ l.initial.found.items ++ map literal_thing (take l.literal-index l.literals)
