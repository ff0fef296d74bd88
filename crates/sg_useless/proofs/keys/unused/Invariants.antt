use Rattle.std.proofs.Common.{◌≡◌, ◌++◌, drop}
use Rattle.sg_useless.specs.Useless.{unused_parts}
use Rattle.sg_useless.proofs.keys.unused.Given as goal

abbrev pub invariant-loop-part : goal.invariant-loop-part
invariant-loop-part l = l.unused.items ++ unused_parts l.used.parts.now (drop l.part-index l.parts) ≡ unused_parts l.used.parts.now l.parts
