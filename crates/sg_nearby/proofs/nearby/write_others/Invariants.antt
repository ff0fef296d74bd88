use Rattle.std.proofs.Common.{◌≡◌, ◌++◌, take}
use Rattle.std.specs.Prelude.{flat_map}
use Rattle.sg_nearby.specs.Nearby.{or_text}
use Rattle.sg_nearby.proofs.nearby.write_others.Given as goal

abbrev pub invariant-loop-token : goal.invariant-loop-token
invariant-loop-token l = l.out.items ≡ l.initial.out.items ++ flat_map (or_text l.bytes) (take l.token-index l.tokens)
