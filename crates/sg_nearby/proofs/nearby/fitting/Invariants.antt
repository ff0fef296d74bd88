use Rattle.std.proofs.Common.{◌≡◌, take}
use Rattle.sg_nearby.specs.Nearby.{fitting}
use Rattle.sg_nearby.proofs.nearby.fitting.Given as goal

abbrev pub invariant-loop-token : goal.invariant-loop-token
invariant-loop-token l = l.found.items ≡ fitting l.bytes l.at l.count l.number (take l.token-index l.tokens)
