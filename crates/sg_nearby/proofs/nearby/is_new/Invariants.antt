use Rattle.std.proofs.Common.{◌≡◌, drop}
use Rattle.std.specs.Prelude.{bytes_eq}
use Rattle.std.specs.List.{list_any}
use Rattle.sg_nearby.specs.Nearby.{word}
use Rattle.sg_nearby.proofs.nearby.is_new.Given as goal

abbrev pub invariant-loop-token : goal.invariant-loop-token
invariant-loop-token l = list_any (λ t. bytes_eq l.name (word l.bytes t)) (drop l.token-index l.found) ≡ list_any (λ t. bytes_eq l.name (word l.bytes t)) l.found
