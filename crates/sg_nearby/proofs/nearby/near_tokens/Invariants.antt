use Rattle.std.proofs.Common.{◌≡◌, drop}
use Rattle.std.specs.Prelude.{fold}
use Rattle.sg_nearby.specs.Nearby.{near_tokens, with_near}
use Rattle.sg_nearby.proofs.nearby.near_tokens.Given as goal

abbrev pub invariant-loop-token : goal.invariant-loop-token
invariant-loop-token l = fold (with_near l.bytes l.name l.most) l.found.items (drop l.token-index l.tokens) ≡ near_tokens l.bytes l.name l.most l.tokens
