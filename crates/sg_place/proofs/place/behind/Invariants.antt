use Rattle.std.proofs.Common.{◌≡◌, ◌-◌}
use Rattle.sg_place.specs.Places.{behind}
use Rattle.sg_place.proofs.place.behind.Given as goal

abbrev pub invariant-loop-turn : goal.invariant-loop-turn
invariant-loop-turn l = behind (l.number - l._turn) l.left ≡ behind l.number l.tokens
