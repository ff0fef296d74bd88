use Rattle.std.proofs.Common.{◌≡◌, ℕ, ◌<◌, ◌⊎◌, length}
use Rattle.sg_dependencies.specs.Rounds.{frame_at}
use Rattle.sg_dependencies.specs.Waiting.{AreApart, Waits}
use Rattle.sg_dependencies.proofs.waiting.call.Given as goal

abbrev pub invariant-loop-q : goal.invariant-loop-q
invariant-loop-q l = record {
  size : length l.waiting ≡ length l.fn.waiting;
  stays : (q : ℕ) → Waits l.fn.waiting q → Waits l.waiting q;
  calls : (q : ℕ) → q < l.q → Waits l.waiting q ⊎ AreApart (frame_at l.frames q).spots l.spots;
}
