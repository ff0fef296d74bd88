use Rattle.std.proofs.Common.{◌≡◌, ℕ, length}
use Rattle.std.specs.Prelude.{sum_by}
use Rattle.sg_sets.specs.Rows.{Holds, all_missing}
use Rattle.sg_dependencies.specs.Induced.{relation_at}
use Rattle.sg_dependencies.specs.Rounds.{AreAlike, StaySound}
use Rattle.sg_dependencies.specs.Waiting.{AreSettledElse}
use Rattle.sg_dependencies.proofs.rounds.exhaust.Given as goal

abbrev pub invariant-loop : goal.invariant-loop
invariant-loop l = record {
  operators : AreAlike l.fn.operators l.operators;
  phyla : AreAlike l.fn.phyla l.phyla;
  sound : StaySound l.frames l.fn.operators l.fn.phyla l.operators l.phyla;
  flags : length l.waiting ≡ length l.frames;
  others : AreSettledElse l.frames l.waiting l.operators l.phyla;
  keeps : (p m n : ℕ) → Holds (relation_at l.fn.operators p) m n → Holds (relation_at l.operators p) m n;
}

abbrev pub decreases-loop : goal.decreases-loop
decreases-loop l = sum_by all_missing l.phyla
