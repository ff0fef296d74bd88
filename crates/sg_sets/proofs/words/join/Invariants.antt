use Rattle.std.proofs.Common.{◌≡◌}
use Rattle.std.specs.Bool.{OnTrue, OnFalse}
use Rattle.sg_sets.specs.Words.{Gained}
use Rattle.sg_sets.proofs.JoinedLemmas.{Joined}
use Rattle.sg_sets.proofs.words.join.Given as goal

abbrev pub invariant-loop-k : goal.invariant-loop-k
invariant-loop-k l = record {
  joined : Joined l.k l.fn.words l.other l.words;
  gained : OnTrue l.grown (Gained l.fn.words l.other);
  stays : OnFalse l.grown (l.words ≡ l.fn.words);
}
