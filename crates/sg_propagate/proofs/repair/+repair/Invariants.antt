use Rattle.std.proofs.Common.{◌≡◌, ◌+◌, ◌*◌}
use Rattle.std.specs.Prelude.{Ok}
use Rattle.sg_eval.specs.Journal.{now_of, total_of}
use Rattle.sg_forest.specs.Trees.{room_below}
use Rattle.sg_propagate.specs.Moves.{IsGivenFrom, IsKnownFrom, Repairs}
use Rattle.sg_propagate.proofs.Stepped.{IsBetween}
use Rattle.sg_propagate.proofs.repair.+repair.Given as goal

abbrev pub decreases-take : goal.decreases-take
decreases-take l = 2 * room_below l.terms.now.trees l.n

abbrev pub decreases-repair : goal.decreases-repair
decreases-repair l = 2 * room_below l.terms.now.trees l.n + 1

abbrev pub invariant-repair-loop-m : goal.invariant-repair-loop-m
invariant-repair-loop-m l = record {
  repairs : Repairs {A = Unit {0}} {E = Unit {0}} l.plans (IsKnownFrom l.plans l.k l.from) (IsGivenFrom l.plans l.k l.from) (IsBetween l.plans l.k l.from l.m) l.top l.left l.n l.initial.terms l.terms l.initial.work l.work l.initial.trail l.trail
      (now_of l.initial.journal) (now_of l.journal) (Ok tt);
  total : total_of l.journal ≡ total_of l.initial.journal;
}
