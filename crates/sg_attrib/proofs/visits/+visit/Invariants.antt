use Rattle.std.proofs.Common.{◌≡◌, ◌+◌, ◌*◌}
use Rattle.std.specs.Prelude.{Ok}
use Rattle.sg_kinds.specs.Specification.{rules_of}
use Rattle.sg_eval.specs.Journal.{now_of, total_of}
use Rattle.sg_forest.specs.Trees.{room_below}
use Rattle.sg_attrib.specs.Visited.{Gives, IsKnown}
use Rattle.sg_attrib.proofs.Stepped.{IsBefore}
use Rattle.sg_attrib.proofs.visits.+visit.Given as goal

abbrev pub decreases-take : goal.decreases-take
decreases-take l = 2 * room_below l.terms.now.trees l.n

abbrev pub decreases-visit : goal.decreases-visit
decreases-visit l = 2 * room_below l.terms.now.trees l.n + 1

abbrev pub invariant-visit-loop-step : goal.invariant-visit-loop-step
invariant-visit-loop-step l = record {
  gives : Gives {A = Unit {0}} {E = Unit {0}} (IsKnown (rules_of l.initial.terms.spec) l.plans l.k) (IsBefore (rules_of l.initial.terms.spec) l.plans l.k l.step-index) l.initial.terms l.terms (now_of l.initial.journal) (now_of l.journal) l.n (Ok tt);
  total : total_of l.journal ≡ total_of l.initial.journal;
}
