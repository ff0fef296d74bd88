use Rattle.std.proofs.Common.{ℕ, ◌<◌}
use Rattle.sg_sets.specs.Members.{Has}
use Rattle.sg_sets.proofs.ClosingLemmas.{Closing}
use Rattle.sg_sets.proofs.relation.Relation.close_in_order.Given as goal

abbrev pub invariant-loop-a : goal.invariant-loop-a
invariant-loop-a l = Closing l.fn.self l.self l.done l.passed

abbrev pub invariant-loop-a-2 : goal.invariant-loop-a-2
invariant-loop-a-2 l = record {
  closing : Closing l.fn.self l.self l.done l.passed;
  all : (x : ℕ) → x < l.a → Has l.done x;
}
