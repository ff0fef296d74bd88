use Rattle.std.proofs.Common.{◌≡◌, ◌+◌}
use Rattle.std.specs.Prelude.{Ok}
use Rattle.sg_kinds.specs.Specification.{rules_of}
use Rattle.sg_eval.specs.Journal.{now_of, total_of}
use Rattle.sg_attrib.specs.Visited.{Gives, IsGivenUpTo, IsNothing}
use Rattle.sg_attrib.proofs.whole.all_visits.Given as goal

abbrev pub invariant-loop-k : goal.invariant-loop-k
invariant-loop-k l = record {
  gives : Gives {A = Unit {0}} {E = Unit {0}} IsNothing (IsGivenUpTo (rules_of l.initial.terms.spec) l.plans (l.k + 1)) l.initial.terms l.terms (now_of l.initial.journal) (now_of l.journal) l.root (Ok tt);
  total : total_of l.journal ≡ total_of l.initial.journal;
}
