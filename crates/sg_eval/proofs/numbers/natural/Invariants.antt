use Rattle.std.proofs.Common.{◌≡◌, ◌≤◌, drop}
use Rattle.sg_kinds.specs.Evaluation.{digits_from}
use Rattle.sg_eval.proofs.numbers.natural.Given as goal

-- what is left decides
abbrev pub invariant-loop-d : goal.invariant-loop-d
invariant-loop-d l = record {
  rest : digits_from l.n (drop l.d-index l.digits) ≡ digits_from 0 l.digits;
  small : l.n ≤ 9223372036854775809;
}
