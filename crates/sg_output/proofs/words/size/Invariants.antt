use Rattle.std.proofs.Common.{◌≡◌, drop}
use Rattle.sg_output.specs.Job.{number_from}
use Rattle.sg_output.proofs.words.size.Given as goal

-- what is left decides
abbrev pub invariant-loop-b : goal.invariant-loop-b
invariant-loop-b l = number_from 0 l.bytes ≡ number_from l.n (drop l.b-index l.bytes)
