use Rattle.std.proofs.Common.{◌≡◌, ◌≤◌, ◌^◌, drop}
use Rattle.std.specs.Prelude.{max}
use Rattle.sg_prec.specs.Levels.{named_over}
use Rattle.sg_prec.proofs.named.named_over.Given as goal

abbrev pub invariant-loop-production : goal.invariant-loop-production
invariant-loop-production l = (max l.most (named_over (drop l.production-index l.productions)) ≡ named_over l.productions) × (l.most ≤ 2 ^ 32)
