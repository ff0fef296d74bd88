use Rattle.std.proofs.Common.{◌≡◌, ◌≤◌, ◌^◌, drop}
use Rattle.std.specs.Prelude.{max}
use Rattle.sg_useless.specs.Useless.{nonterminals}
use Rattle.sg_useless.proofs.finding.nonterminals.Given as goal

abbrev pub invariant-loop-production : goal.invariant-loop-production
invariant-loop-production l = (max l.most (nonterminals (drop l.production-index l.spec.productions)) ≡ nonterminals l.spec.productions) × (l.most ≤ 2 ^ 32)
