use Rattle.std.proofs.Common.{◌≡◌, ◌++◌, drop}
use Rattle.sg_useless.specs.Uses.{numbered}
use Rattle.sg_useless.specs.Useless.{entry_parts}
use Rattle.sg_useless.proofs.finding.add_missed.Given as goal

abbrev pub invariant-loop-p : goal.invariant-loop-p
invariant-loop-p l = l.parts.items ++ numbered (entry_parts l.spec l.used.parts.now) l.p (drop l.p l.spec.phyla) ≡ l.initial.parts.items ++ numbered (entry_parts l.spec l.used.parts.now) 0 l.spec.phyla
