use Rattle.std.proofs.Common.{◌≡◌, ◌++◌, drop}
use Rattle.sg_useless.specs.Uses.{numbered}
use Rattle.sg_useless.specs.Useless.{unseen_parts}
use Rattle.sg_useless.specs.Reach.{flag}
use Rattle.sg_useless.proofs.finding.add_unseen.Given as goal

abbrev pub invariant-loop-op : goal.invariant-loop-op
invariant-loop-op l = l.parts.items ++ numbered (unseen_parts l.spec (flag l.shown)) l.op (drop l.op l.spec.ops) ≡ l.initial.parts.items ++ numbered (unseen_parts l.spec (flag l.shown)) 0 l.spec.ops
