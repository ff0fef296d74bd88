use Rattle.std.proofs.Common.{◌≡◌, ◌++◌, drop}
use Rattle.sg_useless.specs.Uses.{numbered}
use Rattle.sg_useless.specs.Uses.{operator_uses}
use Rattle.sg_useless.specs.Reach.{flag}
use Rattle.sg_useless.proofs.uses.add_operators.Given as goal

abbrev pub invariant-loop-op : goal.invariant-loop-op
invariant-loop-op l = l.uses.items ++ numbered (operator_uses l.spec (flag l.shown)) l.op (drop l.op l.spec.ops) ≡ l.initial.uses.items ++ numbered (operator_uses l.spec (flag l.shown)) 0 l.spec.ops
