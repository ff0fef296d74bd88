use Rattle.std.proofs.Common.{◌≡◌, ◌++◌, drop}
use Rattle.sg_remote.specs.Handing.{argument_rules}
use Rattle.sg_remote.proofs.rules.add_arguments.Given as goal

abbrev pub invariant-loop-k : goal.invariant-loop-k
invariant-loop-k l =
    l.rules.items ++ argument_rules l.names l.expr l.op l.k (drop l.k l.args) ≡ l.initial.rules.items ++ argument_rules l.names l.expr l.op 0 l.args
