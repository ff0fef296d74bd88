use Rattle.std.proofs.Common.{◌≡◌, ◌++◌, drop}
use Rattle.sg_remote.specs.Bearing.{argument_edges}
use Rattle.sg_remote.proofs.edges.add_arguments.Given as goal

abbrev pub invariant-loop-argument : goal.invariant-loop-argument
invariant-loop-argument l =
    l.edges.items ++ argument_edges l.up l.left (drop l.argument-index l.args) ≡ l.initial.edges.items ++ argument_edges l.up l.left l.args
