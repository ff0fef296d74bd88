use Rattle.std.proofs.Common.{◌≡◌, drop}
use Rattle.sg_remote.specs.Reach.{pass}
use Rattle.sg_remote.proofs.reach.pass.Given as goal

abbrev pub invariant-loop-edge : goal.invariant-loop-edge
invariant-loop-edge l = pass l.flags (drop l.edge-index l.edges) ≡ pass l.initial.flags l.edges
