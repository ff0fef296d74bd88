use Rattle.std.proofs.Common.{◌≡◌, ◌++◌, drop, map}
use Rattle.sg_ast.specs.Remotes.{remotes_seen}
use Rattle.sg_remote.specs.Atoms.{atom}
use Rattle.sg_remote.proofs.atoms.add_found.Given as goal

abbrev pub invariant-loop-remote : goal.invariant-loop-remote
invariant-loop-remote l =
    l.atoms.items ++ map (atom l.names l.op) (remotes_seen (drop l.remote-index l.found)) ≡ l.initial.atoms.items ++ map (atom l.names l.op) (remotes_seen l.found)
