use Rattle.std.proofs.Common.{◌≡◌, drop}
use Rattle.sg_remote.specs.NoEnclosing.{first_bare, AreOpened}
use Rattle.sg_remote.proofs.bare.first_bare.Given as goal

abbrev pub invariant-loop-atom : goal.invariant-loop-atom
invariant-loop-atom l = record {
  so_far : first_bare l.names (drop l.atom-index l.atoms) ≡ first_bare l.names l.atoms;
  known : AreOpened l.names l.known.entries;
}
