use Rattle.std.proofs.Common.{◌≡◌, drop}
use Rattle.sg_schemes.specs.ShownFlags.{show_all}
use Rattle.sg_schemes.proofs.shown.show_all.Given as goal

abbrev pub invariant-loop-p : goal.invariant-loop-p
invariant-loop-p l = show_all l.flags (drop l.p-index l.phyla) ≡ show_all l.initial.flags l.phyla
