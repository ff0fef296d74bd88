use Rattle.std.proofs.Common.{◌≡◌, ◌≤◌, ◌^◌, drop}
use Rattle.std.specs.Prelude.{max}
use Rattle.sg_schemes.specs.ShownFlags.{past}
use Rattle.sg_schemes.proofs.shown.past.Given as goal

abbrev pub invariant-loop-phylum : goal.invariant-loop-phylum
invariant-loop-phylum l = (max l.most (past (drop l.phylum-index l.phyla)) ≡ past l.phyla) × (l.most ≤ 2 ^ 32)
