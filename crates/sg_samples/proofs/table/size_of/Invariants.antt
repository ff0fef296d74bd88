use Rattle.std.proofs.Common.{◌≡◌, suc, min, take}
use Rattle.std.specs.Prelude.{All}
use Rattle.sg_samples.specs.Table.{Has, total}
use Rattle.sg_samples.specs.declared.table.TheConstants.{MOST}
use Rattle.sg_samples.proofs.table.size_of.Given as goal

abbrev pub invariant-loop-x : goal.invariant-loop-x
invariant-loop-x l = All (Has l.samples) (take l.x-index l.string)
    × (l.total ≡ min (suc MOST) (total l.samples (take l.x-index l.string)))
