use Rattle.std.proofs.Common.{◌≤◌, take}
use Rattle.sg_grammar.specs.Grammar.{Grammar}
use Rattle.sg_samples.specs.Table.{AreKnown, IsExpanded}
use Rattle.sg_samples.specs.declared.table.TheConstants.{MOST}
use Rattle.sg_samples.proofs.table.expanded.Given as goal

abbrev pub invariant-loop-x : goal.invariant-loop-x
invariant-loop-x l = (l.spare ≤ MOST) × ((g : Grammar) → AreKnown g l.samples
    → IsExpanded g l.samples l.most (take l.x-index l.string) l.out.items l.spare)
