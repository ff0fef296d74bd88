use Rattle.std.proofs.Common.{◌≡◌, ◌++◌, map, take}
use Rattle.sg_counts.specs.OwnersView.{operators_of}
use Rattle.sg_counts.proofs.limits.add_locals.Given as goal

abbrev pub invariant-loop : goal.invariant-loop
invariant-loop l = operators_of l.found.items ≡ operators_of l.initial.found.items ++ map (λ _. (l.phylum.text, l.op.text)) (take l.index l.items)
