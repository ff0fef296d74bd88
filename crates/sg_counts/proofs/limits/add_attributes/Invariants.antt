use Rattle.std.proofs.Common.{◌≡◌, ◌++◌, map, take}
use Rattle.sg_counts.specs.OwnersView.{names_of}
use Rattle.sg_counts.proofs.limits.add_attributes.Given as goal

abbrev pub invariant-loop : goal.invariant-loop
invariant-loop l = names_of l.found.items ≡ names_of l.initial.found.items ++ map (λ _. l.owner.text) (take l.index l.items)
