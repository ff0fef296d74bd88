use Rattle.std.proofs.Common.{◌≡◌, map, take, Some}
use Rattle.sg_terms.specs.Occurrences.{number_for}
use Rattle.sg_terms.proofs.occurrences.gather.Given as goal

abbrev pub invariant-loop-o : goal.invariant-loop-o
invariant-loop-o l = map Some l.numbers.items ≡ map (number_for l.trees l.n) (take l.o-index l.wanted)
