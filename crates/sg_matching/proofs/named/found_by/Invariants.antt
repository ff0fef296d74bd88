use Rattle.std.proofs.Common.{◌≡◌, drop}
use Rattle.std.specs.List.{find}
use Rattle.sg_matching.specs.Under.{value_under}
use Rattle.sg_matching.specs.Transformation.{suits_at}
use Rattle.sg_matching.proofs.named.found_by.Given as goal

abbrev pub invariant-loop-k : goal.invariant-loop-k
invariant-loop-k l = find (suits_at l.terms.spec l.p (value_under l.terms l.at)) l.numbers ≡ find (suits_at l.terms.spec l.p (value_under l.terms l.at)) (drop l.k-index l.numbers)
