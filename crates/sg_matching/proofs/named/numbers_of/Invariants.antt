use Rattle.std.proofs.Common.{◌≡◌, ◌++◌, drop}
use Rattle.sg_matching.specs.Transformation.{numbered, numbers_of}
use Rattle.sg_matching.proofs.named.numbers_of.Given as goal

abbrev pub invariant-loop-k : goal.invariant-loop-k
invariant-loop-k l = numbers_of l.terms.spec l.name ≡ l.numbers.items ++ numbered l.name l.k (drop l.k l.terms.spec.transforms)
