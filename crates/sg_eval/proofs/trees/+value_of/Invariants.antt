use Rattle.std.proofs.Common.{◌≡◌, ◌*◌, ◌+◌, map, take}
use Rattle.sg_kinds.specs.Terms.{height_of, height_of_all, kids_of}
use Rattle.sg_kinds.specs.ValueOf as term
use Rattle.sg_eval.proofs.trees.+value_of.Given as goal

abbrev pub decreases-value_of : goal.decreases-value_of
decreases-value_of l = 2 * height_of l.t.now

abbrev pub decreases-values_of : goal.decreases-values_of
decreases-values_of l = 2 * height_of_all (kids_of l.terms.now) + 1

abbrev pub invariant-values_of-loop-term : goal.invariant-values_of-loop-term
invariant-values_of-loop-term l = l.values.items ≡ map term.value_of (take l.term-index l.terms)
