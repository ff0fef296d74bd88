use Rattle.std.proofs.Common.{arith, refl}
use Rattle.std.proofs.lemmas.Option.{slice_get_within}
use Rattle.sg_trials_base.proofs.forest.over.Goals as goal

pub grow-requires-clause-roots : goal.grow-requires-clause-roots
grow-requires-clause-roots g c = λ k id listed.
    let within = slice_get_within c.args.kids.items k id listed in
    (c.roots.invariant k id (omega (arith, within, c.roots-test.false)) listed, refl)

pub grow-requires-clause-distinct : goal.grow-requires-clause-distinct
grow-requires-clause-distinct g c = λ j k id at_j at_k.
    let within_j = slice_get_within c.args.kids.items j id at_j in
    let within_k = slice_get_within c.args.kids.items k id at_k in
    c.each.invariant j k id (omega (arith, within_j, c.each-test.false)) (omega (arith, within_k, c.each-test.false)) at_j at_k
