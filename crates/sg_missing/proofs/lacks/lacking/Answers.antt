use Rattle.std.proofs.Common.{◌≡◌, suc, length, ap, ◌∙◌, arith}
use Rattle.std.specs.Prelude.{flat_map}
use Rattle.sg_kinds.specs.Instances.{below}
use Rattle.sg_kinds.specs.Specification.{args_of}
use Rattle.sg_missing.specs.Lacks.{lacking_at}
use Rattle.sg_missing.proofs.lacks.lacking.Goals as goal

pub returns : goal.returns
returns c =
    let count = length (args_of c.args.names.now.ops c.args.op) in
    let same : length c.args-2.result.now ≡ count = ap length c.args-2.ensures.args in
    let all : c.loop-at.at ≡ suc count = omega (arith, c.loop-at-test.false, c.loop-at.auto.at-end, same) in
    c.loop-at.invariant ∙ ap (λ n. flat_map (lacking_at c.args.names.now c.args.defined.now c.args.op) (below n)) all
