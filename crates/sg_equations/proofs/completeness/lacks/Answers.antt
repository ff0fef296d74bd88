use Rattle.std.proofs.Common.{◌≡◌, ◌<◌, suc, length, sym, ap, ◌∙◌, arith}
use Rattle.std.specs.List.{list_any}
use Rattle.sg_kinds.specs.Instances.{below}
use Rattle.sg_kinds.specs.Specification.{args_of}
use Rattle.sg_equations.specs.Complete as spec
use Rattle.sg_equations.proofs.Below.{any_found}
use Rattle.sg_equations.proofs.completeness.lacks.Goals as goal

pub returns-then-lacks_at : goal.returns-then-lacks_at
returns-then-lacks_at c = λ defs seen.
    let count = length (args_of c.args.names.now.ops c.args.op) in
    let same : length c.args-2.result.now ≡ count = ap length c.args-2.ensures.args in
    let low : c.loop-at.at < suc count = omega (arith, c.loop-at-test.true, same) in
    sym (any_found (spec.lacks_at c.args.names.now defs c.args.op) c.loop-at.at (suc count) (sym (c.lacks_at.ensures defs seen) ∙ c.if-lacks_at.true) low)

pub returns : goal.returns
returns c = λ defs seen.
    let count = length (args_of c.args.names.now.ops c.args.op) in
    let same : length c.args-2.result.now ≡ count = ap length c.args-2.ensures.args in
    let all : c.loop-at.at ≡ suc count = omega (arith, c.loop-at-test.false, c.loop-at.auto.at-end, same) in
    sym (ap (λ n. list_any (spec.lacks_at c.args.names.now defs c.args.op) (below n)) (sym all) ∙ c.loop-at.invariant defs seen)
