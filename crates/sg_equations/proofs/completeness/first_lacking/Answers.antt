use Rattle.std.proofs.Common.{◌≡◌, ◌<◌, length, Some, None, cond, sym, ap, ◌∙◌, arith}
use Rattle.sg_ast.specs.FirstFault.{first}
use Rattle.sg_kinds.specs.Instances.{below}
use Rattle.sg_names.specs.declared.table.Table.{Table}
use Rattle.sg_equations.specs.Complete.{lacking}
use Rattle.sg_equations.proofs.Below.{first_found, first_more}
use Rattle.sg_equations.proofs.completeness.first_lacking.Goals as goal

pub returns-then-lacks : goal.returns-then-lacks
returns-then-lacks c = λ defs seen.
    let count = length c.args.names.now.ops in
    let same : length c.table.result.now.ops ≡ count = ap (λ (t : Table). length t.ops) c.table.ensures in
    let low : c.loop-number.number < count = omega (arith, c.loop-number-test.true, c.len-number-end.ensures, same) in
    sym (first_found (lacking c.args.names.now defs) c.loop-number.number count c.loop-number.number
    (ap (λ b. cond b (Some c.loop-number.number) None) (sym (c.lacks.ensures defs seen) ∙ c.if-lacks.true)) (c.loop-number.invariant defs seen) low)

pub loop-number-preserved : goal.loop-number-preserved
loop-number-preserved c = λ defs seen. first_more (lacking c.args.names.now defs) c.loop-number.number (ap (λ b. cond b (Some c.loop-number.number) None) (sym (c.lacks.ensures defs seen) ∙ c.if-lacks.false)) (c.loop-number.invariant defs seen)

pub returns : goal.returns
returns c = λ defs seen.
    let count = length c.args.names.now.ops in
    let same : length c.table.result.now.ops ≡ count = ap (λ (t : Table). length t.ops) c.table.ensures in
    let all : c.loop-number.number ≡ count = omega (arith, c.loop-number-test.false, c.loop-number.auto.number-end, c.len-number-end.ensures, same) in
    sym (ap (λ n. first (lacking c.args.names.now defs) (below n)) (sym all) ∙ c.loop-number.invariant defs seen)
