use Rattle.std.specs.Prelude.{◌≡◌, length, Some, slice_get, unwrap_or, []}
use Rattle.std.proofs.Common.{sym, ap, ◌∙◌, arith}
use Rattle.sg_kinds.specs.Specification.{rules_of}
use Rattle.sg_kinds.specs.Visits.{row_at}
use Rattle.sg_plans.proofs.FewVisits.{few_rows}
use Rattle.sg_plans.proofs.reading.visit_count.Goals as goal

pub overflow_cast-result : goal.overflow_cast-result
overflow_cast-result c =
    let steps = c.args.plans.now.steps in
    let at : slice_get steps c.args.op ≡ Some c.item.result.now = ap (slice_get steps) (sym c.op.view_is) ∙ ap (λ xs. slice_get xs c.op.inside.number) (sym c.as_slice.ensures) ∙ c.item.ensures in
    let long : length (row_at steps c.args.op) ≡ length c.item.result.now = ap (λ o. length (unwrap_or o [])) at in
    let few = few_rows (rules_of c.args.spec.now) c.args.plans.now c.requires.range c.requires.valid c.args.op c.requires.there in
    omega (arith, few, long, c.len.ensures)
