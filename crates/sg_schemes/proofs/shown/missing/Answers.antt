use Rattle.std.proofs.Common.{◌<◌, List, length, get_or, subst, sym, ap, ◌∙◌}
use Rattle.sg_kinds.specs.declared.spec.Operator.{Operator}
use Rattle.sg_schemes.proofs.Flags.{missing_more}
use Rattle.sg_schemes.proofs.shown.missing.Goals as goal

pub loop-k-preserved : goal.loop-k-preserved
loop-k-preserved c =
    let k = c.loop-k.k in
    let o = c.operator-item.result in
    let same = c.as_slice-operator-items.ensures in
    missing_more c.args.table.now c.args.shown.now c.args.given.now c.args.table.now.ops k o (subst (λ (l : List Operator). k < length l) same c.loop-k-test.true)
    (c.operator-item.is ∙ ap (λ (l : List Operator). get_or l k o) same) (sym c.is_missing.ensures ∙ c.if-is_missing.false) c.loop-k.invariant
