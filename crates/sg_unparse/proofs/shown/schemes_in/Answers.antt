use Rattle.std.proofs.Common.{sym, ap, ◌∙◌}
use Rattle.std.specs.Prelude.{slice_get}
use Rattle.sg_unparse.proofs.Viewed.{none_seen, own_seen, ordinary_seen}
use Rattle.sg_unparse.proofs.shown.schemes_in.Goals as goal

pub returns-in-Some-schemes : goal.returns-in-Some-schemes
returns-in-Some-schemes c =
    let there = ap (slice_get c.args.spec.now.ops) (sym c.op.view_is) ∙ c.in-Some.ensures in
    let is = c.in-Some-schemes.ensures in
    is.0 ∙ own_seen c.args.spec.now c.args.view c.args.op c.in-Some.operator.now there (λ none. is.1 (is.0 ∙ none))

pub returns-in-None-schemes : goal.returns-in-None-schemes
returns-in-None-schemes c =
    let there = ap (slice_get c.args.spec.now.ops) (sym c.op.view_is) ∙ c.in-Some.ensures in
    c.as_slice.ensures ∙ ordinary_seen c.args.spec.now c.args.view c.args.op c.in-Some.operator.now there c.in-None-schemes.ensures

pub returns-in-None : goal.returns-in-None
returns-in-None c = none_seen c.args.spec.now c.args.view c.args.op (ap (slice_get c.args.spec.now.ops) (sym c.op.view_is) ∙ c.in-None.ensures)
