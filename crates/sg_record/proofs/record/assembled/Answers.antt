use Rattle.std.proofs.Common.{◌∙◌}
use Rattle.sg_names.specs.Rows.{row_at}
use Rattle.sg_record.proofs.Assembled.{assembled}
use Rattle.sg_record.proofs.record.assembled.Goals as goal

pub returns : goal.returns
returns c = λ ds given exprs.
    assembled c.args.table ds c.args.rules c.args.lexemes c.new.result c.into_vec-2.result.items (row_at c.args.parts.schemes) c.new-2.result c.new-3.result c.deref.result.now c.into_vec.result.items c.new-4.result c.new-5.result c.new-6.result c.new-7.result c.args.parts.views
    (c.new.ensures ∙ c.with_schemes-ops.ensures) c.into_vec-2.ensures given.schemes (c.new-2.ensures ∙ exprs) (c.new-3.ensures ∙ c.in_ok-functions.ensures) (c.deref.ensures.value ∙ given.bodies) c.into_vec.ensures
    (c.new-4.ensures ∙ given.transforms) (c.new-5.ensures ∙ given.productions) (c.new-6.ensures ∙ given.entries)
    (c.new-7.ensures ∙ given.levels) given.views
