use Rattle.std.proofs.Common.{sym, ◌∙◌}
use Rattle.sg_prec.proofs.Table.{put_new}
use Rattle.sg_prec.proofs.lines.put.Goals as goal

pub returns-in_ok-insert : goal.returns-in_ok-insert
returns-in_ok-insert c =
    put_new c.in_ok-from_slice.field-0 c.args.literal.now c.args.line c.args.first.now c.insert.new.self c.in_ok-from_slice.ensures.items (sym c.contains_key.ensures ∙ c.if-not-contains_key.true) c.in_ok-insert.ensures.updates
