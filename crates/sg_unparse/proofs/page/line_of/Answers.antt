use Rattle.std.proofs.Common.{Some, sym, ap, ◌∙◌, arith, drop}
use Rattle.sg_unparse.proofs.Sheets.{line_is}
use Rattle.sg_unparse.proofs.page.line_of.Goals as goal

pub overflow_sub-to : goal.overflow_sub-to
overflow_sub-to c = (line_is c.args.text.now c.args.starts.now c.args.k c.line_start-from.result c.line_after-to.result c.requires.lines c.requires.there c.line_start-from.ensures c.line_after-to.ensures).some

pub split_at-requires : goal.split_at-requires
split_at-requires c = (line_is c.args.text.now c.args.starts.now c.args.k c.line_start-from.result c.line_after-to.result c.requires.lines c.requires.there c.line_start-from.ensures c.line_after-to.ensures).within

pub split_at-requires-2 : goal.split_at-requires-2
split_at-requires-2 c =
    let line = line_is c.args.text.now c.args.starts.now c.args.k c.line_start-from.result c.line_after-to.result c.requires.lines c.requires.there c.line_start-from.ensures c.line_after-to.ensures in
    omega (arith, line.in_order, c.split_at.ensures.front_len)

pub returns : goal.returns
returns c =
    let line = line_is c.args.text.now c.args.starts.now c.args.k c.line_start-from.result c.line_after-to.result c.requires.lines c.requires.there c.line_start-from.ensures c.line_after-to.ensures in
    line.line ∙ ap Some (sym (c.split_at-2.ensures.back ∙ ap (drop c.line_start-from.result) c.split_at.ensures.front))
