use Rattle.std.proofs.Common.{List, Some, None, cond, bytes_eq, ap, ◌∙◌, arith}
use Rattle.std.specs.List.{list_any}
use Rattle.std.specs.Option.{option_or}
use Rattle.sg_kinds.specs.Values.{Bytes}
use Rattle.sg_prec.specs.LineTable.{line_in}
use Rattle.sg_prec.proofs.Table.{lines_more}
use Rattle.sg_prec.proofs.lines.first_lines.Goals as goal

pub loop-place-preserved : goal.loop-place-preserved
loop-place-preserved c = λ s.
    lines_more (line_in c.loop-place.first s) (line_in c.put_all.new.first s) s c.args.lines.now c.loop-place.place c.index-lines-place.result (omega arith) c.index-lines-place.is (c.loop-place.invariant s)
    (c.in_ok-put_all.ensures s ∙ ap (λ (ls : List Bytes). option_or (line_in c.loop-place.first s) (cond (list_any (bytes_eq s) ls) (Some c.loop-place.place) None)) c.as_slice.ensures)
