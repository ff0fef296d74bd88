use Rattle.std.proofs.Common.{◌≡◌, ◌++◌, ◌-◌, ◌∙◌, take, drop, sym, ap, arith, add-one, append-nil}
use Rattle.std.specs.List.{flat_map}
use Rattle.sg_unparse.specs.Page.{lines_of}
use Rattle.sg_screen.specs.Block.{shown_line}
use Rattle.sg_screen.proofs.Windows.{as_many, one_more, line_at, line_there}
use Rattle.sg_screen.proofs.blocks.write_lines.Goals.{in-Some+in_ok-write_line, in_default}
use Rattle.sg_screen.proofs.blocks.write_lines.Goals as goal

pub loop-k-preserved : goal.loop-k-preserved
loop-k-preserved c =
    let lines = lines_of c.args.page.now.cells in
    elim c.match-line.branch [
      | in-Some+in_ok-write_line w ↦
          rw (w.out-is, w.in_ok-write_line.ensures, add-one)
          (one_more (shown_line c.args.width) lines c.loop-k.k c.min-end.result w.in-Some.line.now c.loop-k.out.items c.loop-k-test.true (line_at c.args.page.now c.loop-k.k w.in-Some.line.now w.in-Some.ensures)
          ∙ c.loop-k.invariant)
      | in_default w ↦ absurd (line_there c.args.page.now c.loop-k.k (omega (arith, c.loop-k-test.true, c.min-end.ensures, c.lines.ensures)) w.in_default.ensures)
    ]

pub returns : goal.returns
returns c =
    let lines = lines_of c.args.page.now.cells in
    let first = c.saturating_sub-first.result in
    let same = as_many lines first c.args.height (c.min-end.result - first) (omega (arith, c.lines.ensures)) in
    let none : c.min-end.result - c.loop-k.k ≡ 0 = omega arith in
    let written = rw none at c.loop-k.invariant in
    let f = shown_line c.args.width in
    sym (append-nil c.loop-k.out.items) ∙ written
    ∙ ap (λ l. c.args.out.now.items ++ flat_map f l) (same ∙ ap (λ k. take c.args.height (drop k lines)) c.saturating_sub-first.ensures)
