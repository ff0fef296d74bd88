use Rattle.std.proofs.Common.{◌-◌, sym, ap, ◌∙◌, arith, inl, inr}
use Rattle.std.specs.Prelude.{slice_get}
use Rattle.std.specs.List.{slice_split}
use Rattle.sg_unparse.specs.Page.{is_newline}
use Rattle.sg_unparse.proofs.Sheets.{text_of, lines_counted, no_line, line_here}
use Rattle.sg_unparse.proofs.page.Page.line.Goals.{then-k-eq0-via-then-k-eq0, then-k-eq0-via-else-k-eq0+then-k-len}
use Rattle.sg_unparse.proofs.page.Page.line.Goals as goal

pub returns-then-k-eq0 : goal.returns-then-k-eq0
returns-then-k-eq0 c =
    let p = c.self.inside in
    let t = text_of p.text.items p.runs.items p.starts.items p.spans.items p.more c.args.self.now c.self.view_is c.self.invariant in
    let count = lines_counted c.args.self.now.cells p.text.items p.starts.items t in
    elim c.then-k-eq0.branch [
      | then-k-eq0-via-then-k-eq0 w ↦ no_line c.args.self.now c.args.k (inl w.if-k-eq0.true)
      | then-k-eq0-via-else-k-eq0+then-k-len w ↦ no_line c.args.self.now c.args.k (inr (omega (arith, count, w.if-k-len.true, w.len.ensures, p.starts.ok.0)))
    ]

pub returns : goal.returns
returns c =
    let p = c.self.inside in
    let t = text_of p.text.items p.runs.items p.starts.items p.spans.items p.more c.args.self.now c.self.view_is c.self.invariant in
    line_here c.args.self.now p.text.items c.args.k t.bytes (omega (arith, c.if-k-eq0.false))
    ∙ ap (λ s. slice_get (slice_split is_newline s) (c.args.k - 1)) (sym c.deref.ensures.value) ∙ c.line_of.ensures
