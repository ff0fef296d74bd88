use Rattle.std.proofs.Common.{arith}
use Rattle.sg_unparse.proofs.Sheets.{text_of, lines_counted}
use Rattle.sg_unparse.proofs.page.Page.lines.Goals as goal

pub returns : goal.returns
returns c =
    let p = c.self.inside in
    let t = text_of p.text.items p.runs.items p.starts.items p.spans.items p.more c.args.self.now c.self.view_is c.self.invariant in
    let count = lines_counted c.args.self.now.cells p.text.items p.starts.items t in
    omega (arith, c.len.ensures, count, p.starts.ok.0)
