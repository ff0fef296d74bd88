use Rattle.std.proofs.Common.{arith}
use Rattle.sg_unparse.proofs.Sheets.{span_kept}
use Rattle.sg_unparse.proofs.page.Page.begins.Goals as goal

pub position-line-requires : goal.position-line-requires
position-line-requires c =
    let p = c.self.inside in
    let ends = span_kept p.text.items p.runs.items p.starts.items p.spans.items p.more c.args.self.now c.self.view_is c.self.invariant c.args.n c.deref.result.now c.in_ok-span.span c.deref.ensures.value c.in_ok-span.ensures in
    omega (arith, ends.0, ends.1)
