use Rattle.std.proofs.Common.{◌∙◌, sym}
use Rattle.sg_unparse.proofs.Sheets.{text_of}
use Rattle.sg_unparse.proofs.page.Page.text.Goals as goal

pub returns : goal.returns
returns c =
    let p = c.self.inside in
    let t = text_of p.text.items p.runs.items p.starts.items p.spans.items p.more c.args.self.now c.self.view_is c.self.invariant in
    c.as_slice.ensures.value ∙ sym t.bytes
