use Rattle.std.proofs.Common.{◌≡◌, false, sym, ap, ◌∙◌}
use Rattle.std.specs.Prelude.{is_some}
use Rattle.sg_buffer.specs.Held.{state_of}
use Rattle.sg_live.specs.Offers.{names_of}
use Rattle.sg_live.proofs.OfferLemmas.{captured_is, names_here}
use Rattle.sg_live.proofs.offers.names_in.Goals as goal

pub returns : goal.returns
returns c =
    let b = c.args.buffer.now in
    let whole : is_some (state_of b).capture ≡ false =
    ap is_some (sym c.facts.ensures.capture) ∙ captured_is c.captured.result b.capture c.captured.ensures ∙ sym c.is_some.ensures ∙ c.if-is_some.false in
    names_here b c.facts.ensures c.terms.result.now c.terms.ensures c.selected.result c.selected.ensures.place c.names_at.result (λ v. names_of v.items) c.names_at.ensures whole
    (sym c.count.ensures ∙ c.if-count-ne1.false)
