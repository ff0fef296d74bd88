use Rattle.std.proofs.Common.{sym, ap, ◌∙◌, cond, nat_eq}
use Rattle.sg_edits.specs.Edits.{elements_in, phylum_in}
use Rattle.sg_edits.proofs.Placed.{fits_phylum}
use Rattle.sg_edits.proofs.pasting.suits.Goals as goal

pub returns-then-is_run : goal.returns-then-is_run
returns-then-is_run c = λ x h.
    let spec = c.args.terms.now.spec in
    let clip = c.args.clip.now in
    c.eq.ensures ∙ ap (nat_eq clip.phylum) (sym (fits_phylum spec x c.phylum.result (c.phylum.ensures.term x h)))
    ∙ ap (λ b. nat_eq clip.phylum (cond b (phylum_in spec x) (elements_in spec x))) (sym (sym c.is_run.ensures ∙ c.if-is_run.true))

pub returns-else-is_run : goal.returns-else-is_run
returns-else-is_run c = λ x h.
    let spec = c.args.terms.now.spec in
    let clip = c.args.clip.now in
    c.eq-else-is_run.ensures ∙ ap (nat_eq clip.phylum) (c.elements_in.ensures x h)
    ∙ ap (λ b. nat_eq clip.phylum (cond b (phylum_in spec x) (elements_in spec x))) (sym (sym c.is_run.ensures ∙ c.if-is_run.false))
