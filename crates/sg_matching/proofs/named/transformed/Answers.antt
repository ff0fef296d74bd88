use Rattle.std.proofs.Common.{sym, ap, ◌∙◌, subst}
use Rattle.sg_kinds.specs.ValueOf.{value_of}
use Rattle.sg_kinds.specs.Fits.{Fits}
use Rattle.sg_kinds.specs.Plain.{plain}
use Rattle.sg_kinds.proofs.TermLaws.{value_of_plain}
use Rattle.sg_kinds.proofs.PlainFits.{plain_fits}
use Rattle.sg_eval.proofs.TypeFacts.{term_there}
use Rattle.sg_matching.specs.Transformation.{Gives}
use Rattle.sg_matching.proofs.NodeValues.{one_phylum}
use Rattle.sg_matching.proofs.named.transformed.Goals as goal

pub returns-clause-given : goal.returns-clause-given
returns-clause-given c =
    let same = ap value_of c.in_ok-plain.ensures ∙ value_of_plain c.spec.result.now c.in_ok-v.v c.phylum.result in
    λ p t holds fits. c.in_ok-v.ensures.given p t holds fits ∙ ap Gives (sym same)

pub returns-clause-plain : goal.returns-clause-plain
returns-clause-plain c =
    let spec = c.args.terms.now.spec in
    let v = c.in_ok-v.v in
    let same = ap value_of c.in_ok-plain.ensures ∙ value_of_plain c.spec.result.now v c.phylum.result in
    λ p t holds fits.
    let phylum = one_phylum spec t c.phylum.result p (c.phylum.ensures.term t holds) fits in
    c.in_ok-plain.ensures ∙ ap (λ s. plain s v c.phylum.result) c.spec.ensures ∙ ap (plain spec v) phylum ∙ ap (λ w. plain spec w p) (sym same)

pub returns-clause-fits : goal.returns-clause-fits
returns-clause-fits c =
    let spec = c.args.terms.now.spec in
    let v = c.in_ok-v.v in
    λ p t holds fits.
    let phylum = one_phylum spec t c.phylum.result p (c.phylum.ensures.term t holds) fits in
    let made = term_there spec c.facts.ensures.sound p v c.in_ok-v.ensures.no_fault (c.in_ok-v.ensures.typed p t holds fits) in
    let whole = c.in_ok-plain.ensures ∙ ap (λ s. plain s v c.phylum.result) c.spec.ensures ∙ ap (plain spec v) phylum in
    subst (λ s. Fits spec s p) (sym whole) (subst (λ w. Fits spec (plain spec w p) p) made.2 (plain_fits spec made.0 p made.1))
