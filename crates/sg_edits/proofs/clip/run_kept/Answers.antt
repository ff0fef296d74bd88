use Rattle.std.proofs.Common.{sym, subst}
use Rattle.sg_kinds.specs.Fits.{Fits}
use Rattle.sg_build.proofs.Told.{the_term}
use Rattle.sg_select.proofs.Leading.{held}
use Rattle.sg_edits.proofs.Behind.{front_fits}
use Rattle.sg_edits.proofs.Placed.{fits_phylum}
use Rattle.sg_edits.proofs.clip.run_kept.Goals as goal

pub returns-clause-clip : goal.returns-clause-clip
returns-clause-clip c = λ x holds.
    let g = c.args.terms.now in
    let phylum = sym (fits_phylum g.spec x c.phylum.result (c.phylum.ensures.term x holds)) in
    let term = c.in_ok-front.ensures x holds in
    λ i. record { phylum = phylum i; term = term i; count = c.args.count }

pub returns-clause-fits : goal.returns-clause-fits
returns-clause-fits c =
    let g = c.args.terms.now in
    let x = the_term g c.args.n in
    let here = held g c.facts.ensures c.args.n c.requires.live in
    subst (λ s. Fits g.spec s c.phylum.result) (sym (c.in_ok-front.ensures x here))
    (front_fits g.spec c.facts.ensures.sound.shapes c.args.count x c.phylum.result (c.requires.long x here) (c.phylum.ensures.term x here) (c.requires.list x here))
