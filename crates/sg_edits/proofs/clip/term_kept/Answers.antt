use Rattle.std.proofs.Common.{sym}
use Rattle.sg_groves.proofs.Held.{one_term}
use Rattle.sg_edits.proofs.Placed.{fits_phylum}
use Rattle.sg_edits.proofs.clip.term_kept.Goals as goal

pub returns-clause-clip : goal.returns-clause-clip
returns-clause-clip c = λ t holds.
    let g = c.args.terms.now in
    let phylum = sym (fits_phylum g.spec t c.phylum.result (c.phylum.ensures.term t holds)) in
    let term = one_term g c.args.at c.in_ok-copy_out.field-0 t c.in_ok-copy_out.ensures holds in
    λ i. record { phylum = phylum i; term = term i; count = 1 }
