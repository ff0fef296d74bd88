use Rattle.std.proofs.Common.{subst}
use Rattle.sg_kinds.specs.Fits.{Fits}
use Rattle.sg_groves.specs.Grove.{Grove}
use Rattle.sg_commands.proofs.Choosing.{copied_told, live_here, run_here}
use Rattle.sg_commands.proofs.moving.copy.Goals as goal

pub copied-requires-clause-live : goal.copied-requires-clause-live
copied-requires-clause-live c =
    live_here c.args.buffer.now c.facts.ensures c.terms.result.now c.terms.ensures c.selected.result c.selected.ensures.place

pub copied-requires-clause-run : goal.copied-requires-clause-run
copied-requires-clause-run c =
    run_here c.args.buffer.now c.facts.ensures c.terms.result.now c.terms.ensures c.selected.result c.selected.ensures.place
    c.count.result c.count.ensures

pub returns-clause-clip : goal.returns-clause-clip
returns-clause-clip c =
    copied_told c.args.buffer.now c.facts.ensures c.terms.result.now c.terms.ensures c.selected.result c.selected.ensures.place
    c.in_ok-copied.field-0 c.count.result c.count.ensures c.in_ok-copied.ensures.clip

pub returns-clause-fits : goal.returns-clause-fits
returns-clause-fits c =
    subst (λ (g : Grove). Fits g.spec c.in_ok-copied.field-0.term c.in_ok-copied.field-0.phylum) c.terms.ensures c.in_ok-copied.ensures.fits
