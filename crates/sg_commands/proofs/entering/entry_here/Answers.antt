use Rattle.std.proofs.Common.{sym, ap, ◌∙◌, subst}
use Rattle.sg_kinds.specs.Sound.{IsSound}
use Rattle.sg_kinds.specs.declared.spec.Spec.{Spec}
use Rattle.sg_groves.specs.Grove.{Grove}
use Rattle.sg_input.specs.Entered.{entry_at}
use Rattle.sg_commands.proofs.Choosing.{live_here, phylum_told}
use Rattle.sg_commands.proofs.entering.entry_here.Goals as goal

pub phylum-requires : goal.phylum-requires
phylum-requires c = live_here c.args.buffer.now c.facts.ensures c.terms-terms.result.now c.terms-terms.ensures c.selected.result c.selected.ensures.place

pub entry_of-requires : goal.entry_of-requires
entry_of-requires c = subst IsSound (sym c.spec.ensures) c.facts-2.ensures.sound

pub returns : goal.returns
returns c =
    c.entry_of.ensures ∙ ap (λ (s : Spec). entry_at s c.phylum.result) (c.spec.ensures ∙ ap (λ (g : Grove). g.spec) c.terms-terms.ensures)
    ∙ ap (entry_at c.args.buffer.now.grove.spec) (sym (phylum_told c.args.buffer.now c.facts.ensures c.terms-terms.result.now c.terms-terms.ensures c.selected.result c.selected.ensures.place c.phylum.result c.phylum.ensures.term))
