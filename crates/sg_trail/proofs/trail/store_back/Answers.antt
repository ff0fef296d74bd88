use Rattle.std.proofs.Common.{◌∙◌, ap}
use Rattle.std.specs.Prelude.{◌++◌}
use Rattle.std.specs.Option.{option_to_list}
use Rattle.sg_trail.proofs.Back.{back_next}
use Rattle.sg_trail.proofs.trail.store_back.Goals as goal

pub loop-entry-preserved : goal.loop-entry-preserved
loop-entry-preserved c =
    back_next c.args.terms.now c.loop-entry.terms c.store.new.self c.args.entries.items c.pop.new.self.items c.loop-entry.rest.items c.in-Some.entry
    (c.pop.ensures.items ∙ ap (λ o. c.pop.new.self.items ++ option_to_list o) c.in-Some.is) c.store.ensures.kept c.store.ensures.pool c.store.ensures.stored c.loop-entry.invariant
