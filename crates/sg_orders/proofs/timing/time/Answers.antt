use Rattle.std.specs.Prelude.{map}
use Rattle.std.proofs.Common.{ap, ◌∙◌}
use Rattle.sg_orders.specs.VisitRows.{visits_by}
use Rattle.sg_orders.proofs.Timings.{placeable, layers_low, timing_by}
use Rattle.sg_orders.proofs.timing.time.Goals as goal

pub all_visits-requires : goal.all_visits-requires
all_visits-requires c = layers_low c.args.rules.now c.requires.range c.args.extension.now c.requires.exact c.deref.result.now c.deref.ensures.value

pub all_positions-requires : goal.all_positions-requires
all_positions-requires c = placeable c.args.rules.now c.requires.range c.args.extension.now c.requires.exact c.requires.acyclic c.deref-2.result.now c.deref-2.ensures.value

pub returns : goal.returns
returns c =
    timing_by c.args.rules.now c.requires.range c.args.extension.now c.requires.exact (record { visits = c.in_ok-visits.visits; places = c.in_ok-places.places }) c.deref-2.result.now
    (c.in_ok-visits.ensures ∙ ap (map visits_by) c.deref.ensures.value) c.deref-2.ensures.value c.in_ok-places.ensures
