use Rattle.std.proofs.Common.{length}
use Rattle.sg_sets.specs.Layers.{AreLayers, IsApart}
use Rattle.sg_sets.specs.Rows.{Holds}
use Rattle.sg_sets.proofs.LayersLemmas.{GoesOn}
use Rattle.sg_sets.proofs.relation.Relation.least_way.Given as goal

abbrev pub invariant-loop-layer : goal.invariant-loop-layer
invariant-loop-layer l = record {
  layers : AreLayers (Holds l.self) l.goal (length l.self) l.layers.items;
  apart : IsApart (Holds l.self) l.goal l.at (length l.layers.items);
  goes_on : GoesOn (Holds l.self) l.goal l.start l.at (length l.layers.items) (length l.fn.layers.items) l.way.items;
}

abbrev pub decreases-loop-layer : goal.decreases-loop-layer
decreases-loop-layer l = length l.layers.items
