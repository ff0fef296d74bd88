use Rattle.std.specs.Prelude.{◌≡◌, ◌≤◌, ◌^◌, take}
use Rattle.sg_orders.specs.VisitRows.{pair_count}
use Rattle.sg_orders.proofs.visits.count_pairs.Given as goal

abbrev pub invariant-loop-layer : goal.invariant-loop-layer
invariant-loop-layer l = record {
  exact : l.count ≡ pair_count (take l.layer-index l.layers);
  low : l.count ≤ 2 ^ 31;
}
