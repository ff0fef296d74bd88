use Rattle.std.specs.Prelude.{◌≡◌, ◌-◌, suc, take, map}
use Rattle.sg_kinds.specs.ValidPlans.{pair_of}
use Rattle.sg_orders.proofs.visits.visits.Given as goal

abbrev pub invariant-loop-layer : goal.invariant-loop-layer
invariant-loop-layer l = l.visits.items ≡ map (λ k. suc l.count - pair_of k) (take l.layer-index l.layers)
