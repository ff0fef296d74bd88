use Rattle.std.specs.Prelude.{◌≡◌}
use Rattle.std.specs.Ordering.{ord_max, nat_cmp}
use Rattle.std.proofs.Common.{refl, ap, ◌∙◌, arith, get_or}
use Rattle.std.proofs.lemmas.List.{take_all, get_or_default}
use Rattle.sg_kinds.specs.ValidPlans.{pair_of}
use Rattle.sg_orders.specs.VisitRows.{pair_count}
use Rattle.sg_orders.proofs.Least.{max_is}
use Rattle.sg_orders.proofs.Pairs.{pairs_more, pair_high}
use Rattle.sg_orders.proofs.visits.count_pairs.Goals as goal

pub loop-layer-preserved : goal.loop-layer-preserved
loop-layer-preserved c =
    let layers = c.args.layers.now in
    let i = c.loop-layer.layer-index in
    let made = c.max-count.ensures ∙ ap (ord_max nat_cmp c.loop-layer.count) c.pair.ensures in
    let small = c.requires i 0 c.loop-layer-test.true in
    record {
      exact = pairs_more layers i (get_or layers i 0) c.loop-layer.count c.max-count.result c.loop-layer-test.true refl c.loop-layer.invariant.exact made;
      low = omega (arith, made ∙ max_is c.loop-layer.count (pair_of (get_or layers i 0)), small, c.loop-layer.invariant.low);
    }

pub returns : goal.returns
returns c =
    let layers = c.args.layers.now in
    let exact : c.loop-layer.count ≡ pair_count layers = c.loop-layer.invariant.exact ∙ ap pair_count (take_all c.loop-layer.layer-index layers c.loop-layer-test.false) in
    record {
      exact = exact;
      high = λ k d low. let h = pair_high layers k low in let e = get_or_default layers k d 0 low in omega (arith, h, exact, ap pair_of e);
      low = c.loop-layer.invariant.low;
    }
