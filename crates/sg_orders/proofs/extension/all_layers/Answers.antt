use Rattle.std.specs.Prelude.{length}
use Rattle.std.proofs.Common.{sym, ap, ◌∙◌, subst, arith}
use Rattle.sg_orders.specs.LeastLayers.{AreLeastLayers}
use Rattle.sg_orders.proofs.Layerings.{next_is, layerings_more, layerings_all}
use Rattle.sg_orders.proofs.extension.all_layers.Goals as goal

pub layers-requires : goal.layers-requires
layers-requires c =
    let n = next_is c.args.rules.now c.args.dependencies.now c.as_slice-phylum-items.result.now c.loop-place.place c.phylum-item.result c.index.result.now c.requires.range c.requires.induced c.requires.acyclic c.as_slice-phylum-items.ensures c.loop-place-test.true c.phylum-item.is c.index.ensures in
    let same = ap length c.as_slice.ensures in
    record { size = n.size ∙ sym same; few = let f = n.few in omega (arith, f, same); order = n.order }

pub loop-place-preserved : goal.loop-place-preserved
loop-place-preserved c =
    let n = next_is c.args.rules.now c.args.dependencies.now c.as_slice-phylum-items.result.now c.loop-place.place c.phylum-item.result c.index.result.now c.requires.range c.requires.induced c.requires.acyclic c.as_slice-phylum-items.ensures c.loop-place-test.true c.phylum-item.is c.index.ensures in
    layerings_more c.args.rules.now c.args.dependencies.now c.loop-place.all.items c.push.new.self.items c.loop-place.place c.phylum-item.result c.index.result.now c.new.result c.in_ok-found.found.items c.requires.induced c.requires.acyclic c.loop-place.invariant n
    (subst (λ xs. AreLeastLayers xs c.index.result.now c.in_ok-found.found.items) c.as_slice.ensures c.in_ok-found.ensures) c.new.ensures c.in_ok-push.ensures.items

pub returns : goal.returns
returns c = layerings_all c.args.rules.now c.loop-place.all.items c.loop-place.place c.loop-place.invariant (omega (arith, ap length c.as_slice-phylum-items.ensures))
