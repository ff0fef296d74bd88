use Rattle.std.proofs.Common.{◌≡◌, suc, ◌∙◌, ap, sym, subst, length, arith}
use Rattle.std.proofs.lemmas.List.{length_push}
use Rattle.sg_sets.specs.Layers.{IsApart}
use Rattle.sg_sets.specs.Rows.{Holds}
use Rattle.sg_sets.proofs.BeforeLemmas.{Path-below}
use Rattle.sg_sets.proofs.OptionLemmas.{IsSome-unless}
use Rattle.sg_sets.proofs.LayersLemmas.{AreLayers-pop, next-there, apart-next, goes_on-next, goes_on-end}
use Rattle.sg_sets.proofs.relation.Relation.least_way.Goals as goal

pub successors-requires : goal.successors-requires
successors-requires c =
    let way = c.loop-layer.invariant.apart.reached in
    Path-below c.args.self.now c.loop-layer.at c.args.goal (way.0, way.1)

pub first_shared-requires : goal.first_shared-requires
first_shared-requires c =
    let parts = AreLayers-pop (Holds c.args.self.now) c.args.goal (length c.args.self.now) c.loop-layer.layers.items c.pop.new.self.items c.in-Some.layer c.in-Some.ensures.items c.loop-layer.invariant.layers in
    c.successors.ensures.width ∙ sym parts.1.width_is

pub unwrap-at-requires : goal.unwrap-at-requires
unwrap-at-requires c =
    let parts = AreLayers-pop (Holds c.args.self.now) c.args.goal (length c.args.self.now) c.loop-layer.layers.items c.pop.new.self.items c.in-Some.layer c.in-Some.ensures.items c.loop-layer.invariant.layers in
    let long : length c.loop-layer.layers.items ≡ suc (length c.pop.new.self.items) = ap length c.in-Some.ensures.items ∙ length_push c.pop.new.self.items c.in-Some.layer ∙ omega arith in
    let apart = subst (λ m. IsApart (Holds c.args.self.now) c.args.goal c.loop-layer.at m) long c.loop-layer.invariant.apart in
    let next = next-there (Holds c.args.self.now) c.args.goal c.loop-layer.at (length c.pop.new.self.items) (length c.args.self.now) c.in-Some.layer apart parts.1 in
    let none = rw c.successors.ensures.row at c.first_shared.ensures.none in
    IsSome-unless c.first_shared.result _ none (λ out. out next.0 next.1)

pub loop-layer-preserved : goal.loop-layer-preserved
loop-layer-preserved c =
    let parts = AreLayers-pop (Holds c.args.self.now) c.args.goal (length c.args.self.now) c.loop-layer.layers.items c.pop.new.self.items c.in-Some.layer c.in-Some.ensures.items c.loop-layer.invariant.layers in
    let long : length c.loop-layer.layers.items ≡ suc (length c.pop.new.self.items) = ap length c.in-Some.ensures.items ∙ length_push c.pop.new.self.items c.in-Some.layer ∙ omega arith in
    let apart = subst (λ m. IsApart (Holds c.args.self.now) c.args.goal c.loop-layer.at m) long c.loop-layer.invariant.apart in
    let goes_on = rw long at c.loop-layer.invariant.goes_on in
    let next = rw (c.unwrap-at.ensures, c.successors.ensures.row) at c.first_shared.ensures.shared in
    let least = rw (c.unwrap-at.ensures, c.successors.ensures.row) at c.first_shared.ensures.least in
    record {
      layers = parts.0;
      apart = apart-next (Holds c.args.self.now) c.args.goal c.loop-layer.at (length c.pop.new.self.items) (length c.args.self.now) c.unwrap-at.result c.in-Some.layer apart parts.1 next;
      goes_on = rw c.in_ok-push-2.ensures.items (goes_on-next (Holds c.args.self.now) c.args.goal c.args.start c.loop-layer.at (length c.pop.new.self.items) (length c.args.layers.items) (length c.args.self.now) c.unwrap-at.result c.loop-layer.way.items c.in-Some.layer parts.1 next least goes_on);
    }

pub returns : goal.returns
returns c =
    let empty = rw c.in_default.is at c.pop.ensures.cases in
    let none : length c.loop-layer.layers.items ≡ 0 = omega (arith, empty) in
    let goes_on = rw none at c.loop-layer.invariant.goes_on in
    let apart = subst (λ m. IsApart (Holds c.args.self.now) c.args.goal c.loop-layer.at m) none c.loop-layer.invariant.apart in
    goes_on-end (Holds c.args.self.now) c.args.goal c.args.start c.loop-layer.at (length c.args.layers.items) c.loop-layer.way.items apart goes_on
