use Rattle.std.proofs.Common.{◌<◌, ◌∙◌, true, sym, ap, subst, length, arith, rules, length-set}
use Rattle.std.specs.Prelude.{All}
use Rattle.std.proofs.lemmas.List.Elements.{All-push, All-take}
use Rattle.sg_sets.proofs.MembersLemmas.{has-below}
use Rattle.sg_sets.proofs.relation.Relation.descend.Goals as goal

pub loop-a-preserved-in-Continue-1 : goal.loop-a-preserved-in-Continue-1
loop-a-preserved-in-Continue-1 c =
    let k = c.in-Some-first_outside.k in
    let out = c.in-Some-first_outside.ensures.outside in
    let low : k < length c.args.self.now = omega (arith, has-below c.successors.result.now k out.0, c.successors.ensures.width) in
    record {
      way = subst (All (λ v. v < length c.args.self.now)) (sym c.in_ok-push.ensures.items) (All-push (λ v. v < length c.args.self.now) c.loop-a.way.items k c.loop-a.invariant.way low);
      order = c.loop-a.invariant.order;
      seen = ap length c.insert.ensures.gains ∙ length-set c.loop-a.seen k true ∙ c.loop-a.invariant.seen;
    }

pub loop-a-preserved : goal.loop-a-preserved
loop-a-preserved c =
    let low : c.in-Some.field-0.now < length c.args.self.now = search rules in
    record {
      way = subst (All (λ v. v < length c.args.self.now)) (sym c.pop.ensures.rest) (All-take (λ v. v < length c.args.self.now) _ c.loop-a.way.items c.loop-a.invariant.way);
      order = subst (All (λ v. v < length c.args.self.now)) (sym c.in_ok-push-2.ensures.items) (All-push (λ v. v < length c.args.self.now) c.loop-a.order.items c.in-Some.field-0.now c.loop-a.invariant.order low);
      seen = c.loop-a.invariant.seen;
    }
