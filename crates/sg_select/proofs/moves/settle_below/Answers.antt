use Rattle.std.specs.Prelude.{IfSome}
use Rattle.std.proofs.Common.{None, false, sym, subst}
use Rattle.std.proofs.lemmas.Bool.{false≢true}
use Rattle.sg_forest.proofs.Paths.{parent_is_live}
use Rattle.sg_groves.specs.Grove.{nodes, spec_shown}
use Rattle.sg_forest.specs.Trees.{Climbs, IsLive}
use Rattle.sg_build.proofs.Told.{the_term}
use Rattle.sg_select.specs.RestingPlaces.{settled}
use Rattle.sg_select.proofs.Climbing.{walk_first, walk_last, walk_up}
use Rattle.sg_select.proofs.Settling.{Meets, kept_first, met_here, met_up, settled_at, settled_met}
use Rattle.sg_select.proofs.moves.settle_below.Goals as goal

pub loop-above-init : goal.loop-above-init
loop-above-init c = record {
  live = c.requires;
  kept = tt;
  walks = walk_first c.args.terms.now c.args.n (Meets c.args.terms.now None false c.args.reached)
      (λ root t u placed. record { keeps = record { place = None; leads = tt; known = kept_first (spec_shown c.args.terms.now) t u }; way = λ reached no. absurd (false≢true no) });
}

pub returns-in-Some-kept_if-clause-live : goal.returns-in-Some-kept_if-clause-live
returns-in-Some-kept_if-clause-live c = subst (λ o. IfSome o (IsLive (nodes c.args.terms.now))) (c.in-Some-kept_if.ensures.1) c.loop-above.invariant.kept

pub returns-in-Some-kept_if-clause-settled : goal.returns-in-Some-kept_if-clause-settled
returns-in-Some-kept_if-clause-settled c = λ root t u placed reached.
    let g = c.args.terms.now in
    let here = c.loop-above.invariant.walks root t u placed in
    let told = c.in-Some-kept_if.ensures in
    settled_met g root c.in-Some-kept_if.found t u here.place c.loop-above.nearest here.known.keeps told.1
    (met_here g root c.args.reached c.loop-above.at t u here.place c.loop-above.nearest c.loop-above.met c.has_met-met.result here.placed.way here.known c.has_met-met.ensures reached told.0)

pub loop-above-preserved : goal.loop-above-preserved
loop-above-preserved c =
    let g = c.args.terms.now in
    let live = parent_is_live (nodes g) c.facts.ensures.forest.linked c.loop-above.at c.in-Some.above c.in-Some.k c.in-Some.ensures.child in
    record {
      live = live;
      kept = c.kept_over-nearest.ensures.live;
      walks = walk_up g c.facts.ensures c.args.n c.loop-above.at c.in-Some.above c.in-Some.k (Meets g c.loop-above.nearest c.loop-above.met c.args.reached) (Meets g c.kept_over-nearest.result c.has_met-met.result c.args.reached) live c.loop-above.invariant.live c.in-Some.ensures.child
          (λ root t u w s known.
          let keeps = known.keeps in
          let further = c.kept_over-nearest.ensures.kept root t u w keeps.place s.placed keeps.leads keeps.known in
          record {
            keeps = record { place = further.0; leads = further.1; known = further.2 };
            way = met_up g root c.args.reached c.loop-above.at c.in-Some.above t u w c.in-Some.k (the_term g c.in-Some.above) (the_term g c.loop-above.at) c.loop-above.nearest c.loop-above.met c.has_met-met.result s known c.has_met-met.ensures;
          })
          c.loop-above.invariant.walks;
    }

pub returns-clause-settled : goal.returns-clause-settled
returns-clause-settled c = λ root t u placed reached.
    let g = c.args.terms.now in
    let last = walk_last g c.facts.ensures c.args.n c.loop-above.at (Meets g c.loop-above.nearest c.loop-above.met c.args.reached) (c.parent.ensures.root.0 c.in_default.is) c.loop-above.invariant.walks root t u placed in
    subst (λ m. Climbs (nodes g) (settled (spec_shown g) t u) m root) (sym c.unwrap_or.ensures) (settled_at g root c.loop-above.at t u c.loop-above.nearest last.1.keeps last.0)
