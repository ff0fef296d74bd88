use Rattle.std.proofs.Common.{None, sym, subst}
use Rattle.sg_forest.proofs.Paths.{parent_is_live}
use Rattle.sg_groves.specs.Grove.{nodes, spec_shown}
use Rattle.sg_forest.specs.Trees.{Climbs}
use Rattle.sg_select.specs.RestingPlaces.{settled}
use Rattle.sg_select.proofs.Climbing.{walk_first, walk_last, walk_up}
use Rattle.sg_select.proofs.Settling.{Keeps, kept_first, settled_at}
use Rattle.sg_select.proofs.moves.settle.Goals as goal

pub loop-above-init : goal.loop-above-init
loop-above-init c = record {
  live = c.requires;
  kept = tt;
  walks = walk_first c.args.terms.now c.args.n (Keeps c.args.terms.now None) (λ root t u placed. record { place = None; leads = tt; known = kept_first (spec_shown c.args.terms.now) t u });
}

pub loop-above-preserved : goal.loop-above-preserved
loop-above-preserved c =
    let g = c.args.terms.now in
    let live = parent_is_live (nodes g) c.facts.ensures.forest.linked c.loop-above.at c.in-Some.above c.in-Some.k c.in-Some.ensures.child in
    record {
      live = live;
      kept = c.kept_over-kept.ensures.live;
      walks = walk_up g c.facts.ensures c.args.n c.loop-above.at c.in-Some.above c.in-Some.k (Keeps g c.loop-above.kept) (Keeps g c.kept_over-kept.result) live c.loop-above.invariant.live c.in-Some.ensures.child
          (λ root t u w s known. let further = c.kept_over-kept.ensures.kept root t u w known.place s.placed known.leads known.known in record { place = further.0; leads = further.1; known = further.2 })
          c.loop-above.invariant.walks;
    }

pub returns-clause-settled : goal.returns-clause-settled
returns-clause-settled c = λ root t u placed.
    let g = c.args.terms.now in
    let last = walk_last g c.facts.ensures c.args.n c.loop-above.at (Keeps g c.loop-above.kept) (c.parent.ensures.root.0 c.in_default.is) c.loop-above.invariant.walks root t u placed in
    subst (λ m. Climbs (nodes g) (settled (spec_shown g) t u) m root) (sym c.unwrap_or.ensures) (settled_at g root c.loop-above.at t u c.loop-above.kept last.1 last.0)
