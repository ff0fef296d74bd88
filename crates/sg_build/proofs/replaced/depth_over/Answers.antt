use Rattle.std.proofs.Common.{◌∙◌, ◌-◌, ◌^◌, sym, ap, min}
use Rattle.sg_kinds.specs.Places.{put, with_child}
use Rattle.sg_kinds.specs.Terms.{height_of}
use Rattle.sg_forest.proofs.Paths.{parent_is_live}
use Rattle.sg_groves.specs.Grove.{nodes}
use Rattle.sg_groves.proofs.Held.{part_held}
use Rattle.sg_build.proofs.Placed.{way_over, way_ends, put_over}
use Rattle.sg_build.proofs.replaced.depth_over.Goals as goal

pub loop-above-preserved : goal.loop-above-preserved
loop-above-preserved c =
    let g = c.args.terms.now in
    let k = c.in-Some.k in
    let above = c.in-Some.above in
    let child = c.in-Some.ensures.child in
    record {
      live = parent_is_live (nodes g) c.facts.ensures.forest.linked c.loop-above.top above k child;
      left = λ root whole s u placed is.
          let was = c.loop-above.invariant.left root whole s u placed is in
          let p = was.2 in
          let up = way_over g was.0 c.loop-above.top above root k p.top child p.way in
          let part = part_held g c.facts.ensures up.0 above root whole up.1 p.holds in (
            up.0,
            with_child part.0 k was.1,
            record { top = p.top; holds = p.holds; way = up.1 },
            c.depth_beside-depth.ensures part.0 was.1 part.1 was.3,
            was.4 ∙ ap (λ v. put whole v was.1) up.2 ∙ put_over whole k up.0 part.0 was.1 part.2,
          );
    }

pub returns : goal.returns
returns c = λ root whole s u placed is.
    let was = c.loop-above.invariant.left root whole s u placed is in
    let none = way_ends c.args.terms.now was.0 c.loop-above.top root placed.top (c.parent.ensures.root.0 c.in_default.is) was.2.way in
    was.3 ∙ ap (λ t. min (height_of t) (2 ^ 64 - 1)) (sym (was.4 ∙ ap (λ v. put whole v was.1) none))
