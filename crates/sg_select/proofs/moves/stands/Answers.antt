use Rattle.std.proofs.Common.{◌≡◌, sym, ap, ◌∙◌, refl}
use Rattle.sg_forest.proofs.Paths.{parent_is_live}
use Rattle.sg_groves.specs.Grove.{nodes, spec_shown}
use Rattle.sg_build.proofs.Told.{the_term}
use Rattle.sg_select.specs.RestingPlaces.{is_open, rests}
use Rattle.sg_select.proofs.Within.{rests_child}
use Rattle.sg_select.proofs.Leading.{top_placed}
use Rattle.sg_select.proofs.Climbing.{walk_first, walk_step}
use Rattle.sg_select.proofs.moves.stands.Goals as goal

pub rests_under-requires-clause-node : goal.rests_under-requires-clause-node
rests_under-requires-clause-node c = parent_is_live (nodes c.args.terms.now) c.facts.ensures.forest.linked c.args.n c.in-Some.above c.in-Some.k c.in-Some.ensures.child

pub returns-in-Some : goal.returns-in-Some
returns-in-Some c = λ root t u placed way.
    let g = c.args.terms.now in
    let live = parent_is_live (nodes g) c.facts.ensures.forest.linked c.args.n c.in-Some.above c.in-Some.k c.in-Some.ensures.child in
    let up = walk_step g c.facts.ensures c.args.n c.args.n c.in-Some.above c.in-Some.k (λ root t u w. u ≡ w) live c.requires c.in-Some.ensures.child (walk_first g c.args.n (λ root t u w. u ≡ w) (λ root t u placed. refl)) root t u placed in
    let s = up.step in
    c.rests_under.ensures (the_term g c.in-Some.above) (the_term g c.args.n) s.holds s.kid_holds
    ∙ sym (rests_child (spec_shown g) t c.in-Some.k up.place (the_term g c.in-Some.above) (the_term g c.args.n) s.there s.kid_there (ap (is_open (spec_shown g) t) (sym up.known) ∙ way))
    ∙ ap (rests (spec_shown g) t) (sym up.known)

pub returns-in-None : goal.returns-in-None
returns-in-None c = λ root t u placed way.
    let g = c.args.terms.now in
    ap (rests (spec_shown g) t) (sym (top_placed g c.facts.ensures root t u c.args.n placed (c.parent.ensures.root.0 c.in-None.is)))
