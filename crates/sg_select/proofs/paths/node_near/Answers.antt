use Rattle.std.proofs.Common.{sym, ap, ◌∙◌, subst}
use Rattle.sg_groves.specs.Grove.{nodes}
use Rattle.sg_build.proofs.Told.{the_term}
use Rattle.sg_kinds.specs.Places.{place_of, sub}
use Rattle.sg_forest.specs.Trees.{Climbs}
use Rattle.sg_select.specs.Paths.{there}
use Rattle.sg_select.proofs.Fronts.{there_is, there_not}
use Rattle.sg_select.proofs.Leading.{a_lead, held, no_lead, sub_there}
use Rattle.sg_select.proofs.paths.node_near.Goals as goal

pub returns-then-is_whole-clause-leads : goal.returns-then-is_whole-clause-leads
returns-then-is_whole-clause-leads c = λ t h.
    let g = c.args.terms.now in
    let n = c.deepest-is_whole.result.0 in
    let u = place_of c.args.path.now in
    let went = c.deepest-is_whole.ensures.goes t h in
    let same = went.all c.if-is_whole.true in
    let holds = held g c.facts.ensures n c.deepest-is_whole.ensures.live in
    a_lead g c.args.root n (there t u) u
    (there_is t (the_term g n) u (ap (sub t) same ∙ sub_there g c.facts.ensures c.args.root t (the_term g n) went.front n went.placed holds))
    (subst (λ v. Climbs (nodes g) v n c.args.root) (sym same) went.placed.way)

pub returns-else-is_whole-clause-leads : goal.returns-else-is_whole-clause-leads
returns-else-is_whole-clause-leads c = λ t h.
    let went = c.deepest-is_whole.ensures.goes t h in
    no_lead c.args.terms.now c.args.root _ (there_not t (place_of c.args.path.now) went.front (went.ends c.if-is_whole.false))
