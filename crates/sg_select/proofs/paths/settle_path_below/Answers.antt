use Rattle.std.proofs.Common.{sym, subst}
use Rattle.sg_groves.specs.Grove.{nodes}
use Rattle.sg_kinds.specs.Places.{place_of}
use Rattle.sg_forest.specs.Trees.{Climbs}
use Rattle.sg_select.proofs.Fronts.{settled_deepest}
use Rattle.sg_select.proofs.paths.settle_path_below.Goals as goal

pub returns-clause-settled : goal.returns-clause-settled
returns-clause-settled c = λ t h reached.
    let g = c.args.terms.now in
    let went = c.deepest-is_whole.ensures.goes t h in
    subst (λ v. Climbs (nodes g) v c.settle_from-to.result c.args.root)
    (sym (settled_deepest g c.args.root c.deepest-is_whole.result.0 t (place_of c.args.path.now) c.deepest-is_whole.result.1 went))
    (c.settle_from-to.ensures.settled c.args.root t went.front went.placed reached)

pub returns-clause-there : goal.returns-clause-there
returns-clause-there c = λ t h on.
    let g = c.args.terms.now in
    let went = c.deepest-is_whole.ensures.goes t h in
    let told = c.stays.ensures on in
    subst (λ v. Climbs (nodes g) v c.settle_from-to.result c.args.root) (sym (went.all told.0))
    (subst (λ m. Climbs (nodes g) went.front m c.args.root) told.1 went.placed.way)
