use Rattle.std.specs.Prelude.{IfSome, IsTrue}
use Rattle.std.proofs.Common.{subst, sym}
use Rattle.sg_kinds.specs.Places.{place_of}
use Rattle.sg_forest.specs.Trees.{Climbs}
use Rattle.sg_groves.specs.Grove.{nodes}
use Rattle.sg_select.specs.Leads.{IsOpenAt}
use Rattle.sg_states.proofs.Foretold.{all_open}
use Rattle.sg_changes.specs.declared.spot.Selection.{Selection}
use Rattle.sg_states.specs.Seen.{settled_spot}
use Rattle.sg_states.specs.Paged.{IsLook}
use Rattle.sg_states.specs.declared.looks.Look.{Look}
use Rattle.sg_states.proofs.Looking.{looked}
use Rattle.sg_states.proofs.looks.look_after.Goals as goal

pub returns : goal.returns
returns c = λ t whole.
    let g = c.args.terms.now in
    let root = c.args.root in
    let s : Selection = record { path = c.as_slice-way.result.now; count = c.args.select.now.count } in
    let f = c.in_ok-found.found in
    let went = c.settle_path_below-is_there in
    let n = went.result.0 in
    let path = c.in_ok-path.path in
    let l : Look = record {
      selected = n;
      spot = record { selection = record { path = path; count = c.count_at-count.result }; top = c.topped-top.result; view = c.view-view.result };
      way = c.in_ok-kept.kept;
      page = f.page;
      begins = f.begins;
    } in
    let reached = subst (λ o. IfSome o (IsOpenAt g root t)) (sym c.reached.ensures) (all_open g c.facts.ensures root t whole c.args.before c.requires.before) in
    let there : IsTrue went.result.1 → Climbs (nodes g) (place_of c.args.select.now.path) n root =
    λ on. subst (λ p. Climbs (nodes g) (place_of p) n root) c.as_slice-way.ensures (went.ensures.there t whole.holds on) in
    subst (λ p. let select : Selection = record { path = p; count = c.args.select.now.count } in IsLook g root t (settled_spot g.spec c.args.height g.view t select c.args.top) l) c.as_slice-way.ensures
    (looked g c.facts.ensures root t s c.args.height c.args.top c.topped-top.result path c.in_ok-kept.kept c.count_at-count.result c.view-view.result n f c.in_ok-kept.ensures c.view-view.ensures whole
    (went.ensures.settled t whole.holds reached) (λ u placed. c.in_ok-path.ensures root t u placed there) (c.count_at-count.ensures t) (λ u way. c.in_ok-found.ensures t u whole way) c.topped-top.ensures)
