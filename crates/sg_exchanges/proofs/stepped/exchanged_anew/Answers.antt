use Rattle.std.proofs.Common.{sym, subst}
use Rattle.std.proofs.lemmas.Result.{err_from_is_err_and}
use Rattle.sg_kinds.specs.Places.{place_of}
use Rattle.sg_eval.specs.Journal.{now_of}
use Rattle.sg_forest.specs.Trees.{Climbs}
use Rattle.sg_groves.specs.Grove.{nodes}
use Rattle.sg_exchanges.specs.declared.turns.What.TheVariants.{Tree}
use Rattle.sg_exchanges.proofs.Stepping.{seen_then}
use Rattle.sg_exchanges.proofs.Turning.{noted_already}
use Rattle.sg_exchanges.proofs.stepped.exchanged_anew.Goals as goal

pub exchanged-requires-clause-may : goal.exchanged-requires-clause-may
exchanged-requires-clause-may c = (c.requires.may.0, place_of c.args.path.now, c.requires.may.1)

pub returns-in_err-done-clause-some : goal.returns-in_err-done-clause-some
returns-in_err-done-clause-some c = λ t may.
    let p = err_from_is_err_and c.from_residual.result c.from_residual.ensures.1 in
    rw p.1 (c.in_err-done.ensures.some t (place_of c.args.path.now) may)

pub look_after-requires-clause-root : goal.look_after-requires-clause-root
look_after-requires-clause-root c = (c.in_ok-done.ensures.turned c.requires.may.0 (place_of c.args.path.now) c.requires.may.1).whole.top

pub look_after-requires-clause-near : goal.look_after-requires-clause-near
look_after-requires-clause-near c =
    subst (λ p. Climbs (nodes c.exchanged.new.terms) (place_of p) c.args.detached c.in_ok-done.done.root) (sym c.as_slice.ensures)
    (c.in_ok-done.ensures.reach c.requires.may.0 (place_of c.args.path.now) c.requires.may.1).way

pub returns-in-Ok-clause-turned : goal.returns-in-Ok-clause-turned
returns-in-Ok-clause-turned c = λ t may.
    let u = place_of c.args.path.now in
    let e = c.in_ok-done.ensures in
    seen_then c.args.terms.now c.exchanged.new.terms c.args.root c.args.out (Tree c.args.detached) t u c.args.height c.args.spot.now.selection c.args.spot.now.top
    (record { root = c.in_ok-done.done.root; look = c.in-Ok.look }) e.spec e.view (e.turned t u may) c.in-Ok.ensures

pub returns-in-Ok-clause-noted : goal.returns-in-Ok-clause-noted
returns-in-Ok-clause-noted c = λ t may. c.in_ok-done.ensures.noted t (place_of c.args.path.now) may

pub returns-in-Err-clause-some : goal.returns-in-Err-clause-some
returns-in-Err-clause-some c = λ t may.
    let u = place_of c.args.path.now in
    let e = c.in_ok-done.ensures in
    noted_already c.args.terms.now c.exchanged.new.terms c.facts-2.ensures c.args.root c.in_ok-done.done.root t u c.args.detached (now_of c.args.journal.now) (now_of c.exchanged.new.journal) e.spec
    (e.turned t u may).whole.holds (e.tree t u may) (e.noted t u may)

pub returns-in-Err-clause-as_before : goal.returns-in-Err-clause-as_before
returns-in-Err-clause-as_before c = c.back.ensures.nodes c.args.terms.now c.in_ok-done.ensures.leads_back
