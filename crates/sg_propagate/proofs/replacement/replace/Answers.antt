use Rattle.std.proofs.Common.{◌∙◌}
use Rattle.std.proofs.lemmas.Result.{err_from_is_err_and}
use Rattle.sg_kinds.specs.Places.{put}
use Rattle.sg_eval.specs.Journal.{now_of}
use Rattle.sg_groves.specs.Evaluated.{IsEvaluated}
use Rattle.sg_attrib.proofs.Listed.{gained_nothing}
use Rattle.sg_propagate.specs.Asked.{root_then}
use Rattle.sg_propagate.proofs.Replaced.{evaluated_now, leads_back, others_renewed, pool_grown, spec_same, view_same}
use Rattle.sg_propagate.proofs.Swapping.{exchange_there}
use Rattle.sg_propagate.proofs.replacement.replace.Goals as goal

-- where the trail is refused nothing was done
pub returns-in_err-trail-clause-noted : goal.returns-in_err-trail-clause-noted
returns-in_err-trail-clause-noted c = λ root t u s asked.
    let p = err_from_is_err_and c.from_residual.result c.from_residual.ensures.1 in
    let g = c.args.terms.now in
    let q = c.requires in
    let there = exchange_there g c.facts.ensures c.args.at c.args.detached q.live q.root q.apart q.phyla in
    rw p.1 (there.0, there.1, gained_nothing there.0 (root_then u root c.args.detached) (put t u s) (IsEvaluated g.spec t u s) (now_of c.args.journal.now))

-- where all is up to date
pub returns-in-Ok-clause-right : goal.returns-in-Ok-clause-right
returns-in-Ok-clause-right c = λ root t u s asked. (c.in-Ok.ensures.exchanges.renews root t u s asked).right

pub returns-in-Ok-clause-term : goal.returns-in-Ok-clause-term
returns-in-Ok-clause-term c = λ root t u s asked. (c.in-Ok.ensures.exchanges.renews root t u s asked).holds

pub returns-in-Ok-clause-evaluated : goal.returns-in-Ok-clause-evaluated
returns-in-Ok-clause-evaluated c = λ root t u s asked.
    evaluated_now _ _ c.facts.ensures _ _ _ _ _ _ _ c.in-Ok.ensures.exchanges root t u s asked

pub returns-in-Ok-clause-links : goal.returns-in-Ok-clause-links
returns-in-Ok-clause-links c = let e = c.in-Ok.ensures.exchanges in (e.between, e.exchanged, e.stored)

pub returns-in-Ok-clause-freed : goal.returns-in-Ok-clause-freed
returns-in-Ok-clause-freed c = c.in-Ok.ensures.exchanges.freed

pub returns-in-Ok-clause-roots : goal.returns-in-Ok-clause-roots
returns-in-Ok-clause-roots c = c.in-Ok.ensures.exchanges.roots

pub returns-in-Ok-clause-terms : goal.returns-in-Ok-clause-terms
returns-in-Ok-clause-terms c = c.in-Ok.ensures.exchanges.terms

pub returns-in-Ok-clause-others : goal.returns-in-Ok-clause-others
returns-in-Ok-clause-others c = λ root t u s asked m slot differs.
    others_renewed _ _ c.facts.ensures _ _ _ _ _ _ _ c.in-Ok.ensures.exchanges root t u s asked m slot differs

pub returns-in-Ok-clause-leads_back : goal.returns-in-Ok-clause-leads_back
returns-in-Ok-clause-leads_back c =
    let s = c.in_ok-trail.ensures in
    leads_back _ _ c.facts.ensures _ _ _ _ _ _ _ c.in-Ok.ensures.exchanges s.at s.detached
    (record { numbers = s.numbers; storable = s.storable; covered = s.covered })

pub returns-in-Ok-clause-spec : goal.returns-in-Ok-clause-spec
returns-in-Ok-clause-spec c = spec_same _ _ c.facts.ensures _ _ _ _ _ _ _ c.in-Ok.ensures.exchanges

pub returns-in-Ok-clause-view : goal.returns-in-Ok-clause-view
returns-in-Ok-clause-view c = view_same _ _ c.facts.ensures _ _ _ _ _ _ _ c.in-Ok.ensures.exchanges

pub returns-in-Ok-clause-grown : goal.returns-in-Ok-clause-grown
returns-in-Ok-clause-grown c = pool_grown _ _ c.facts.ensures _ _ _ _ _ _ _ c.in-Ok.ensures.exchanges

-- and where something is refused the trail leads back
pub back-requires : goal.back-requires
back-requires c =
    let s = c.in_ok-trail.ensures in (
      c.args.terms.now,
      leads_back _ _ c.facts.ensures _ _ _ _ _ _ _ c.in-Err.ensures.exchanges s.at s.detached
          (record { numbers = s.numbers; storable = s.storable; covered = s.covered }),
    )

pub returns-in-Err-clause-noted : goal.returns-in-Err-clause-noted
returns-in-Err-clause-noted c = λ root t u s asked.
    let e = c.in-Err.ensures.exchanges in
    (e.between, e.exchanged, (e.renews root t u s asked).listed)

pub returns-in-Err-clause-as_before : goal.returns-in-Err-clause-as_before
returns-in-Err-clause-as_before c =
    let s = c.in_ok-trail.ensures in
    c.back.ensures.nodes c.args.terms.now
    (leads_back _ _ c.facts.ensures _ _ _ _ _ _ _ c.in-Err.ensures.exchanges s.at s.detached
    (record { numbers = s.numbers; storable = s.storable; covered = s.covered }))

pub returns-in-Err-clause-spec : goal.returns-in-Err-clause-spec
returns-in-Err-clause-spec c =
    c.back.ensures.spec
    ∙ spec_same _ _ c.facts.ensures _ _ _ _ _ _ _ c.in-Err.ensures.exchanges

pub returns-in-Err-clause-view : goal.returns-in-Err-clause-view
returns-in-Err-clause-view c =
    c.back.ensures.view
    ∙ view_same _ _ c.facts.ensures _ _ _ _ _ _ _ c.in-Err.ensures.exchanges

pub returns-in-Err-clause-grown : goal.returns-in-Err-clause-grown
returns-in-Err-clause-grown c =
    let s = c.in_ok-trail.ensures in
    c.back.ensures.grown c.args.terms.now
    (leads_back _ _ c.facts.ensures _ _ _ _ _ _ _ c.in-Err.ensures.exchanges s.at s.detached
    (record { numbers = s.numbers; storable = s.storable; covered = s.covered }))
