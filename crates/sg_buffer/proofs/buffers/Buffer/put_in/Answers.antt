use Rattle.std.specs.Prelude.{◌≤◌, ◌≢◌, ◌∷◌}
use Rattle.std.proofs.Common.{subst, sym, ◌∙◌}
use Rattle.std.proofs.lemmas.Result.{err_from_is_err_and}
use Rattle.sg_kinds.specs.Places.{place_of, put}
use Rattle.sg_eval.specs.Journal.{now_of}
use Rattle.sg_forest.specs.declared.node_id.NodeId.{NodeId}
use Rattle.sg_forest.specs.Trees.{IsRoot}
use Rattle.sg_groves.specs.Evaluated.{IsEvaluated}
use Rattle.sg_groves.specs.Grove.{nodes}
use Rattle.sg_terms.specs.Entries.{GainedAll}
use Rattle.sg_changes.specs.StepChanges.{tops}
use Rattle.sg_changes.specs.declared.step.Step.{Step}
use Rattle.sg_exchanges.specs.Roots.{times}
use Rattle.sg_exchanges.proofs.Gaining.{gained_on}
use Rattle.sg_buffer.specs.Held.{Held, state_of}
use Rattle.sg_buffer.proofs.Kept.{kept_here}
use Rattle.sg_buffer.proofs.Methods.{held}
use Rattle.sg_buffer.proofs.Toggling.{told_view}
use Rattle.sg_buffer.proofs.Replacing.{counted_here, fit_here, hung_once, hung_root, may_put, put_here, small_here, way_here}
use Rattle.sg_buffer.proofs.buffers.Buffer.put_in.Goals as goal

pub invariant_of-self : goal.invariant_of-self
invariant_of-self c =
    let e = c.in_err-placed.ensures in
    ((kept_here (held c.self.inside) c.self.inside.nodes c.self.inside.history.room c.self.inside.page c.self.inside.standing c.self.invariant.0 c.put_term.new.terms e.spec e.view e.grown e.as_before c.args.self.now c.self.view_is).0, c.self.invariant.1 ∙ sym e.spec)

pub returns-in_err-placed-clause-as_before : goal.returns-in_err-placed-clause-as_before
returns-in_err-placed-clause-as_before c =
    let e = c.in_err-placed.ensures in
    let p = err_from_is_err_and c.from_residual-in_err-placed.result c.from_residual-in_err-placed.ensures.1 in
    rw p.1
    (kept_here (held c.self.inside) c.self.inside.nodes c.self.inside.history.room c.self.inside.page c.self.inside.standing c.self.invariant.0 c.put_term.new.terms e.spec e.view e.grown e.as_before c.args.self.now c.self.view_is).1

pub remember-requires-clause-roots : goal.remember-requires-clause-roots
remember-requires-clause-roots c =
    let path = c.args.at.now in
    let s = c.args.t.now in
    let fit = fit_here (held c.self.inside) c.args.self.now c.self.view_is c.self.inside.nodes c.self.inside.history.room c.self.inside.page c.self.inside.standing c.self.invariant.0 path s c.requires.fits in
    let way = way_here (held c.self.inside) c.args.self.now c.self.view_is c.self.inside.nodes c.self.inside.history.room c.self.inside.page c.self.inside.standing c.self.invariant.0 path s c.args.n c.requires.there in
    let small = small_here (held c.self.inside) c.args.self.now c.self.view_is c.self.inside.nodes c.self.inside.history.room c.self.inside.page c.self.inside.standing c.self.invariant.0 path s c.requires.small in
    let e = c.in_ok-placed.ensures in
    subst (λ (s : Step). (n : NodeId) → times n (tops (s ∷ c.self.inside.history.past) c.self.inside.history.future) ≢ 0 → IsRoot (nodes c.put_term.new.terms) n) (sym c.replaced-change.ensures)
    (hung_root (held c.self.inside) c.self.inside.nodes c.self.inside.history.room c.self.inside.page c.self.inside.standing c.self.invariant.0 path s fit c.args.n way c.args.select.now c.put_term.new.terms c.facts-2.ensures e.spec e.view c.in_ok-placed.placed (e.put (state_of (held c.self.inside)).term (place_of path) (may_put (held c.self.inside) c.self.inside.nodes c.self.inside.history.room c.self.inside.page c.self.inside.standing c.self.invariant.0 path s fit c.args.n way)) small)

pub remember-requires-clause-once : goal.remember-requires-clause-once
remember-requires-clause-once c =
    let path = c.args.at.now in
    let s = c.args.t.now in
    let fit = fit_here (held c.self.inside) c.args.self.now c.self.view_is c.self.inside.nodes c.self.inside.history.room c.self.inside.page c.self.inside.standing c.self.invariant.0 path s c.requires.fits in
    let way = way_here (held c.self.inside) c.args.self.now c.self.view_is c.self.inside.nodes c.self.inside.history.room c.self.inside.page c.self.inside.standing c.self.invariant.0 path s c.args.n c.requires.there in
    let small = small_here (held c.self.inside) c.args.self.now c.self.view_is c.self.inside.nodes c.self.inside.history.room c.self.inside.page c.self.inside.standing c.self.invariant.0 path s c.requires.small in
    let e = c.in_ok-placed.ensures in
    subst (λ (s : Step). (n : NodeId) → times n (tops (s ∷ c.self.inside.history.past) c.self.inside.history.future) ≤ 1) (sym c.replaced-change.ensures)
    (hung_once (held c.self.inside) c.self.inside.nodes c.self.inside.history.room c.self.inside.page c.self.inside.standing c.self.invariant.0 path s fit c.args.n way c.args.select.now c.put_term.new.terms c.facts-2.ensures e.spec e.view c.in_ok-placed.placed (e.put (state_of (held c.self.inside)).term (place_of path) (may_put (held c.self.inside) c.self.inside.nodes c.self.inside.history.room c.self.inside.page c.self.inside.standing c.self.invariant.0 path s fit c.args.n way)) small)

pub invariant_of-self-2 : goal.invariant_of-self-2
invariant_of-self-2 c =
    let path = c.args.at.now in
    let s = c.args.t.now in
    let fit = fit_here (held c.self.inside) c.args.self.now c.self.view_is c.self.inside.nodes c.self.inside.history.room c.self.inside.page c.self.inside.standing c.self.invariant.0 path s c.requires.fits in
    let way = way_here (held c.self.inside) c.args.self.now c.self.view_is c.self.inside.nodes c.self.inside.history.room c.self.inside.page c.self.inside.standing c.self.invariant.0 path s c.args.n c.requires.there in
    let small = small_here (held c.self.inside) c.args.self.now c.self.view_is c.self.inside.nodes c.self.inside.history.room c.self.inside.page c.self.inside.standing c.self.invariant.0 path s c.requires.small in
    let e = c.in_ok-placed.ensures in
    let r = c.remember.ensures in (
      (put_here (held c.self.inside) c.self.inside.nodes c.self.inside.history.room c.self.inside.page c.self.inside.standing c.self.invariant.0 path s fit c.args.n way c.args.select.now c.put_term.new.terms c.facts-2.ensures e.spec e.view c.in_ok-placed.placed (e.put (state_of (held c.self.inside)).term (place_of path) (may_put (held c.self.inside) c.self.inside.nodes c.self.inside.history.room c.self.inside.page c.self.inside.standing c.self.invariant.0 path s fit c.args.n way)) small
          c.args.self.now c.self.view_is c.in_ok-before.before (told_view _ _ _ _ _ c.in_ok-before.ensures c.view.ensures) c.in_ok-path.path c.in_ok-path.ensures c.replaced-change.result c.replaced-change.ensures
          c.remember.new.terms c.facts-3.ensures c.remember.new.history (record { past_is = r.past; future_is = r.future; room_is = r.room; dropped = r.dropped }) c.args.known (counted_here (held c.self.inside) c.args.self.now c.self.view_is c.self.inside.nodes c.self.inside.history.room c.self.inside.page c.self.inside.standing c.self.invariant.0 path s c.args.known c.requires.known)).0,
      c.self.invariant.1 ∙ sym e.spec ∙ sym r.dropped.1.spec,
    )

pub returns-clause-state : goal.returns-clause-state
returns-clause-state c =
    let path = c.args.at.now in
    let s = c.args.t.now in
    let fit = fit_here (held c.self.inside) c.args.self.now c.self.view_is c.self.inside.nodes c.self.inside.history.room c.self.inside.page c.self.inside.standing c.self.invariant.0 path s c.requires.fits in
    let way = way_here (held c.self.inside) c.args.self.now c.self.view_is c.self.inside.nodes c.self.inside.history.room c.self.inside.page c.self.inside.standing c.self.invariant.0 path s c.args.n c.requires.there in
    let small = small_here (held c.self.inside) c.args.self.now c.self.view_is c.self.inside.nodes c.self.inside.history.room c.self.inside.page c.self.inside.standing c.self.invariant.0 path s c.requires.small in
    let e = c.in_ok-placed.ensures in
    let r = c.remember.ensures in
    (put_here (held c.self.inside) c.self.inside.nodes c.self.inside.history.room c.self.inside.page c.self.inside.standing c.self.invariant.0 path s fit c.args.n way c.args.select.now c.put_term.new.terms c.facts-2.ensures e.spec e.view c.in_ok-placed.placed (e.put (state_of (held c.self.inside)).term (place_of path) (may_put (held c.self.inside) c.self.inside.nodes c.self.inside.history.room c.self.inside.page c.self.inside.standing c.self.invariant.0 path s fit c.args.n way)) small
    c.args.self.now c.self.view_is c.in_ok-before.before (told_view _ _ _ _ _ c.in_ok-before.ensures c.view.ensures) c.in_ok-path.path c.in_ok-path.ensures c.replaced-change.result c.replaced-change.ensures
    c.remember.new.terms c.facts-3.ensures c.remember.new.history (record { past_is = r.past; future_is = r.future; room_is = r.room; dropped = r.dropped }) c.args.known (counted_here (held c.self.inside) c.args.self.now c.self.view_is c.self.inside.nodes c.self.inside.history.room c.self.inside.page c.self.inside.standing c.self.invariant.0 path s c.args.known c.requires.known)).1

pub returns-clause-evaluated : goal.returns-clause-evaluated
returns-clause-evaluated c =
    let path = c.args.at.now in
    let s = c.args.t.now in
    let fit = fit_here (held c.self.inside) c.args.self.now c.self.view_is c.self.inside.nodes c.self.inside.history.room c.self.inside.page c.self.inside.standing c.self.invariant.0 path s c.requires.fits in
    let way = way_here (held c.self.inside) c.args.self.now c.self.view_is c.self.inside.nodes c.self.inside.history.room c.self.inside.page c.self.inside.standing c.self.invariant.0 path s c.args.n c.requires.there in
    let small = small_here (held c.self.inside) c.args.self.now c.self.view_is c.self.inside.nodes c.self.inside.history.room c.self.inside.page c.self.inside.standing c.self.invariant.0 path s c.requires.small in
    let e = c.in_ok-placed.ensures in
    let r = c.remember.ensures in
    let tree = (put_here (held c.self.inside) c.self.inside.nodes c.self.inside.history.room c.self.inside.page c.self.inside.standing c.self.invariant.0 path s fit c.args.n way c.args.select.now c.put_term.new.terms c.facts-2.ensures e.spec e.view c.in_ok-placed.placed (e.put (state_of (held c.self.inside)).term (place_of path) (may_put (held c.self.inside) c.self.inside.nodes c.self.inside.history.room c.self.inside.page c.self.inside.standing c.self.invariant.0 path s fit c.args.n way)) small
    c.args.self.now c.self.view_is c.in_ok-before.before (told_view _ _ _ _ _ c.in_ok-before.ensures c.view.ensures) c.in_ok-path.path c.in_ok-path.ensures c.replaced-change.result c.replaced-change.ensures
    c.remember.new.terms c.facts-3.ensures c.remember.new.history (record { past_is = r.past; future_is = r.future; room_is = r.room; dropped = r.dropped }) c.args.known (counted_here (held c.self.inside) c.args.self.now c.self.view_is c.self.inside.nodes c.self.inside.history.room c.self.inside.page c.self.inside.standing c.self.invariant.0 path s c.args.known c.requires.known)).2 in
    let b = held c.self.inside in
    subst (λ (z : Held). GainedAll c.remember.new.terms c.in_ok-placed.placed.root (put (state_of z).term (place_of path) s) (IsEvaluated z.grove.spec (state_of z).term (place_of path) s) (now_of c.args.journal.now) (now_of c.put_term.new.journal)) c.self.view_is
    (gained_on c.put_term.new.terms c.remember.new.terms c.in_ok-placed.placed.root tree (put (state_of b).term (place_of path) s) (IsEvaluated b.grove.spec (state_of b).term (place_of path) s) (now_of c.args.journal.now) (now_of c.put_term.new.journal)
    (e.noted (state_of b).term (place_of path) (may_put b c.self.inside.nodes c.self.inside.history.room c.self.inside.page c.self.inside.standing c.self.invariant.0 path s fit c.args.n way)))
