use Rattle.std.specs.Prelude.{◌≤◌, ◌≢◌, false, true, ◌∷◌, MatchOption}
use Rattle.std.proofs.Common.{◌≡◌, refl, subst, sym, ◌∙◌}
use Rattle.std.proofs.lemmas.Result.{err_from_is_err_and}
use Rattle.sg_forest.specs.declared.node_id.NodeId.{NodeId}
use Rattle.sg_forest.specs.Trees.{IsRoot}
use Rattle.sg_groves.specs.Grove.{nodes}
use Rattle.sg_changes.specs.StepChanges.{tops}
use Rattle.sg_changes.specs.declared.step.Step.{Step}
use Rattle.sg_exchanges.specs.Roots.{times}
use Rattle.sg_buffer.specs.Held.{state_of}
use Rattle.sg_buffer.proofs.Kept.{kept_here}
use Rattle.sg_buffer.proofs.Methods.{held, live_now}
use Rattle.sg_buffer.proofs.Toggling.{hung_once, hung_root, nothing_to_turn, told_view, toggled_here}
use Rattle.sg_buffer.proofs.buffers.Buffer.toggle.Goals as goal

pub turned_marks-requires : goal.turned_marks-requires
turned_marks-requires c = live_now (held c.self.inside) c.self.inside.nodes c.self.inside.history.room c.self.inside.page c.self.inside.standing c.self.invariant.0

pub returns-in_default-clause-told : goal.returns-in_default-clause-told
returns-in_default-clause-told c =
    let v = c.args.self.now in
    let e = nothing_to_turn (held c.self.inside) v c.self.view_is c.self.inside.nodes c.self.inside.history.room c.self.inside.page c.self.inside.standing c.self.invariant.0 c.args.mark c.in_default.ensures.turned in
    subst (λ o. MatchOption o ((false ≡ false) × (v ≡ v)) (λ st. (false ≡ true) × (state_of v ≡ st))) (sym e) (refl, refl)

pub invariant_of-self : goal.invariant_of-self
invariant_of-self c =
    let e = c.in_err-turned.ensures in
    ((kept_here (held c.self.inside) c.self.inside.nodes c.self.inside.history.room c.self.inside.page c.self.inside.standing c.self.invariant.0 c.remarked.new.terms e.spec e.view e.grown e.as_before c.args.self.now c.self.view_is).0, c.self.invariant.1 ∙ sym e.spec)

pub returns-in_err-turned-clause-err : goal.returns-in_err-turned-clause-err
returns-in_err-turned-clause-err c =
    let e = c.in_err-turned.ensures in
    let p = err_from_is_err_and c.from_residual-in_err-turned.result c.from_residual-in_err-turned.ensures.1 in
    rw p.1
    (kept_here (held c.self.inside) c.self.inside.nodes c.self.inside.history.room c.self.inside.page c.self.inside.standing c.self.invariant.0 c.remarked.new.terms e.spec e.view e.grown e.as_before c.args.self.now c.self.view_is).1

pub remember-requires-clause-roots : goal.remember-requires-clause-roots
remember-requires-clause-roots c =
    let b = c.in-Some.ensures in
    let e = c.in_ok-turned.ensures in
    subst (λ (s : Step). (n : NodeId) → times n (tops (s ∷ c.self.inside.history.past) c.self.inside.history.future) ≢ 0 → IsRoot (nodes c.remarked.new.terms) n) (sym c.marked-step.ensures)
    (hung_root (held c.self.inside) c.args.self.now c.self.view_is c.self.inside.nodes c.self.inside.history.room c.self.inside.page c.self.inside.standing c.self.invariant.0 c.args.mark
    c.in-Some.marks (record { turned = b.turned; operator = b.operator; low = b.scheme }) c.in_ok-before.before (told_view _ _ _ _ _ c.in_ok-before.ensures c.view.ensures) c.requires.alone c.requires.none c.remarked.new.terms c.facts.ensures e.spec e.view c.in_ok-turned.turned e.turned)

pub remember-requires-clause-once : goal.remember-requires-clause-once
remember-requires-clause-once c =
    let b = c.in-Some.ensures in
    let e = c.in_ok-turned.ensures in
    subst (λ (s : Step). (n : NodeId) → times n (tops (s ∷ c.self.inside.history.past) c.self.inside.history.future) ≤ 1) (sym c.marked-step.ensures)
    (hung_once (held c.self.inside) c.args.self.now c.self.view_is c.self.inside.nodes c.self.inside.history.room c.self.inside.page c.self.inside.standing c.self.invariant.0 c.args.mark
    c.in-Some.marks (record { turned = b.turned; operator = b.operator; low = b.scheme }) c.in_ok-before.before (told_view _ _ _ _ _ c.in_ok-before.ensures c.view.ensures) c.requires.alone c.requires.none c.remarked.new.terms c.facts.ensures e.spec e.view c.in_ok-turned.turned e.turned)

pub invariant_of-self-2 : goal.invariant_of-self-2
invariant_of-self-2 c =
    let b = c.in-Some.ensures in
    let e = c.in_ok-turned.ensures in
    let r = c.remember.ensures in (
      (toggled_here (held c.self.inside) c.args.self.now c.self.view_is c.self.inside.nodes c.self.inside.history.room c.self.inside.page c.self.inside.standing c.self.invariant.0 c.args.mark
          c.in-Some.marks (record { turned = b.turned; operator = b.operator; low = b.scheme }) c.in_ok-before.before (told_view _ _ _ _ _ c.in_ok-before.ensures c.view.ensures) c.requires.alone c.requires.none c.remarked.new.terms c.facts.ensures e.spec e.view c.in_ok-turned.turned e.turned
          c.in_ok-path.path c.in_ok-path.ensures c.marked-step.result c.marked-step.ensures c.remember.new.terms c.facts-2.ensures c.remember.new.history (record { past_is = r.past; future_is = r.future; room_is = r.room; dropped = r.dropped })).0,
      c.self.invariant.1 ∙ sym e.spec ∙ sym r.dropped.1.spec,
    )

pub returns-clause-told : goal.returns-clause-told
returns-clause-told c =
    let b = c.in-Some.ensures in
    let e = c.in_ok-turned.ensures in
    let r = c.remember.ensures in
    (toggled_here (held c.self.inside) c.args.self.now c.self.view_is c.self.inside.nodes c.self.inside.history.room c.self.inside.page c.self.inside.standing c.self.invariant.0 c.args.mark
    c.in-Some.marks (record { turned = b.turned; operator = b.operator; low = b.scheme }) c.in_ok-before.before (told_view _ _ _ _ _ c.in_ok-before.ensures c.view.ensures) c.requires.alone c.requires.none c.remarked.new.terms c.facts.ensures e.spec e.view c.in_ok-turned.turned e.turned
    c.in_ok-path.path c.in_ok-path.ensures c.marked-step.result c.marked-step.ensures c.remember.new.terms c.facts-2.ensures c.remember.new.history (record { past_is = r.past; future_is = r.future; room_is = r.room; dropped = r.dropped })).1
