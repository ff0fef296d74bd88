use Rattle.std.proofs.Common.{ap, refl, sym, ◌∙◌}
use Rattle.std.proofs.lemmas.Bool.{false≢true}
use Rattle.std.proofs.lemmas.Result.{err_from_is_err_and}
use Rattle.sg_eval.specs.Journal.{now_of}
use Rattle.sg_undo.specs.Timeline.{Timeline}
use Rattle.sg_changes.specs.declared.step.Step.{Step}
use Rattle.sg_buffer.specs.Held.{state_of}
use Rattle.sg_buffer.proofs.Along.{first_step, gained_here, gone_here, may_go, no_step, noted_here, nothing_ahead, rest_of, some_ahead, steps_along}
use Rattle.sg_buffer.proofs.Kept.{kept_here}
use Rattle.sg_buffer.proofs.Methods.{held, way_there}
use Rattle.sg_buffer.proofs.buffers.Buffer.go_along.Goals as goal

pub returns-in_default-clause-went : goal.returns-in_default-clause-went
returns-in_default-clause-went c =
    let b = held c.self.inside in
    record {
      nothing = (
        (λ same. nothing_ahead b c.args.self.now c.self.view_is c.self.inside.nodes c.self.inside.history.room c.self.inside.page c.self.inside.standing c.self.invariant.0 c.args.direction
            (no_step (steps_along c.args.direction b) c.in_default.ensures)),
        (λ none. refl),
      );
      refused = λ same. (refl, refl);
      done = λ same. absurd (false≢true same);
      evaluated = λ same. absurd (false≢true same);
    }

pub step_along-requires-clause-may : goal.step_along-requires-clause-may
step_along-requires-clause-may c =
    let b = held c.self.inside in
    let steps = steps_along c.args.direction b in
    ((state_of b).term, may_go b c.self.inside.nodes c.self.inside.history.room c.self.inside.page c.self.inside.standing c.self.invariant.0 c.args.direction c.in-Some.step.now (rest_of steps) (first_step steps c.in-Some.step.now c.in-Some.ensures))

pub step_along-requires-clause-near : goal.step_along-requires-clause-near
step_along-requires-clause-near c = way_there (held c.self.inside) c.self.inside.nodes c.self.inside.history.room c.self.inside.page c.self.inside.standing c.self.invariant.0

pub invariant_of-self : goal.invariant_of-self
invariant_of-self c =
    let e = c.in_err-went.ensures in
    ((kept_here (held c.self.inside) c.self.inside.nodes c.self.inside.history.room c.self.inside.page c.self.inside.standing c.self.invariant.0 c.step_along.new.terms e.spec e.view e.grown e.as_before c.args.self.now c.self.view_is).0, c.self.invariant.1 ∙ sym e.spec)

pub returns-in_err-went-clause-as_before : goal.returns-in_err-went-clause-as_before
returns-in_err-went-clause-as_before c =
    let e = c.in_err-went.ensures in
    let p = err_from_is_err_and c.from_residual.result c.from_residual.ensures.1 in
    rw p.1
    (kept_here (held c.self.inside) c.self.inside.nodes c.self.inside.history.room c.self.inside.page c.self.inside.standing c.self.invariant.0 c.step_along.new.terms e.spec e.view e.grown e.as_before c.args.self.now c.self.view_is).1

pub returns-in_err-went-clause-noted : goal.returns-in_err-went-clause-noted
returns-in_err-went-clause-noted c =
    let steps = steps_along c.args.direction (held c.self.inside) in
    let p = err_from_is_err_and c.from_residual.result c.from_residual.ensures.1 in
    rw p.1
    (noted_here (held c.self.inside) c.args.self.now c.self.view_is c.self.inside.nodes c.self.inside.history.room c.self.inside.page c.self.inside.standing c.self.invariant.0 c.args.direction
    c.in-Some.step.now (rest_of steps) (first_step steps c.in-Some.step.now c.in-Some.ensures) (now_of c.args.journal.now) (now_of c.step_along.new.journal) c.in_err-went.ensures.some)

pub returns-in_err-went-clause-some : goal.returns-in_err-went-clause-some
returns-in_err-went-clause-some c =
    let steps = steps_along c.args.direction (held c.self.inside) in
    let p = err_from_is_err_and c.from_residual.result c.from_residual.ensures.1 in
    rw p.1
    (some_ahead (held c.self.inside) c.args.self.now c.self.view_is c.self.inside.nodes c.self.inside.history.room c.self.inside.page c.self.inside.standing c.self.invariant.0 c.args.direction
    c.in-Some.step.now (rest_of steps) (first_step steps c.in-Some.step.now c.in-Some.ensures))

pub invariant_of-self-2 : goal.invariant_of-self-2
invariant_of-self-2 c =
    let steps = steps_along c.args.direction (held c.self.inside) in
    let s = c.in-Some.step.now in
    let first = first_step steps s c.in-Some.ensures in
    let e = c.in_ok-went.ensures in
    let h = c.put_over.ensures s (rest_of steps) first in (
      (gone_here (held c.self.inside) c.args.self.now c.self.view_is c.self.inside.nodes c.self.inside.history.room c.self.inside.page c.self.inside.standing c.self.invariant.0 c.args.direction
          s (rest_of steps) first c.requires.none c.step_along.new.terms c.facts-2.ensures e.spec e.view c.in_ok-went.went e.stepped c.put_over.new.history
          (ap (λ (t : Timeline Step). t.past) h) (ap (λ (t : Timeline Step). t.future) h) (ap (λ (t : Timeline Step). t.room) h)).0,
      c.self.invariant.1 ∙ sym e.spec,
    )

pub returns-clause-went : goal.returns-clause-went
returns-clause-went c =
    let steps = steps_along c.args.direction (held c.self.inside) in
    let s = c.in-Some.step.now in
    let first = first_step steps s c.in-Some.ensures in
    let e = c.in_ok-went.ensures in
    let h = c.put_over.ensures s (rest_of steps) first in
    record {
      nothing = (
        (λ never. absurd (cc never)),
        (λ none. absurd (some_ahead (held c.self.inside) c.args.self.now c.self.view_is c.self.inside.nodes c.self.inside.history.room c.self.inside.page c.self.inside.standing c.self.invariant.0 c.args.direction s (rest_of steps) first none)),
      );
      refused = λ never. absurd (cc never);
      done = λ same. (gone_here (held c.self.inside) c.args.self.now c.self.view_is c.self.inside.nodes c.self.inside.history.room c.self.inside.page c.self.inside.standing c.self.invariant.0 c.args.direction
          s (rest_of steps) first c.requires.none c.step_along.new.terms c.facts-2.ensures e.spec e.view c.in_ok-went.went e.stepped c.put_over.new.history
          (ap (λ (t : Timeline Step). t.past) h) (ap (λ (t : Timeline Step). t.future) h) (ap (λ (t : Timeline Step). t.room) h)).1;
      evaluated = λ same. gained_here (held c.self.inside) c.args.self.now c.self.view_is c.self.inside.nodes c.self.inside.history.room c.self.inside.page c.self.inside.standing c.self.invariant.0 c.args.direction
          s (rest_of steps) first c.step_along.new.terms c.in_ok-went.went.root (now_of c.args.journal.now) (now_of c.step_along.new.journal) e.noted;
    }
