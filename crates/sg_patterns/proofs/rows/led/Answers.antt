use Rattle.std.proofs.Common.{◌≡◌, arith, sym, ◌∙◌, subst}
use Rattle.std.specs.Prelude.{nat_eq}
use Rattle.sg_patterns.specs.Marks.{HasBegins}
use Rattle.sg_patterns.specs.Rows.{Leads, flags_of}
use Rattle.sg_patterns.proofs.Leading.{flags-at, leads-alike}
use Rattle.sg_patterns.proofs.rows.led.Goals as goal

pub returns-then-not-step-clause-next : goal.returns-then-not-step-clause-next
returns-then-not-step-clause-next c =
    let states = c.args.states.now.items in
    let same : flags_of states c.args.state ≡ c.as_slice.result.now = flags-at states c.args.state c.index.result.now (omega (arith, c.requires.within)) c.index.ensures ∙ sym c.as_slice.ensures.value in (
      c.step.new.finals,
      (c.mark_begins.new.begins, subst (λ f. HasBegins c.args.program.now (nat_eq c.args.state 0) f c.mark_begins.new.begins) (sym same) c.mark_begins.ensures, λ k less. c.step.ensures.finals k (omega arith)),
      λ k x less is leaf. c.if-not-step.ensures.dead k x (omega arith) is leaf,
    )

pub returns-in-Some-clause-next : goal.returns-in-Some-clause-next
returns-in-Some-clause-next c =
    let p = c.args.program.now in
    let old = c.args.states.now.items in
    let new = c.number_of.new.states.items in
    let same : flags_of old c.args.state ≡ c.as_slice.result.now = flags-at old c.args.state c.index.result.now (omega (arith, c.requires.within)) c.index.ensures ∙ sym c.as_slice.ensures.value in
    let kept : flags_of new c.args.state ≡ c.as_slice.result.now = c.in_ok-number.ensures.grows.kept c.args.state (omega (arith, c.requires.within)) ∙ same in
    let behind = rw c.in-Some.is at c.in_ok-number.ensures.behind in
    let found = rw c.in-Some.is at c.in_ok-number.ensures.found in
    let leads : Leads p (nat_eq c.args.state 0) c.args.byte (flags_of new c.args.state) c.step.new.finals = (c.mark_begins.new.begins, subst (λ f. HasBegins p (nat_eq c.args.state 0) f c.mark_begins.new.begins) (sym kept) c.mark_begins.ensures, λ k less. c.step.ensures.finals k (omega arith)) in
    (behind.0, omega (arith, behind.1), leads-alike p (nat_eq c.args.state 0) c.args.byte (flags_of new c.args.state) c.step.new.finals (flags_of new c.in-Some.number) c.requires.ordered (λ k less. found k (omega arith)) leads)
