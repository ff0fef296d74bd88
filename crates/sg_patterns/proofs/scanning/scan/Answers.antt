use Rattle.std.proofs.Common.{◌+◌, arith, ap, sym, ◌∙◌, subst}
use Rattle.sg_patterns.specs.Scan.{Scanned, start, skipped, taken}
use Rattle.sg_patterns.specs.Spent.{HaveFailures}
use Rattle.sg_patterns.proofs.InText.{longest-within}
use Rattle.sg_patterns.proofs.scanning.scan.Goals as goal
use Rattle.sg_patterns.proofs.scanning.scan.Goals.{then-not-is_blank+in_ok-push, else-not-is_blank}

pub loop-at-init : goal.loop-at-init
loop-at-init c = (omega arith, subst (Scanned c.args.all.now c.args.text.now 0) (sym c.new-tokens.ensures.items) start, subst (HaveFailures c.programs-programs.result.now c.args.text.now) (sym c.as_mut_slice-failures.ensures.value) (c.in_ok-failures.ensures c.args.text.now))

pub overflow_add-all : goal.overflow_add-all
overflow_add-all c =
    let w = longest-within c.args.all.now c.args.text.now c.loop-at.at c.in-Some.number c.in-Some.len c.in-Some.ensures.longest in
    omega (arith, w, c.args.all.now.few)

pub overflow_cast-all : goal.overflow_cast-all
overflow_cast-all c =
    let w = longest-within c.args.all.now c.args.text.now c.loop-at.at c.in-Some.number c.in-Some.len c.in-Some.ensures.longest in
    omega (arith, w, c.args.all.now.few)

pub overflow_add-at : goal.overflow_add-at
overflow_add-at c =
    let w = longest-within c.args.all.now c.args.text.now c.loop-at.at c.in-Some.number c.in-Some.len c.in-Some.ensures.longest in
    omega (arith, w)

pub overflow_add-at-in-loop-at : goal.overflow_add-at-in-loop-at
overflow_add-at-in-loop-at c =
    let w = longest-within c.args.all.now c.args.text.now c.loop-at.at c.in-Some.number c.in-Some.len c.in-Some.ensures.longest in
    omega (arith, w)

pub loop-at-preserved : goal.loop-at-preserved
loop-at-preserved c =
    let w = longest-within c.args.all.now c.args.text.now c.loop-at.at c.in-Some.number c.in-Some.len c.in-Some.ensures.longest in
    let l = c.args.all.now in
    let ts = c.loop-at.tokens.items in (
      w.0,
      elim c.if-not-is_blank.branch [
        | then-not-is_blank+in_ok-push v ↦ subst (Scanned l c.args.text.now (c.loop-at.at + c.in-Some.len)) (sym (ap (λ t. t.items) v.tokens-is ∙ v.in_ok-push.ensures.items)) (taken c.loop-at.at c.in-Some.number c.in-Some.len ts c.loop-at.invariant.1 c.in-Some.ensures.longest (sym c.is_blank.ensures ∙ v.if-not-is_blank.true))
        | else-not-is_blank v ↦ subst (Scanned l c.args.text.now (c.loop-at.at + c.in-Some.len)) (sym (ap (λ t. t.items) v.tokens-is)) (skipped c.loop-at.at c.in-Some.number c.in-Some.len ts c.loop-at.invariant.1 c.in-Some.ensures.longest (sym c.is_blank.ensures ∙ v.if-not-is_blank.false))
      ],
      c.in-Some.ensures.known,
    )
