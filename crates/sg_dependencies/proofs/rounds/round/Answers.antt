use Rattle.std.specs.Prelude.{◌⊎◌, ℕ, ◌<◌, [], true, length}
use Rattle.std.proofs.Common.{sym, ap, ◌∙◌, subst, get_or, arith}
use Rattle.std.proofs.lemmas.Bool.{false≢true}
use Rattle.std.proofs.lemmas.List.{get_or_default}
use Rattle.sg_dependencies.specs.Frames.{Frame}
use Rattle.sg_dependencies.specs.Rounds.{frame_at, no_frame}
use Rattle.sg_dependencies.specs.Waiting.{AreApart, Waits}
use Rattle.sg_dependencies.proofs.RoundSteps.{Settles, settles_at, round_gains, round_stays, round_over}
use Rattle.sg_dependencies.proofs.rounds.round.Goals as goal
use Rattle.sg_dependencies.proofs.rounds.round.Goals.{then-waiting-p+in_ok-settle+then-branch, then-waiting-p+in_ok-settle+else-branch, else-waiting-p}

pub loop-p-preserved : goal.loop-p-preserved
loop-p-preserved c =
    let frames = c.args.frames.now in
    let operators0 = c.args.operators.now in
    let phyla0 = c.args.phyla.now in
    let operators = c.loop-p.operators in
    let phyla = c.loop-p.phyla in
    let waiting = c.loop-p.waiting in
    let p = c.loop-p.p in
    let to = c.loop-p.invariant in
    let low : p < length frames = omega arith in
    let there : p < length operators = omega (arith, low, c.requires.fit.count, to.operators_alike.count) in
    let flag : p < length waiting = omega (arith, low, to.flags) in
    let frame = ap (λ (f : Frame). f.spots) (c.index-frames-p.is ∙ get_or_default frames p c.index-frames-p.result no_frame low) in
    elim c.if-waiting-p.branch [
      | then-waiting-p+in_ok-settle+then-branch w ↦
          let rows = w.settle.new.relation in
          let here : Waits waiting p = sym (get_or_default waiting p _ true flag) ∙ w.if-waiting-p.true in
          let s = settles_at frames operators phyla w.settle.new.phyla p w.as_slice.result.now (get_or operators p w.index-operators-p.result) rows w.in_ok-settle.field-0 low there (w.as_slice.ensures ∙ frame) (get_or_default operators p w.index-operators-p.result [] there)
          w.in_ok-settle.ensures.spreads w.in_ok-settle.ensures.joins w.in_ok-settle.ensures.size w.in_ok-settle.ensures.alike w.in_ok-settle.ensures.fewer w.in_ok-settle.ensures.stays in
          let calls : (q : ℕ) → q < length frames → Waits w.call.new.waiting q ⊎ AreApart (frame_at frames q).spots (frame_at frames p).spots =
          subst (λ xs. (q : ℕ) → q < length frames → Waits w.call.new.waiting q ⊎ AreApart (frame_at frames q).spots xs) (w.as_slice-then-branch.ensures ∙ frame) w.call.ensures.calls in
          rw (w.operators-is, w.phyla-is, w.waiting-is, w.gained-is)
          (round_gains frames operators0 phyla0 operators phyla w.settle.new.phyla waiting w.call.new.waiting c.loop-p.gained p rows to (subst (λ b. Settles frames operators phyla w.settle.new.phyla p rows b) w.if-branch.true s) here w.call.ensures.size w.call.ensures.stays calls)
      | then-waiting-p+in_ok-settle+else-branch w ↦
          let rows = w.settle.new.relation in
          let s = settles_at frames operators phyla w.settle.new.phyla p w.as_slice.result.now (get_or operators p w.index-operators-p.result) rows w.in_ok-settle.field-0 low there (w.as_slice.ensures ∙ frame) (get_or_default operators p w.index-operators-p.result [] there)
          w.in_ok-settle.ensures.spreads w.in_ok-settle.ensures.joins w.in_ok-settle.ensures.size w.in_ok-settle.ensures.alike w.in_ok-settle.ensures.fewer w.in_ok-settle.ensures.stays in
          rw (w.operators-is, w.phyla-is, w.waiting-is, w.gained-is)
          (round_stays frames operators0 phyla0 operators phyla w.settle.new.phyla waiting c.loop-p.gained p rows to (subst (λ b. Settles frames operators phyla w.settle.new.phyla p rows b) w.if-branch.false s))
      | else-waiting-p w ↦
          let not : Waits waiting p → ⊥ = λ t. false≢true (sym w.if-waiting-p.false ∙ get_or_default waiting p _ true flag ∙ t) in
          rw (w.operators-is, w.phyla-is, w.waiting-is, w.gained-is) (round_over frames operators0 phyla0 operators phyla waiting c.loop-p.gained p to not)
    ]
