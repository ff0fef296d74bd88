use Rattle.std.proofs.Common.{◌≡◌, ◌+◌, max, length, arith, ap, sym, subst, ◌∙◌}
use Rattle.std.specs.List.{All}
use Rattle.sg_kinds.specs.Lexemes.{Lexeme}
use Rattle.sg_patterns.specs.LongestMatch.{IsLength, Pattern}
use Rattle.sg_patterns.specs.Programs.{IsProgram}
use Rattle.sg_patterns.specs.Spent.{AreSpentIf, HasSize}
use Rattle.sg_patterns.proofs.LongestSoFar.{Matched, matched-none, matched-all, all-spent, matched-spent}
use Rattle.sg_patterns.proofs.Failing.{spent-if, if-spent, if-on, if-final, stepped}
use Rattle.sg_patterns.proofs.marks.longest_by_marks.Goals as goal
use Rattle.sg_patterns.proofs.marks.longest_by_marks.Goals.{then-flag, else-flag+else-meets}

pub loop-place-init : goal.loop-place-init
loop-place-init c = record {
  sized = c.requires.known.sized;
  matched = λ p h. matched-none c.args.program.now c.args.text.now h.tree h.stands c.clear.new.flags c.args.at (λ k less. c.clear.ensures k (omega arith));
  spent = λ p h. spent-if c.args.text.now h.tree (c.args.at + 1) c.args.at c.clear.new.flags c.args.failures.now (c.requires.known.spent p h);
}

pub returns-then-not-step-clause-longest : goal.returns-then-not-step-clause-longest
returns-then-not-step-clause-longest c p h =
    let l = c.loop-place in
    let s = stepped c.args.program.now c.args.text.now p h l.finals c.mark_begins.new.begins c.step.new.finals c.args.at l.place l.longest (l.invariant.matched p h) (omega arith) (omega arith) c.mark_begins.ensures (λ k less. c.step.ensures.finals k (omega arith)) in
    s.dead-length (λ k x less is leaf. c.if-not-step.ensures.dead k x (omega arith) is leaf)

pub returns-then-not-step-clause-known : goal.returns-then-not-step-clause-known
returns-then-not-step-clause-known c =
    let l = c.loop-place in
    record {
      sized = l.invariant.sized;
      spent = λ p h.
          let s = stepped c.args.program.now c.args.text.now p h l.finals c.mark_begins.new.begins c.step.new.finals c.args.at l.place l.longest (l.invariant.matched p h) (omega arith) (omega arith) c.mark_begins.ensures (λ k less. c.step.ensures.finals k (omega arith)) in
          if-spent c.args.text.now h.tree (l.place + 1) l.place l.finals l.failures (l.invariant.spent p h) (s.dead-spent (λ k x less is leaf. c.if-not-step.ensures.dead k x (omega arith) is leaf));
    }

pub returns-then-meets-clause-longest : goal.returns-then-meets-clause-longest
returns-then-meets-clause-longest c p h =
    let l = c.loop-place in
    let text = c.args.text.now in
    let prog = c.args.program.now in
    let fs = c.step.new.finals in
    let s = stepped prog text p h l.finals c.mark_begins.new.begins fs c.args.at l.place l.longest (l.invariant.matched p h) (omega arith) (omega arith) c.mark_begins.ensures (λ k less. c.step.ensures.finals k (omega arith)) in
    let off = sym c.flag.ensures ∙ c.if-flag.false in
    let known = if-on text h.tree (l.place + 1) l.place (l.place + 1) l.finals fs l.failures (s.back off) (l.invariant.spent p h) in
    subst (λ q. IsLength (Pattern q) text c.args.at l.longest) h.is_pattern
    (matched-spent prog text h.tree h.stands fs c.args.at (l.place + 1) l.longest (s.on off) (omega arith) (c.if-meets.ensures.met prog p h text l.invariant.sized known))

pub returns-then-meets-clause-known : goal.returns-then-meets-clause-known
returns-then-meets-clause-known c =
    let l = c.loop-place in
    let text = c.args.text.now in
    let prog = c.args.program.now in
    let fs = c.step.new.finals in
    let off = sym c.flag.ensures ∙ c.if-flag.false in
    record {
      sized = c.if-meets.ensures.sized (length prog.nodes.items) l.invariant.sized;
      spent = λ p h.
          let s = stepped prog text p h l.finals c.mark_begins.new.begins fs c.args.at l.place l.longest (l.invariant.matched p h) (omega arith) (omega arith) c.mark_begins.ensures (λ k less. c.step.ensures.finals k (omega arith)) in
          let known = if-on text h.tree (l.place + 1) l.place (l.place + 1) l.finals fs l.failures (s.back off) (l.invariant.spent p h) in
          if-spent text h.tree (l.place + 1 + 1) (l.place + 1) fs c.meets.new.self (c.if-meets.ensures.kept prog p h text l.invariant.sized known) (c.if-meets.ensures.met prog p h text l.invariant.sized known);
    }

pub loop-place-preserved : goal.loop-place-preserved
loop-place-preserved c =
    let l = c.loop-place in
    let text = c.args.text.now in
    let prog = c.args.program.now in
    let fs = c.step.new.finals in
    let s = λ (p : Lexeme) (h : IsProgram prog p). stepped prog text p h l.finals c.mark_begins.new.begins fs c.args.at l.place l.longest (l.invariant.matched p h) (omega arith) (omega arith) c.mark_begins.ensures (λ k less. c.step.ensures.finals k (omega arith)) in
    elim c.if-flag.branch [
      | then-flag w ↦
          let marked = ap (λ x. x.checkpoints) w.failures-is in
          let after : c.if-flag.failures.after ≡ max l.failures.after (l.place + 1) = ap (λ x. x.after) w.failures-is ∙ w.max-failures.ensures in record {
            sized = subst (λ v. All (λ d. length d.flags.items ≡ length prog.nodes.items) v.items) (sym marked) l.invariant.sized;
            matched = λ p h. (s p h).final (sym c.flag.ensures ∙ w.if-flag.true) c.if-flag.longest (omega arith);
            spent = λ p h. if-final text h.tree (l.place + 1) l.place (l.place + 1) l.finals fs l.failures c.if-flag.failures marked (omega (arith, after)) (omega (arith, after)) (l.invariant.spent p h);
          }
      | else-flag+else-meets w ↦ let off = sym c.flag.ensures ∙ w.if-flag.false in record {
        sized = subst (HasSize (length prog.nodes.items)) (sym w.failures-is) (w.meets.ensures.sized (length prog.nodes.items) l.invariant.sized);
        matched = λ p h. subst (λ n. Matched text h.tree fs c.args.at (l.place + 1) n) (sym w.longest-is) ((s p h).on off);
        spent = λ p h. subst (AreSpentIf text h.tree (l.place + 1 + 1) (l.place + 1) fs) (sym w.failures-is)
            (w.meets.ensures.kept prog p h text l.invariant.sized (if-on text h.tree (l.place + 1) l.place (l.place + 1) l.finals fs l.failures ((s p h).back off) (l.invariant.spent p h)));
      }
    ]

pub returns-clause-longest : goal.returns-clause-longest
returns-clause-longest c p h = subst (λ q. IsLength (Pattern q) c.args.text.now c.args.at c.loop-place.longest) h.is_pattern (matched-all c.args.program.now c.args.text.now h.tree h.stands c.loop-place.finals c.args.at c.loop-place.place c.loop-place.longest (c.loop-place.invariant.matched p h) (omega arith))

pub returns-clause-known : goal.returns-clause-known
returns-clause-known c =
    let l = c.loop-place in
    record {
      sized = l.invariant.sized;
      spent = λ p h. if-spent c.args.text.now h.tree (l.place + 1) l.place l.finals l.failures (l.invariant.spent p h) (all-spent c.args.program.now c.args.text.now h.tree h.stands l.finals c.args.at l.place l.longest (l.invariant.matched p h) (omega arith));
    }
