use Rattle.std.proofs.Common.{◌≡◌, ◌+◌, max, length, arith, ap, sym, subst, ◌∙◌}
use Rattle.std.specs.List.{All}
use Rattle.sg_kinds.specs.Lexemes.{Lexeme}
use Rattle.sg_patterns.specs.LongestMatch.{IsLength, Pattern}
use Rattle.sg_patterns.specs.Programs.{IsProgram}
use Rattle.sg_patterns.specs.Rows.{flags_of}
use Rattle.sg_patterns.specs.Spent.{AreSpentIf, HasSize}
use Rattle.sg_patterns.proofs.LongestSoFar.{Matched, matched-none, matched-all, all-spent, matched-spent}
use Rattle.sg_patterns.proofs.Failing.{spent-if, if-spent, if-on, if-final}
use Rattle.sg_patterns.proofs.Leading.{dead-is, flags-at, led-dead, led-to, next-within, starts-at, starts-on}
use Rattle.sg_patterns.proofs.rows.longest_by_rows.Goals as goal
use Rattle.sg_patterns.proofs.rows.longest_by_rows.Goals.{then-flag, else-flag+else-meets}

pub loop-place-init : goal.loop-place-init
loop-place-init c =
    let prog = c.args.program.now in
    let states = prog.rows.states.items in
    record {
      within = omega (arith, c.requires.some);
      starts = starts-at c.args.at;
      sized = c.requires.known.sized;
      matched = λ p h. matched-none prog c.args.text.now h.tree h.stands (flags_of states 0) c.args.at (λ k less. c.requires.ordered.rows.first k);
      spent = λ p h. spent-if c.args.text.now h.tree (c.args.at + 1) c.args.at (flags_of states 0) c.args.failures.now (c.requires.known.spent p h);
    }

pub returns-in_default-clause-longest : goal.returns-in_default-clause-longest
returns-in_default-clause-longest c p h =
    let l = c.loop-place in
    let d = led-dead c.args.program.now c.requires.ordered.rows c.args.text.now l.state l.place l.invariant.within (omega (arith, c.type_inv.text l.place)) p h c.args.at l.longest (l.invariant.matched p h) (omega arith) (omega arith) l.invariant.starts (sym (dead-is c.next_at.result c.in_default.not-To) ∙ c.next_at.ensures) in
    d.1.dead-length d.2

pub returns-in_default-clause-known : goal.returns-in_default-clause-known
returns-in_default-clause-known c =
    let l = c.loop-place in
    record {
      sized = l.invariant.sized;
      spent = λ p h.
          let d = led-dead c.args.program.now c.requires.ordered.rows c.args.text.now l.state l.place l.invariant.within (omega (arith, c.type_inv.text l.place)) p h c.args.at l.longest (l.invariant.matched p h) (omega arith) (omega arith) l.invariant.starts (sym (dead-is c.next_at.result c.in_default.not-To) ∙ c.next_at.ensures) in
          if-spent c.args.text.now h.tree (l.place + 1) l.place (flags_of c.args.program.now.rows.states.items l.state) l.failures (l.invariant.spent p h) (d.1.dead-spent d.2);
    }

pub returns-then-meets-clause-longest : goal.returns-then-meets-clause-longest
returns-then-meets-clause-longest c p h =
    let l = c.loop-place in
    let text = c.args.text.now in
    let prog = c.args.program.now in
    let states = prog.rows.states.items in
    let fs = c.as_slice-flags.result.now in
    let there = next-within prog c.requires.ordered.rows text l.state l.place l.invariant.within (omega (arith, c.type_inv.text l.place)) c.in-To.next c.in-To.ensures in
    let same : flags_of states c.in-To.next ≡ fs = flags-at states c.in-To.next c.index.result.now there.1 c.index.ensures ∙ sym c.as_slice-flags.ensures.value in
    let s = led-to prog c.requires.ordered.rows text l.state l.place l.invariant.within (omega (arith, c.type_inv.text l.place)) p h c.args.at l.longest (l.invariant.matched p h) (omega arith) (omega arith) l.invariant.starts c.in-To.next fs c.in-To.ensures same in
    let off = sym c.flag.ensures ∙ c.if-flag.false in
    let known = if-on text h.tree (l.place + 1) l.place (l.place + 1) (flags_of states l.state) fs l.failures (s.back off) (l.invariant.spent p h) in
    subst (λ q. IsLength (Pattern q) text c.args.at l.longest) h.is_pattern
    (matched-spent prog text h.tree h.stands fs c.args.at (l.place + 1) l.longest (s.on off) (omega arith) (c.if-meets.ensures.met prog p h text l.invariant.sized known))

pub returns-then-meets-clause-known : goal.returns-then-meets-clause-known
returns-then-meets-clause-known c =
    let l = c.loop-place in
    let text = c.args.text.now in
    let prog = c.args.program.now in
    let states = prog.rows.states.items in
    let fs = c.as_slice-flags.result.now in
    let there = next-within prog c.requires.ordered.rows text l.state l.place l.invariant.within (omega (arith, c.type_inv.text l.place)) c.in-To.next c.in-To.ensures in
    let same : flags_of states c.in-To.next ≡ fs = flags-at states c.in-To.next c.index.result.now there.1 c.index.ensures ∙ sym c.as_slice-flags.ensures.value in
    let off = sym c.flag.ensures ∙ c.if-flag.false in
    record {
      sized = c.if-meets.ensures.sized (length prog.nodes.items) l.invariant.sized;
      spent = λ p h.
          let s = led-to prog c.requires.ordered.rows text l.state l.place l.invariant.within (omega (arith, c.type_inv.text l.place)) p h c.args.at l.longest (l.invariant.matched p h) (omega arith) (omega arith) l.invariant.starts c.in-To.next fs c.in-To.ensures same in
          let known = if-on text h.tree (l.place + 1) l.place (l.place + 1) (flags_of states l.state) fs l.failures (s.back off) (l.invariant.spent p h) in
          if-spent text h.tree (l.place + 1 + 1) (l.place + 1) fs c.meets.new.self (c.if-meets.ensures.kept prog p h text l.invariant.sized known) (c.if-meets.ensures.met prog p h text l.invariant.sized known);
    }

pub loop-place-preserved : goal.loop-place-preserved
loop-place-preserved c =
    let l = c.loop-place in
    let text = c.args.text.now in
    let prog = c.args.program.now in
    let states = prog.rows.states.items in
    let n = length prog.nodes.items in
    let fs = c.as_slice-flags.result.now in
    let there = next-within prog c.requires.ordered.rows text l.state l.place l.invariant.within (omega (arith, c.type_inv.text l.place)) c.in-To.next c.in-To.ensures in
    let same : flags_of states c.in-To.next ≡ fs = flags-at states c.in-To.next c.index.result.now there.1 c.index.ensures ∙ sym c.as_slice-flags.ensures.value in
    let s = λ (p : Lexeme) (h : IsProgram prog p). led-to prog c.requires.ordered.rows text l.state l.place l.invariant.within (omega (arith, c.type_inv.text l.place)) p h c.args.at l.longest (l.invariant.matched p h) (omega arith) (omega arith) l.invariant.starts c.in-To.next fs c.in-To.ensures same in
    elim c.if-flag.branch [
      | then-flag w ↦
          let marked = ap (λ x. x.checkpoints) w.failures-is in
          let after : c.if-flag.failures.after ≡ max l.failures.after (l.place + 1) = ap (λ x. x.after) w.failures-is ∙ w.max-failures.ensures in record {
            within = there.1;
            starts = starts-on l.place c.args.at c.in-To.next (omega arith) there.0;
            sized = subst (λ v. All (λ d. length d.flags.items ≡ n) v.items) (sym marked) l.invariant.sized;
            matched = λ p h. subst (λ f. Matched text h.tree f c.args.at (l.place + 1) c.if-flag.longest) (sym same) ((s p h).final (sym c.flag.ensures ∙ w.if-flag.true) c.if-flag.longest (omega arith));
            spent = λ p h. subst (λ f. AreSpentIf text h.tree (l.place + 1 + 1) (l.place + 1) f c.if-flag.failures) (sym same) (if-final text h.tree (l.place + 1) l.place (l.place + 1) (flags_of states l.state) fs l.failures c.if-flag.failures marked (omega (arith, after)) (omega (arith, after)) (l.invariant.spent p h));
          }
      | else-flag+else-meets w ↦ let off = sym c.flag.ensures ∙ w.if-flag.false in record {
        within = there.1;
        starts = starts-on l.place c.args.at c.in-To.next (omega arith) there.0;
        sized = subst (HasSize n) (sym w.failures-is) (w.meets.ensures.sized n l.invariant.sized);
        matched = λ p h. subst (λ f. Matched text h.tree f c.args.at (l.place + 1) c.if-flag.longest) (sym same) (subst (λ k. Matched text h.tree fs c.args.at (l.place + 1) k) (sym w.longest-is) ((s p h).on off));
        spent = λ p h. subst (λ f. AreSpentIf text h.tree (l.place + 1 + 1) (l.place + 1) f c.if-flag.failures) (sym same)
            (subst (AreSpentIf text h.tree (l.place + 1 + 1) (l.place + 1) fs) (sym w.failures-is)
            (w.meets.ensures.kept prog p h text l.invariant.sized (if-on text h.tree (l.place + 1) l.place (l.place + 1) (flags_of states l.state) fs l.failures ((s p h).back off) (l.invariant.spent p h))));
      }
    ]

pub returns-clause-longest : goal.returns-clause-longest
returns-clause-longest c p h =
    let l = c.loop-place in
    subst (λ q. IsLength (Pattern q) c.args.text.now c.args.at l.longest) h.is_pattern (matched-all c.args.program.now c.args.text.now h.tree h.stands (flags_of c.args.program.now.rows.states.items l.state) c.args.at l.place l.longest (l.invariant.matched p h) (omega arith))

pub returns-clause-known : goal.returns-clause-known
returns-clause-known c =
    let l = c.loop-place in
    let f = flags_of c.args.program.now.rows.states.items l.state in
    record {
      sized = l.invariant.sized;
      spent = λ p h. if-spent c.args.text.now h.tree (l.place + 1) l.place f l.failures (l.invariant.spent p h) (all-spent c.args.program.now c.args.text.now h.tree h.stands f c.args.at l.place l.longest (l.invariant.matched p h) (omega arith));
    }
