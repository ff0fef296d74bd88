use Rattle.std.proofs.Common.{◌≡◌, ◌∷◌, [], length, arith, ap, sym, ◌∙◌, subst, length-append}
use Rattle.sg_patterns.specs.Flags.{flag_at}
use Rattle.sg_patterns.specs.Rows.{AreNext}
use Rattle.sg_patterns.proofs.Leading.{next-more}
use Rattle.sg_patterns.proofs.rows.rows_of.Goals as goal

pub entries-preserved : goal.entries-preserved
entries-preserved c =
    let p = c.args.program.now in
    let l = c.entries in
    let old = l.states.items in
    let new = c.entry.new.states.items in
    let w = c.in-Some.more in
    let items = c.in_ok-push-in-Some.ensures.items in
    let grows = c.in_ok-more.ensures.grows in
    let led = rw c.in-Some.is at c.in_ok-more.ensures.next in
    let done : c.as_slice-done.result.now ≡ l.next.items = c.as_slice-done.ensures.value in
    record {
      some = omega (arith, grows.longer, l.invariant.some);
      few = omega (arith, c.in_ok-more.ensures.few);
      within = omega (arith, grows.longer, ap length items, length-append l.next.items (w ∷ []), c.entries-test.true);
      first = λ k. ap (λ f. flag_at f k) (grows.kept 0 (omega (arith, l.invariant.some))) ∙ l.invariant.first k;
      next = subst (AreNext p new) (sym items) (next-more p old new l.next.items w l.invariant.next grows (omega (arith, c.entries-test.true)) (λ s b is less. led s b (ap length done ∙ is) less));
    }

pub returns-in-None : goal.returns-in-None
returns-in-None c = c.none.ensures c.args.program.now
