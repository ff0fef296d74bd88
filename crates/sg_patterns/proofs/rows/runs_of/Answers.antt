use Rattle.std.proofs.Common.{◌≡◌, ◌-◌, ◌∷◌, [], length, sym, ap, subst, arith, length-append}
use Rattle.std.specs.Bool.{OnTrue}
use Rattle.sg_patterns.specs.Rows.{AreAlike, AreRuns}
use Rattle.sg_patterns.proofs.Barring.{barred-more}
use Rattle.sg_patterns.proofs.rows.runs_of.Goals as goal

pub loop-byte-preserved : goal.loop-byte-preserved
loop-byte-preserved c =
    let l = c.loop-byte in
    let p = c.args.program.now in
    let v = c.are_alike.result in
    let items = c.in_ok-push.ensures.items in
    let before : c.saturating_sub.result ≡ l.byte - 1 = omega (arith, c.saturating_sub.ensures) in
    record {
      each = omega (arith, ap length items, length-append l.alike.items (v ∷ []), l.invariant.each);
      runs = subst (AreRuns p) (sym items) (barred-more l.alike.items l.byte v (λ b. AreAlike p (b - 1) b) l.invariant.each l.invariant.runs (λ up. subst (λ r. OnTrue r (AreAlike p (l.byte - 1) l.byte)) up (subst (λ k. OnTrue c.are_alike.result (AreAlike p k l.byte)) before c.are_alike.ensures)));
    }
