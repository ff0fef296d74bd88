use Rattle.std.proofs.Common.{◌≡◌, ℕ, ◌∷◌, [], true, length, sym, ap, subst, arith, length-append}
use Rattle.std.specs.Prelude.{not}
use Rattle.std.specs.Bool.{OnFalse}
use Rattle.std.proofs.lemmas.Bool.{not-true}
use Rattle.sg_patterns.specs.Marks.{IsDead}
use Rattle.sg_patterns.specs.Flags.{flag_at}
use Rattle.sg_patterns.specs.Programs.{IsBarred}
use Rattle.sg_patterns.proofs.Barring.{dead-barred, barred-more}
use Rattle.sg_patterns.proofs.marks.barred_by.Goals as goal

pub loop-byte-preserved : goal.loop-byte-preserved
loop-byte-preserved c =
    let l = c.loop-byte in
    let p = c.args.program.now in
    let v = not c.step-alive.result in
    let items = c.in_ok-push.ensures.items in
    let long = length-append l.barred.items (v ∷ []) in
    let count = ap length items in
    record {
      each = omega (arith, count, long, l.invariant.each);
      barred = λ q h. subst (λ fs. (b : ℕ) → flag_at fs b ≡ true → IsBarred q b) (sym items) (barred-more l.barred.items l.byte v (IsBarred q) l.invariant.each (l.invariant.barred q h) (λ up.
          let dead = subst (λ r. OnFalse r (IsDead p (length p.nodes.items) c.step-alive.new.finals)) (not-true c.step-alive.result up) (subst (λ n. OnFalse c.step-alive.result (IsDead p n c.step-alive.new.finals)) (omega arith) c.step-alive.ensures.dead) in
          dead-barred p q c.clear.new.flags c.mark_begins.new.begins c.step-alive.new.finals l.byte h (λ k less. c.clear.ensures k (omega arith)) c.mark_begins.ensures (λ k less. c.step-alive.ensures.finals k (omega arith)) dead));
    }
