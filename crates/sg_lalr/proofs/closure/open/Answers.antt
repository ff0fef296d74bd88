use Rattle.std.proofs.Common.{◌≡◌, ℕ, ◌+◌, ◌<◌, true, List, [], ◌∷◌, ◌++◌, sym, ap, ◌∙◌, subst, arith, append_assoc, length, get_or, take}
use Rattle.std.proofs.Math.ListN.{set}
use Rattle.std.proofs.lemmas.Bool.{not-true, not-false, false≢true}
use Rattle.std.proofs.lemmas.List.{length-set, get_or_default, take_all}
use Rattle.sg_sets.specs.Members.{has}
use Rattle.sg_lalr.specs.Closure.{AreOpened}
use Rattle.sg_lalr.proofs.OpeningLemmas.{GainsAll, opened-new, opened-old, gains-more}
use Rattle.sg_lalr.proofs.closure.open.Goals as goal
use Rattle.sg_lalr.proofs.closure.open.Goals.{then-insert+in_ok-push, else-insert}

-- a list that has grown by one more
kept-more : (old now next : List ℕ) (p : ℕ) → next ≡ now ++ p ∷ [] → (more : List ℕ) × (now ≡ old ++ more) → (more : List ℕ) × (next ≡ old ++ more)
kept-more old now next p is keeps = (keeps.0 ++ p ∷ [], is ∙ ap (λ l. l ++ p ∷ []) keeps.1 ∙ append_assoc old keeps.0 (p ∷ []))

pub loop-p-preserved : goal.loop-p-preserved
loop-p-preserved c =
    let list = c.args.list.now in
    let k = c.loop-p.p-index in
    let p : ℕ = get_or list k 0 in
    let there = c.loop-p.there in
    let inv = c.loop-p.invariant in
    let wide = inv.width in
    let fits = c.requires.within k 0 c.loop-p-test.true in
    let low : p < length there = omega (arith, fits, wide) in
    let next : c.insert.new.self ≡ set there p true = c.insert.ensures.gains in
    record {
      width = ap length next ∙ length-set there p true ∙ wide;
      opened = subst (λ s. AreOpened s c.if-insert.opened.items) (sym next) (elim c.if-insert.branch [
        | then-insert+in_ok-push w ↦
            let absent = not-true (has there p) (sym c.insert.ensures.absent ∙ w.if-insert.true) in
            subst (AreOpened (set there p true)) (sym (ap (λ v. v.items) w.opened-is ∙ w.in_ok-push.ensures.items)) (opened-new there c.loop-p.opened.items p low (λ h. false≢true (sym absent ∙ h)) inv.opened)
        | else-insert w ↦ subst (AreOpened (set there p true)) (sym (ap (λ v. v.items) w.opened-is)) (opened-old there c.loop-p.opened.items p low (not-false (has there p) (sym c.insert.ensures.absent ∙ w.if-insert.false)) inv.opened)
      ]);
      keeps = elim c.if-insert.branch [
        | then-insert+in_ok-push w ↦ rw w.opened-is (kept-more c.args.opened.now.items c.loop-p.opened.items w.push.new.self.items p w.in_ok-push.ensures.items inv.keeps)
        | else-insert w ↦ rw w.opened-is inv.keeps
      ];
      gains = subst (λ s. GainsAll c.args.there.now s (take (k + 1) list)) (sym next) (gains-more c.args.there.now there list k p c.loop-p-test.true (get_or_default list k 0 p c.loop-p-test.true) low inv.gains);
    }

pub returns-clause-gains : goal.returns-clause-gains
returns-clause-gains c = subst (GainsAll c.args.there.now c.loop-p.there) (take_all c.loop-p.p-index c.args.list.now c.loop-p-test.false) c.loop-p.invariant.gains
