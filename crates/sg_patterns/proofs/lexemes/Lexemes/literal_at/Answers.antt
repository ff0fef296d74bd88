use Rattle.std.proofs.Common.{◌≡◌, suc, ◌+◌, length, get_or, drop, ◌∷◌, arith, ap, sym, ◌∙◌, subst, refl, Some, ◌&&◌}
use Rattle.std.specs.Prelude.{slice_get, nat_lt, nat_eq}
use Rattle.std.specs.List.{starts_with}
use Rattle.sg_patterns.specs.LongestMatch.{len_of}
use Rattle.std.proofs.Math.Seq.{drop-cons}
use Rattle.std.proofs.lemmas.List.{drop_all, take_rest}
use Rattle.sg_patterns.proofs.Trying.{Tried, tried-next, tried-all, tried-kept, tried-better, next-within, next-is}
use Rattle.sg_patterns.proofs.lexemes.Lexemes.literal_at.Goals as goal
use Rattle.sg_patterns.proofs.lexemes.Lexemes.literal_at.Goals.{then-is_longer, else-is_longer}

pub item-requires : goal.item-requires
item-requires c =
    let all = c.args.self.now.literals in
    let row = c.as_slice-row.result.now in
    let i = c.loop-number.number-index in
    let split : drop i row ≡ get_or row i 0 ∷ drop (suc i) row = drop-cons row i 0 (omega arith) in
    let n = tried-next c.args.text.now c.args.at (get_or c.args.text.now c.args.at 0) c.requires refl all (get_or row i 0) (drop (suc i) row) c.loop-number.best (subst (λ r. Tried c.args.text.now c.args.at (get_or c.args.text.now c.args.at 0) all r c.loop-number.best) split c.loop-number.invariant) in
    let within = next-within c.args.text.now c.args.at (get_or c.args.text.now c.args.at 0) all (get_or row i 0) (drop (suc i) row) c.loop-number.best n in
    omega (arith, within, ap length c.as_slice.ensures)

pub loop-number-preserved : goal.loop-number-preserved
loop-number-preserved c =
    let all = c.args.self.now.literals in
    let row = c.as_slice-row.result.now in
    let i = c.loop-number.number-index in
    let split : drop i row ≡ get_or row i 0 ∷ drop (suc i) row = drop-cons row i 0 (omega arith) in
    let n = tried-next c.args.text.now c.args.at (get_or c.args.text.now c.args.at 0) c.requires refl all (get_or row i 0) (drop (suc i) row) c.loop-number.best (subst (λ r. Tried c.args.text.now c.args.at (get_or c.args.text.now c.args.at 0) all r c.loop-number.best) split c.loop-number.invariant) in
    let x = get_or row i 0 in
    let b = get_or c.args.text.now c.args.at 0 in
    let there : slice_get all x ≡ Some c.item.result.now = ap (λ ls. slice_get ls x) (sym c.as_slice.ensures) ∙ c.item.ensures in
    let literal : c.as_slice-literal.result.now ≡ n.s = c.as_slice-literal.ensures ∙ next-is c.args.text.now c.args.at b all x (drop (suc i) row) c.loop-number.best n c.item.result.now there in
    let longer : c.is_longer.result ≡ (nat_lt (len_of c.loop-number.best) (length n.s) && starts_with nat_eq (drop c.args.at c.args.text.now) n.s) = c.is_longer.ensures ∙ (λ j. nat_lt (c.len_of.ensures j) (length (literal j)) && starts_with nat_eq (take_rest c.args.text.now c.args.at j) (literal j)) in
    let next : suc i ≡ i + 1 = omega arith in
    subst (λ k. Tried c.args.text.now c.args.at b all (drop k row) c.if-is_longer.best) next
    (elim c.if-is_longer.branch [
      | then-is_longer w ↦ subst (Tried c.args.text.now c.args.at b all (drop (suc i) row)) (sym (w.best-is ∙ ap (λ s. Some (x, length s)) literal)) (tried-better c.args.text.now c.args.at b c.requires refl all x (drop (suc i) row) c.loop-number.best n (sym longer ∙ w.if-is_longer.true))
      | else-is_longer w ↦ subst (Tried c.args.text.now c.args.at b all (drop (suc i) row)) (sym w.best-is) (tried-kept c.args.text.now c.args.at b c.requires refl all x (drop (suc i) row) c.loop-number.best n (sym longer ∙ w.if-is_longer.false))
    ])

pub returns : goal.returns
returns c =
    let all = c.args.self.now.literals in
    let row = c.as_slice-row.result.now in
    tried-all c.args.text.now c.args.at (get_or c.args.text.now c.args.at 0) c.requires refl all c.loop-number.best (subst (λ r. Tried c.args.text.now c.args.at (get_or c.args.text.now c.args.at 0) all r c.loop-number.best) (drop_all c.loop-number.number-index row (omega arith)) c.loop-number.invariant)
