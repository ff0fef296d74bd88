use Rattle.std.proofs.Common.{◌≡◌, ◌+◌, ◌++◌, ◌⊎◌, ◌≤◌, sym, ap, ◌∙◌, drop, subst, arith, get_or}
use Rattle.std.proofs.lemmas.List.{get_or_default, take_rest, take_all}
use Rattle.std.specs.Prelude.{◌↔◌, Contains}
use Rattle.sg_lalr.specs.Items.{Item, item, IsRising}
use Rattle.sg_lalr.specs.Closure.{IsOpened}
use Rattle.sg_lalr.proofs.MergeLemmas.{Merged, merged-opened, merged-kept, rest-from, rest-none, merged-rising, merged-has}
use Rattle.sg_lalr.proofs.closure.merge.Goals as goal
use Rattle.sg_lalr.proofs.closure.merge.Goals.{then-kept-test+else-kernel-at, else-kept-test}

pub kept-preserved : goal.kept-preserved
kept-preserved c =
    let opened = c.args.opened.now in
    let kernel = c.args.kernel.now in
    let k = c.opened.p-index in
    let x : Item = get_or kernel c.kept.at (item 0 0) in
    let p = get_or opened k 0 in
    subst (λ l. Merged opened kernel l (c.kept.at + 1) k) (sym c.in_ok-push.ensures.items)
    (merged-kept opened kernel c.kept.items.items c.kept.at k x p c.kept-test.true (get_or_default kernel c.kept.at (item 0 0) x c.kept-test.true) c.opened-test.true (get_or_default opened k 0 p c.opened-test.true) c.if-kernel-at.true c.requires.opened c.requires.rising c.kept.invariant)

pub opened-preserved : goal.opened-preserved
opened-preserved c =
    let opened = c.args.opened.now in
    let kernel = c.args.kernel.now in
    let k = c.opened.p-index in
    let p = get_or opened k 0 in
    let rest : (j : Item) → Contains (drop c.kept.at kernel) j → p ≤ j.production = elim c.kept-test.branch [
      | then-kept-test+else-kernel-at w ↦
          let x : Item = get_or kernel c.kept.at (item 0 0) in
          rest-from kernel c.kept.at x p w.kept-test.true (get_or_default kernel c.kept.at (item 0 0) x w.kept-test.true) (let f = w.if-kernel-at.false in omega (arith, f)) c.requires.rising
      | else-kept-test w ↦ rest-none kernel c.kept.at p w.kept-test.false
    ] in
    subst (λ l. Merged opened kernel l c.kept.at (k + 1)) (sym c.in_ok-push-2.ensures.items)
    (merged-opened opened kernel c.kept.items.items c.kept.at k p c.opened-test.true (get_or_default opened k 0 p c.opened-test.true) c.requires.opened c.requires.dots rest c.kept.invariant)

pub returns-clause-rising : goal.returns-clause-rising
returns-clause-rising c =
    let kernel = c.args.kernel.now in
    let all : c.extend_from_slice.new.self.items ≡ c.opened.items.items ++ drop c.opened.at kernel = c.in_ok-extend_from_slice.ensures.items ∙ ap (λ l. c.opened.items.items ++ l) (take_rest kernel c.opened.at) in
    subst IsRising (sym all) (merged-rising c.args.opened.now kernel c.opened.items.items c.opened.at c.opened.p-index c.requires.rising c.opened.invariant)

pub returns-clause-has : goal.returns-clause-has
returns-clause-has c =
    let kernel = c.args.kernel.now in
    let opened = c.args.opened.now in
    let all : c.extend_from_slice.new.self.items ≡ c.opened.items.items ++ drop c.opened.at kernel = c.in_ok-extend_from_slice.ensures.items ∙ ap (λ l. c.opened.items.items ++ l) (take_rest kernel c.opened.at) in
    subst (λ l. (i : Item) → Contains l i ↔ (Contains kernel i ⊎ IsOpened opened i)) (sym all)
    (merged-has opened kernel c.opened.items.items c.opened.at c.opened.p-index (take_all c.opened.p-index opened (let f = c.opened-test.false in omega (arith, f))) c.opened.invariant)
