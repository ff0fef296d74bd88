use Rattle.std.proofs.Common.{◌≡◌, ◌+◌, ◌<◌, ◌++◌, ◌∷◌, [], ℕ, length, map, get_or, take, sym, ap, ◌∙◌, subst, arith, Some, length-set}
use Rattle.std.specs.Prelude.{slice_get, option_copied}
use Rattle.std.proofs.lemmas.List.{map-set, get_or-map, length-map, take_all, take_more}
use Rattle.sg_grammar.specs.declared.grammar.Production.{Production}
use Rattle.sg_lalr.specs.Lefts.{AreHeads}
use Rattle.sg_lalr.proofs.BegunLemmas.{heads-none, heads-more, heads-same}
use Rattle.sg_lalr.proofs.lefts.heads.Goals as goal
use Rattle.sg_lalr.proofs.lefts.heads.Goals.{in-Some+in_ok-push, in_default}

pub loop-rule-init : goal.loop-rule-init
loop-rule-init c = record { count = c.in_ok-rows.ensures.count ∙ c.symbols.ensures; each = heads-none (map (λ k. k.items) c.in_ok-rows.rows.items) c.in_ok-rows.ensures.empty }

pub loop-rule-preserved : goal.loop-rule-preserved
loop-rule-preserved c =
    let g = c.args.g.now in
    let rules = c.rules-rules.result.now in
    let l = c.loop-rule in
    let n = l.rule-index in
    let rows = l.rows.items in
    let r = c.rule-item.result in
    let count = l.invariant.count in
    let low : n < length rules = c.loop-rule-test.true in
    let more : take (n + 1) rules ≡ take n rules ++ r ∷ [] = take_more rules n r low ∙ ap (λ s. take n rules ++ s ∷ []) (sym c.rule-item.is) in
    let reads = c.first.ensures.value ∙ ap (λ xs. slice_get xs 0) c.as_slice.ensures in
    elim c.match-first.branch [
      | in-Some+in_ok-push w ↦
          let first : ℕ = w.in-Some.first.now in
          let is : slice_get r.right 0 ≡ Some first = sym reads ∙ ap option_copied w.in-Some.is in
          let left : r.left < length rows = (let k = c.sound.ensures.rules n r (let same = ap length c.rules-rules.ensures in omega (arith, low, same)) in let e = subst (λ (x : Production). x.left < g.symbols) (sym (c.rule-item.is ∙ ap (λ rs. get_or rs n r) c.rules-rules.ensures)) k.1 in omega (arith, e, count)) in
          let row : w.push.new.self.items ≡ get_or (map (λ v. v.items) rows) r.left [] ++ first ∷ [] =
          w.in_ok-push.ensures.items ∙ ap (λ v. v.items ++ first ∷ []) w.index_mut.ensures.value ∙ (λ j. sym (get_or-map (λ v. v.items) rows r.left w.index_mut.result.now [] left) j ++ first ∷ []) in
          rw w.rows-is (record {
            count = length-set rows r.left w.push.new.self ∙ count;
            each = rw more (subst (AreHeads (take n rules ++ r ∷ [])) (sym (map-set (λ v. v.items) rows r.left w.push.new.self))
                (heads-more (take n rules) (map (λ v. v.items) rows) r first w.push.new.self.items is (let e = length-map rows (λ v. v.items) in omega (arith, left, e)) row l.invariant.each));
          })
      | in_default w ↦ rw w.rows-is (record {
        count = count;
        each = rw more (heads-same (take n rules) (map (λ v. v.items) rows) r (sym reads ∙ ap option_copied w.in_default.is) l.invariant.each);
      })
    ]

pub returns : goal.returns
returns c =
    let rules = c.rules-rules.result.now in
    subst (λ rs. AreHeads rs (map (λ k. k.items) c.loop-rule.rows.items)) (take_all c.loop-rule.rule-index rules c.loop-rule-test.false ∙ c.rules-rules.ensures) c.loop-rule.invariant.each
