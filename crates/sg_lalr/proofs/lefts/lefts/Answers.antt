use Rattle.std.proofs.Common.{◌≡◌, ◌+◌, ◌<◌, ◌++◌, ◌∷◌, [], length, map, get_or, sym, ap, ◌∙◌, subst, refl, arith, Some, length-set}
use Rattle.std.specs.Prelude.{slice_get}
use Rattle.std.proofs.lemmas.Option.{slice_get_read}
use Rattle.std.proofs.lemmas.List.{map-set, get_or-map, length-map}
use Rattle.sg_lalr.proofs.BegunLemmas.{LeftsTo, lefts-more, lefts-all}
use Rattle.sg_lalr.proofs.lefts.lefts.Goals as goal

pub loop-q-preserved : goal.loop-q-preserved
loop-q-preserved c =
    let g = c.args.g.now in
    let l = c.loop-q in
    let rows = l.rows.items in
    let r = c.index-rules-q.result in
    let count = l.invariant.count in
    let low : l.q < length g.rules = (let t = c.loop-q-test.true in let same = ap length c.rules-rules.ensures in omega (arith, t, same)) in
    let is : slice_get g.rules l.q ≡ Some r = slice_get_read g.rules (length g.rules) l.q r refl low (c.index-rules-q.is ∙ ap (λ rs. get_or rs l.q r) c.rules-rules.ensures) in
    let left : r.left < length rows = (let k = c.sound.ensures.rules l.q r low in let e = subst (λ x. x.left < g.symbols) (sym (c.index-rules-q.is ∙ ap (λ rs. get_or rs l.q r) c.rules-rules.ensures)) k.1 in omega (arith, e, count)) in
    let row : c.push.new.self.items ≡ get_or (map (λ v. v.items) rows) r.left [] ++ l.q ∷ [] =
    c.in_ok-push.ensures.items ∙ ap (λ v. v.items ++ l.q ∷ []) c.index_mut.ensures.value ∙ (λ j. sym (get_or-map (λ v. v.items) rows r.left c.index_mut.result.now [] left) j ++ l.q ∷ []) in
    record {
      count = length-set rows r.left c.push.new.self ∙ count;
      each = subst (λ ls. LeftsTo g.rules ls (l.q + 1)) (sym (map-set (λ v. v.items) rows r.left c.push.new.self)) (lefts-more g.rules (map (λ v. v.items) rows) l.q r c.push.new.self.items is (let e = length-map rows (λ v. v.items) in omega (arith, left, e)) row l.invariant.each);
    }

pub returns : goal.returns
returns c = lefts-all c.args.g.now.rules (map (λ k. k.items) c.loop-q.rows.items) c.loop-q.q (let t = c.loop-q-test.false in let same = ap length c.rules-rules.ensures in omega (arith, t, same)) c.loop-q.invariant.each
