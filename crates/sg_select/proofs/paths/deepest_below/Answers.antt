use Rattle.std.proofs.Common.{◌+◌, ◌++◌, take, drop, get_or, sym, ap, ◌∙◌, subst, arith, append_assoc}
use Rattle.std.specs.Prelude.{◌∷◌, reverse, option_and_then}
use Rattle.std.proofs.lemmas.Bool.{false≢true}
use Rattle.std.proofs.lemmas.List.{get_or_default}
use Rattle.sg_kinds.specs.Places.{child, place_of}
use Rattle.sg_groves.specs.Holds.{IsPlaced}
use Rattle.sg_build.proofs.Told.{the_term}
use Rattle.sg_select.specs.Around.{kids}
use Rattle.sg_select.proofs.Around.{child_is}
use Rattle.sg_select.proofs.Fronts.{front_all, front_more, front_rest, past_none}
use Rattle.sg_select.proofs.Leading.{child_live, held, kid_placed, sub_there}
use Rattle.sg_select.proofs.paths.deepest_below.Goals as goal

pub returns-then-k-kid_count-clause-goes : goal.returns-then-k-kid_count-clause-goes
returns-then-k-kid_count-clause-goes c = λ root t u at.
    let g = c.args.terms.now in
    let n = c.loop-k.at in
    let path = c.args.path.now in
    let i = c.loop-k.k-index in
    let front = place_of (take i path) ++ u in
    let placed = c.loop-k.invariant.placed root t u at in
    let holds = held g c.facts.ensures n c.loop-k.invariant.live in
    let there = sub_there g c.facts.ensures root t (the_term g n) front n placed holds in
    let count = c.kid_count.ensures.count (the_term g n) holds in
    let high = c.if-k-kid_count.true in
    let k = get_or path i 0 in
    record {
      front = front;
      placed = placed;
      all = λ no. absurd (false≢true no);
      ends = λ _. record {
        rest = reverse (drop (i + 1) path);
        next = k;
        is = ap (λ l. l ++ u) (front_rest path i k c.loop-k-test.true (get_or_default path i 0 k c.loop-k-test.true))
            ∙ append_assoc (reverse (drop (i + 1) path)) (k ∷ place_of (take i path)) u;
        none = ap (option_and_then (child k)) there ∙ child_is k (the_term g n) ∙ past_none (kids (the_term g n)) k (omega (arith, count, high));
      };
    }

pub loop-k-preserved : goal.loop-k-preserved
loop-k-preserved c =
    let g = c.args.terms.now in
    let path = c.args.path.now in
    let i = c.loop-k.k-index in
    let k = get_or path i 0 in
    record {
      live = child_live g c.facts.ensures c.kid-at.result c.loop-k.at k c.kid-at.ensures.child;
      placed = λ root t u at.
          subst (λ v. IsPlaced g root t (v ++ u) c.kid-at.result) (sym (front_more path i k c.loop-k-test.true (get_or_default path i 0 k c.loop-k-test.true)))
          (kid_placed g c.facts.ensures root t (place_of (take i path) ++ u) c.loop-k.at c.kid-at.result k (c.loop-k.invariant.placed root t u at) c.kid-at.ensures.child);
    }

pub returns-clause-goes : goal.returns-clause-goes
returns-clause-goes c = λ root t u at.
    let path = c.args.path.now in
    let i = c.loop-k.k-index in
    record {
      front = place_of (take i path) ++ u;
      placed = c.loop-k.invariant.placed root t u at;
      all = λ _. ap (λ l. l ++ u) (sym (front_all path i c.loop-k-test.false));
      ends = λ no. absurd (false≢true (sym no));
    }
