use Rattle.std.proofs.Common.{◌≡◌, ◌-◌, ◌^◌, ◌++◌, ◌+◌, [], ◌∷◌, ℕ, List, length, min, refl, sym, ap, ◌∙◌, subst, arith, append-nil, rules}
use Rattle.sg_kinds.specs.Places.{Place, place_of, places_from}
use Rattle.sg_kinds.specs.Terms.{Term}
use Rattle.sg_forest.specs.declared.node_id.NodeId.{NodeId}
use Rattle.sg_build.proofs.Told.{the_term, kids_in, told_only, kid_told, opened, leaf_term}
use Rattle.sg_printing.specs.At.{IsAt}
use Rattle.sg_printing.proofs.Along.{at_holds, at_live}
use Rattle.sg_report.specs.Lines.{of_these, lines_at}
use Rattle.sg_report.proofs.Walking.{rest_of, places_over, rest_more, rest_none, next_written, next_count, few, place_pushed, popped, kid_at}
use Rattle.sg_report.proofs.lines.+write_below.Goals as goal

pub op-requires : goal.op-requires
op-requires t c = let r = c.requires.at in at_live c.args.terms.now c.facts.ensures r.0 c.args.n r.1 _ r.2 r.3

-- what is written of a leaf
pub returns-in_default-clause-text : goal.returns-in_default-clause-text
returns-in_default-clause-text t c = λ root s x at.
    let g = c.args.terms.now in
    let u = place_of c.args.path.now.items in
    let live = at_live g c.facts.ensures root c.args.n s u x at in
    let leaf = leaf_term g c.facts.ensures c.args.n live (sym c.op.ensures.op ∙ c.in_default.is) x (at_holds g c.facts.ensures root c.args.n s u x at) in
    let text = subst (λ (way : List ℕ). (root : NodeId) (s x : Term) → IsAt g root c.args.n s (place_of way) x → c.write_own.new.out.items ≡ c.args.out.now.items ++ lines_at g.spec s c.args.a.now (place_of way ∷ [])) c.as_slice.ensures.value c.in_ok-count.ensures.text in
    text root s x at ∙ ap (λ y. c.args.out.now.items ++ lines_at g.spec s c.args.a.now (places_from u y)) (sym leaf.2)

pub returns-in_default-clause-count : goal.returns-in_default-clause-count
returns-in_default-clause-count t c = λ root s x at.
    let g = c.args.terms.now in
    let u = place_of c.args.path.now.items in
    let live = at_live g c.facts.ensures root c.args.n s u x at in
    let leaf = leaf_term g c.facts.ensures c.args.n live (sym c.op.ensures.op ∙ c.in_default.is) x (at_holds g c.facts.ensures root c.args.n s u x at) in
    let count = subst (λ (way : List ℕ). (root : NodeId) (s x : Term) → IsAt g root c.args.n s (place_of way) x → c.in_ok-count.count ≡ length (of_these g.spec s c.args.a.now (place_of way ∷ []))) c.as_slice.ensures.value c.in_ok-count.ensures.count in
    let here = count root s x at in
    let most = few g.spec s c.args.a.now (u ∷ []) in
    let all = ap (λ y. length (of_these g.spec s c.args.a.now (places_from u y))) leaf.2 in
    omega (arith, here, most, all)

pub kid_count-kids-requires : goal.kid_count-kids-requires
kid_count-kids-requires t c = (opened c.args.terms.now c.facts.ensures c.args.n c.in-Some.op (sym c.op.ensures.op ∙ c.in-Some.is)).within

pub loop-k-init : goal.loop-k-init
loop-k-init t c =
    let g = c.args.terms.now in
    let r = c.requires.at in
    let u = place_of c.args.path.now.items in
    let x = the_term g c.args.n in
    let o = opened g c.facts.ensures c.args.n c.in-Some.op (sym c.op.ensures.op ∙ c.in-Some.is) in
    let parts = places_over u x c.in-Some.op _ _ o.node in
    let text = subst (λ (way : List ℕ). (root : NodeId) (s x : Term) → IsAt g root c.args.n s (place_of way) x → c.write_own.new.out.items ≡ c.args.out.now.items ++ lines_at g.spec s c.args.a.now (place_of way ∷ [])) c.as_slice.ensures.value c.in_ok-count.ensures.text in
    let count = subst (λ (way : List ℕ). (root : NodeId) (s x : Term) → IsAt g root c.args.n s (place_of way) x → c.in_ok-count.count ≡ length (of_these g.spec s c.args.a.now (place_of way ∷ []))) c.as_slice.ensures.value c.in_ok-count.ensures.count in
    record {
      capped = let here = count r.0 r.1 r.2 r.3 in let most = few g.spec r.1 c.args.a.now (u ∷ []) in omega (arith, here, most);
      path = refl;
      text = λ root s at. next_written g.spec s c.args.a.now c.args.out.now.items c.write_own.new.out.items (places_from u x) (u ∷ []) (rest_of u 0 (kids_in x)) (text root s x at) parts;
      count = λ root s at.
          let here = count root s x at in
          let both = next_count g.spec s c.args.a.now (places_from u x) (u ∷ []) (rest_of u 0 (kids_in x)) parts in
          omega (arith, here, both);
    }

pub kid-requires-clause-place : goal.kid-requires-clause-place
kid-requires-clause-place t c = λ x found.
    let arity = (opened c.args.terms.now c.facts.ensures c.args.n c.in-Some.op (sym c.op.ensures.op ∙ c.in-Some.is)).arity x found in
    let count = c.kid_count-kids.ensures in
    let low = c.loop-k-test.true in
    omega (arith, arity, count, low)

pub write_below-requires : goal.write_below-requires
write_below-requires t c =
    let g = c.args.terms.now in
    let r = c.requires.at in
    let u = place_of c.args.path.now.items in
    let live = at_live g c.facts.ensures r.0 c.args.n r.1 u r.2 r.3 in
    let held = told_only g c.facts.ensures c.args.n r.2 (at_holds g c.facts.ensures r.0 c.args.n r.1 u r.2 r.3) in
    let at = kid_at g c.facts.ensures r.0 c.args.n c.kid.result r.1 u c.loop-k.k live (subst (IsAt g r.0 c.args.n r.1 u) held r.3) c.kid.ensures.child in
    let pushed = place_pushed c.args.path.now.items c.loop-k.path.items c.push.new.self.items c.loop-k.k c.in_ok-push.ensures.items c.loop-k.invariant.path in
    (search rules, ((r.0, r.1, the_term g c.kid.result, subst (λ (w : Place). IsAt g r.0 c.kid.result r.1 w (the_term g c.kid.result)) (sym pushed) at), c.requires.slot))

pub loop-k-preserved : goal.loop-k-preserved
loop-k-preserved t c =
    let g = c.args.terms.now in
    let r = c.requires.at in
    let u = place_of c.args.path.now.items in
    let k = c.loop-k.k in
    let x = the_term g c.args.n in
    let y = the_term g c.kid.result in
    let live = at_live g c.facts.ensures r.0 c.args.n r.1 u r.2 r.3 in
    let pushed = place_pushed c.args.path.now.items c.loop-k.path.items c.push.new.self.items k c.in_ok-push.ensures.items c.loop-k.invariant.path in
    let parts = rest_more u (kids_in x) k y (kid_told g c.facts.ensures c.args.n c.kid.result k live c.kid.ensures.child) in
    let text = subst (λ (w : Place). (root : NodeId) (s z : Term) → IsAt g root c.kid.result s w z → c.write_below.new.out.items ≡ c.loop-k.out.items ++ lines_at g.spec s c.args.a.now (places_from w z)) pushed c.in_ok-more.ensures.text in
    let count = subst (λ (w : Place). (root : NodeId) (s z : Term) → IsAt g root c.kid.result s w z → c.in_ok-more.more ≡ min (length (of_these g.spec s c.args.a.now (places_from w z))) (2 ^ 64 - 1)) pushed c.in_ok-more.ensures.count in
    record {
      capped = let sum = c.saturating_add-count.ensures in omega (arith, sum);
      path = popped c.args.path.now.items c.loop-k.path.items c.push.new.self.items c.write_below.new.path.items c.pop.new.self.items k _ c.in_ok-push.ensures.items c.loop-k.invariant.path c.in_ok-more.ensures.path c.write_below.new.path.ok.0 c.pop.ensures.rest;
      text = λ root s at.
          let below = text root s y (kid_at g c.facts.ensures root c.args.n c.kid.result s u k live at c.kid.ensures.child) in
          next_written g.spec s c.args.a.now c.loop-k.out.items c.write_below.new.out.items (rest_of u k (kids_in x)) (places_from (k ∷ u) y) (rest_of u (k + 1) (kids_in x)) below parts ∙ c.loop-k.invariant.text root s at;
      count = λ root s at.
          let below = count root s y (kid_at g c.facts.ensures root c.args.n c.kid.result s u k live at c.kid.ensures.child) in
          let both = next_count g.spec s c.args.a.now (rest_of u k (kids_in x)) (places_from (k ∷ u) y) (rest_of u (k + 1) (kids_in x)) parts in
          let left = c.loop-k.invariant.count root s at in
          let sum = c.saturating_add-count.ensures in
          let capped = c.loop-k.invariant.capped in
          omega (arith, below, both, left, sum, capped);
    }

pub returns-clause-text : goal.returns-clause-text
returns-clause-text t c = λ root s x at.
    let g = c.args.terms.now in
    let u = place_of c.args.path.now.items in
    let kids = kids_in (the_term g c.args.n) in
    let held = told_only g c.facts.ensures c.args.n x (at_holds g c.facts.ensures root c.args.n s u x at) in
    let count = (opened g c.facts.ensures c.args.n c.in-Some.op (sym c.op.ensures.op ∙ c.in-Some.is)).count in
    let long = c.kid_count-kids.ensures in
    let all = c.loop-k-test.false in
    let none = rest_none u kids c.loop-k.k (omega (arith, count, long, all)) in
    sym (append-nil c.loop-k.out.items) ∙ sym (ap (λ us. c.loop-k.out.items ++ lines_at g.spec s c.args.a.now us) none)
    ∙ c.loop-k.invariant.text root s (subst (IsAt g root c.args.n s u) held at) ∙ ap (λ z. c.args.out.now.items ++ lines_at g.spec s c.args.a.now (places_from u z)) (sym held)

pub returns-clause-count : goal.returns-clause-count
returns-clause-count t c = λ root s x at.
    let g = c.args.terms.now in
    let u = place_of c.args.path.now.items in
    let kids = kids_in (the_term g c.args.n) in
    let held = told_only g c.facts.ensures c.args.n x (at_holds g c.facts.ensures root c.args.n s u x at) in
    let count = (opened g c.facts.ensures c.args.n c.in-Some.op (sym c.op.ensures.op ∙ c.in-Some.is)).count in
    let long = c.kid_count-kids.ensures in
    let all = c.loop-k-test.false in
    let none = ap (λ us. length (of_these g.spec s c.args.a.now us)) (rest_none u kids c.loop-k.k (omega (arith, count, long, all))) in
    let left = c.loop-k.invariant.count root s (subst (IsAt g root c.args.n s u) held at) in
    let same = ap (λ z. length (of_these g.spec s c.args.a.now (places_from u z))) held in
    let capped = c.loop-k.invariant.capped in
    omega (arith, none, left, same, capped)
