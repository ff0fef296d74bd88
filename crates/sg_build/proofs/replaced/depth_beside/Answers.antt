use Rattle.std.proofs.Common.{◌∙◌, ◌-◌, ◌^◌, sym, ap, arith, min}
use Rattle.sg_kinds.proofs.Elementary.{slice_get-there}
use Rattle.sg_kinds.specs.Places.{with_child}
use Rattle.sg_kinds.specs.Terms.{height_of, height_of_all, kids_of}
use Rattle.sg_build.proofs.Placed.{child_put, child_stays, children_long, height_with}
use Rattle.sg_build.proofs.Told.{the_term, kids_in, told, told_only, kid_told, opened, leaf_term, height_left, none_left}
use Rattle.sg_build.proofs.replaced.depth_beside.Goals as goal
use Rattle.sg_build.proofs.replaced.depth_beside.Goals.{then-j-k, else-j-k}

pub returns-in_default : goal.returns-in_default
returns-in_default c = λ t s h is.
    let leaf = leaf_term c.args.terms.now c.facts.ensures c.args.n c.requires (sym c.op.ensures.op ∙ c.in_default.is) t h in
    ap (λ x. min (height_of (with_child x c.args.k s)) (2 ^ 64 - 1)) (sym leaf.2)

pub kid_count-count-requires : goal.kid_count-count-requires
kid_count-count-requires c = (opened c.args.terms.now c.facts.ensures c.args.n c.in-Some.op (sym c.op.ensures.op ∙ c.in-Some.is)).within

pub kid-requires-clause-place : goal.kid-requires-clause-place
kid-requires-clause-place c = λ x found.
    let arity = (opened c.args.terms.now c.facts.ensures c.args.n c.in-Some.op (sym c.op.ensures.op ∙ c.in-Some.is)).arity x found in
    let count = c.kid_count-count.ensures in
    let low = c.loop-j-test.true in
    omega (arith, arity, count, low)

pub loop-j-init : goal.loop-j-init
loop-j-init c = record {
  capped = omega arith;
  left = λ s is.
      let here = the_term c.args.terms.now c.args.n in
      let op = sym (c.op.ensures.term here (told c.args.terms.now c.facts.ensures c.args.n c.requires)) ∙ c.in-Some.is in
      let height = height_with here c.args.k s c.in-Some.op op in
      omega (arith, height);
}

pub loop-j-preserved : goal.loop-j-preserved
loop-j-preserved c =
    let g = c.args.terms.now in
    let here = the_term g c.args.n in
    let j = c.loop-j.j in
    let most = c.max-deepest.ensures in
    let capped = c.loop-j.invariant.capped in
    let known = c.ranges.below.fits in
    elim c.if-j-k.branch [
      | then-j-k w ↦ (
          let count = (opened g c.facts.ensures c.args.n c.in-Some.op (sym c.op.ensures.op ∙ c.in-Some.is)).count in
          let kids = c.kid_count-count.ensures in
          let low = c.loop-j-test.true in
          let x = slice_get-there (kids_in here) j (omega (arith, count, kids, low)) in
          let depth = w.depth-is in
          record {
            capped = omega (arith, most, capped, depth, known);
            left = λ s is.
                let height = height_left (kids_in (with_child here c.args.k s)) j s (child_put here c.args.k j x.0 s x.1 w.if-j-k.true) in
                let was = c.loop-j.invariant.left s is in
                omega (arith, height, was, most, depth, is, capped);
          }
          )
      | else-j-k w ↦ (
          let child = w.kid.ensures.child in
          let kid = the_term g w.kid.result in
          let at = kid_told g c.facts.ensures c.args.n w.kid.result j c.requires child in
          let below = (w.counts_below.ensures kid (told g c.facts.ensures w.kid.result (record { node = child.node; found = child.found }))).depth in
          let depth = w.depth-is in
          record {
            capped = omega (arith, most, capped, depth, below);
            left = λ s is.
                let height = height_left (kids_in (with_child here c.args.k s)) j kid (child_stays here c.args.k j kid s at w.if-j-k.false) in
                let was = c.loop-j.invariant.left s is in
                omega (arith, height, was, most, depth, below, capped);
          }
          )
    ]

pub returns : goal.returns
returns c = λ t s h is.
    let g = c.args.terms.now in
    let here = the_term g c.args.n in
    let count = (opened g c.facts.ensures c.args.n c.in-Some.op (sym c.op.ensures.op ∙ c.in-Some.is)).count in
    let kids = c.kid_count-count.ensures in
    let long = children_long here c.args.k s in
    let all = c.loop-j-test.false in
    let none = ap (λ l. height_of_all (kids_of l)) (none_left (kids_in (with_child here c.args.k s)) c.loop-j.j (omega (arith, count, kids, long, all))) in
    let was = c.loop-j.invariant.left s is in
    let sum = c.saturating_add.ensures in
    let same = ap (λ x. min (height_of (with_child x c.args.k s)) (2 ^ 64 - 1)) (told_only g c.facts.ensures c.args.n t h) in
    omega (arith, none, was, sum, same)
