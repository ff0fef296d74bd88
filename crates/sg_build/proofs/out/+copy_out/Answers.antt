use Rattle.std.proofs.Common.{◌∙◌, ◌++◌, ◌∷◌, [], sym, subst, arith}
use Rattle.std.proofs.lemmas.List.{take_all}
use Rattle.sg_groves.specs.Holds.{Holds}
use Rattle.sg_build.proofs.Told.{the_term, kids_in, told, told_only, kid_told, opened, leaf_out, node_out, taken_more}
use Rattle.sg_build.proofs.out.+copy_out.Goals as goal

pub returns-in_default : goal.returns-in_default
returns-in_default t c =
    subst (Holds c.args.terms.now c.args.n) (sym c.leaf.ensures)
    (leaf_out c.args.terms.now c.facts.ensures c.args.n c.requires (sym c.op.ensures.op ∙ c.in_default.is) c.phylum.result c.in_ok-value.value c.phylum.ensures.term c.in_ok-value.ensures)

pub kid_count-count-requires : goal.kid_count-count-requires
kid_count-count-requires t c = (opened c.args.terms.now c.facts.ensures c.args.n c.in-Some.op (sym c.op.ensures.op ∙ c.in-Some.is)).within

pub kid-requires-clause-place : goal.kid-requires-clause-place
kid-requires-clause-place t c = λ x found.
    let arity = (opened c.args.terms.now c.facts.ensures c.args.n c.in-Some.op (sym c.op.ensures.op ∙ c.in-Some.is)).arity x found in
    let count = c.kid_count-count.ensures in
    let low = c.loop-k-test.true in
    omega (arith, arity, count, low)

pub loop-k-preserved : goal.loop-k-preserved
loop-k-preserved t c =
    let g = c.args.terms.now in
    let at = kid_told g c.facts.ensures c.args.n c.kid.result c.loop-k.k c.requires c.kid.ensures.child in
    let same = told_only g c.facts.ensures c.kid.result c.in_ok-copy_out.field-0 c.in_ok-copy_out.ensures in
    c.in_ok-push.ensures.items ∙ (λ i. c.loop-k.invariant i ++ same i ∷ []) ∙ sym (taken_more (kids_in (the_term g c.args.n)) c.loop-k.k (the_term g c.kid.result) at)

pub returns : goal.returns
returns t c =
    let g = c.args.terms.now in
    let is = sym c.op.ensures.op ∙ c.in-Some.is in
    let count = (opened g c.facts.ensures c.args.n c.in-Some.op is).count in
    let kids = c.kid_count-count.ensures in
    let all = c.loop-k-test.false in
    let whole = take_all c.loop-k.k (kids_in (the_term g c.args.n)) (omega (arith, count, kids, all)) in
    let here = told g c.facts.ensures c.args.n c.requires in
    node_out g c.facts.ensures c.args.n c.in-Some.op is c.scheme.result c.elided.result c.loop-k.kids.items (c.scheme.ensures.term (the_term g c.args.n) here) (c.elided.ensures.term (the_term g c.args.n) here) (c.loop-k.invariant ∙ whole)
