use Rattle.std.proofs.Common.{◌∙◌, ◌++◌, ◌∷◌, [], sym, ap, arith, map}
use Rattle.std.proofs.lemmas.List.{take_all}
use Rattle.sg_kinds.specs.ValueOf.{value_of}
use Rattle.sg_kinds.specs.Values.{Tree, row_of}
use Rattle.sg_build.proofs.Told.{the_term, kids_in, told, kid_told, opened, leaf_values, node_value, values_more}
use Rattle.sg_build.proofs.out.+value_out.Goals as goal

pub returns-in_default : goal.returns-in_default
returns-in_default t c = leaf_values c.args.terms.now c.facts.ensures c.args.n c.requires (sym c.op.ensures.op ∙ c.in_default.is) c.leaf_value.result c.leaf_value.ensures

pub kid_count-count-requires : goal.kid_count-count-requires
kid_count-count-requires t c = (opened c.args.terms.now c.facts.ensures c.args.n c.in-Some.op (sym c.op.ensures.op ∙ c.in-Some.is)).within

pub kid-requires-clause-place : goal.kid-requires-clause-place
kid-requires-clause-place t c = λ x found.
    let arity = (opened c.args.terms.now c.facts.ensures c.args.n c.in-Some.op (sym c.op.ensures.op ∙ c.in-Some.is)).arity x found in
    let count = c.kid_count-count.ensures in
    let low = c.loop-k-test.true in
    omega (arith, arity, count, low)

pub loop-k-preserved : goal.loop-k-preserved
loop-k-preserved t c =
    let g = c.args.terms.now in
    let at = kid_told g c.facts.ensures c.args.n c.kid.result c.loop-k.k c.requires c.kid.ensures.child in
    let child = c.kid.ensures.child in
    let same = c.in_ok-value_out.ensures (the_term g c.kid.result) (told g c.facts.ensures c.kid.result (record { node = child.node; found = child.found })) in
    c.in_ok-push.ensures.items ∙ (λ i. c.loop-k.invariant i ++ same i ∷ []) ∙ sym (values_more (kids_in (the_term g c.args.n)) c.loop-k.k (the_term g c.kid.result) at)

pub returns : goal.returns
returns t c = λ whole h.
    let g = c.args.terms.now in
    let is = sym c.op.ensures.op ∙ c.in-Some.is in
    let count = (opened g c.facts.ensures c.args.n c.in-Some.op is).count in
    let kids = c.kid_count-count.ensures in
    let all = c.loop-k-test.false in
    let full = take_all c.loop-k.k (kids_in (the_term g c.args.n)) (omega (arith, count, kids, all)) in
    c.tree.ensures ∙ ap (λ l. Tree c.in-Some.op (row_of l)) (c.loop-k.invariant ∙ ap (map value_of) full) ∙ sym (node_value g c.facts.ensures c.args.n c.in-Some.op is whole h)
