use Rattle.std.proofs.Common.{◌∙◌, sym, ap, subst, arith, refl}
use Rattle.sg_kinds.specs.Terms.{Term, nodes_of_all, height_of_all, kids_of}
use Rattle.sg_build.specs.Counted.{AreCounts}
use Rattle.sg_build.proofs.Told.{the_term, kids_in, told, told_only, kid_told, opened, leaf_term, over_nodes, over_height, nodes_left, height_left, none_left}
use Rattle.sg_build.proofs.held.+counts_below.Goals as goal

pub returns-in_default : goal.returns-in_default
returns-in_default t c = λ whole h.
    let leaf = leaf_term c.args.terms.now c.facts.ensures c.args.n c.requires (sym c.op.ensures.op ∙ c.in_default.is) whole h in
    subst (λ (s : Term). AreCounts s (record { nodes = 1; depth = 1 })) (sym leaf.2) (record { nodes = refl; depth = refl })

pub kid_count-count-requires : goal.kid_count-count-requires
kid_count-count-requires t c = (opened c.args.terms.now c.facts.ensures c.args.n c.in-Some.op (sym c.op.ensures.op ∙ c.in-Some.is)).within

pub kid-requires-clause-place : goal.kid-requires-clause-place
kid-requires-clause-place t c = λ x found.
    let arity = (opened c.args.terms.now c.facts.ensures c.args.n c.in-Some.op (sym c.op.ensures.op ∙ c.in-Some.is)).arity x found in
    let count = c.kid_count-count.ensures in
    let low = c.loop-k-test.true in
    omega (arith, arity, count, low)

pub loop-k-init : goal.loop-k-init
loop-k-init t c =
    let g = c.args.terms.now in
    let node = (opened g c.facts.ensures c.args.n c.in-Some.op (sym c.op.ensures.op ∙ c.in-Some.is)).node in
    let nodes = over_nodes _ _ _ _ _ node in
    let height = over_height _ _ _ _ _ node in
    record { nodes_capped = omega arith; depth_capped = omega arith; nodes = omega (arith, nodes); depth = omega (arith, height) }

pub loop-k-preserved : goal.loop-k-preserved
loop-k-preserved t c =
    let g = c.args.terms.now in
    let child = c.kid.ensures.child in
    let at = kid_told g c.facts.ensures c.args.n c.kid.result c.loop-k.k c.requires child in
    let below = c.counts_below-below.ensures (the_term g c.kid.result) (told g c.facts.ensures c.kid.result (record { node = child.node; found = child.found })) in
    let nodes = nodes_left (kids_in (the_term g c.args.n)) c.loop-k.k (the_term g c.kid.result) at in
    let height = height_left (kids_in (the_term g c.args.n)) c.loop-k.k (the_term g c.kid.result) at in
    let nodes_below = below.nodes in
    let depth_below = below.depth in
    let capped = c.loop-k.invariant.nodes_capped in
    let deep = c.loop-k.invariant.depth_capped in
    let nodes_left = c.loop-k.invariant.nodes in
    let depth_left = c.loop-k.invariant.depth in
    let sum = c.saturating_add-nodes.ensures in
    let most = c.max-depth.ensures in
    record { nodes_capped = omega (arith, sum); depth_capped = omega (arith, most, deep, depth_below); nodes = omega (arith, nodes, nodes_below, nodes_left, sum, capped); depth = omega (arith, height, depth_below, depth_left, most, deep) }

pub returns : goal.returns
returns t c = λ whole h.
    let g = c.args.terms.now in
    let count = (opened g c.facts.ensures c.args.n c.in-Some.op (sym c.op.ensures.op ∙ c.in-Some.is)).count in
    let kids = c.kid_count-count.ensures in
    let all = c.loop-k-test.false in
    let none = none_left (kids_in (the_term g c.args.n)) c.loop-k.k (omega (arith, count, kids, all)) in
    let nodes = ap (λ l. nodes_of_all (kids_of l)) none in
    let height = ap (λ l. height_of_all (kids_of l)) none in
    let nodes_left = c.loop-k.invariant.nodes in
    let depth_left = c.loop-k.invariant.depth in
    let capped = c.loop-k.invariant.nodes_capped in
    let sum = c.saturating_add.ensures in
    subst (λ (s : Term). AreCounts s (record { nodes = c.loop-k.nodes; depth = c.saturating_add.result })) (sym (told_only g c.facts.ensures c.args.n whole h))
    (record { nodes = omega (arith, nodes, nodes_left, capped); depth = omega (arith, height, depth_left, sum) })
