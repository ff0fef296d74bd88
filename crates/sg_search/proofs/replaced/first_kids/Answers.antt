use Rattle.std.proofs.Common.{◌≡◌, ◌+◌, ◌++◌, ◌∷◌, [], take, sym, ap, ◌∙◌, arith}
use Rattle.sg_build.proofs.Told.{taken_more, the_term, told_only}
use Rattle.sg_select.specs.Around.{kids}
use Rattle.sg_select.proofs.Leading.{held}
use Rattle.sg_search.proofs.Children.{kid_at}
use Rattle.sg_search.proofs.replaced.first_kids.Goals as goal

pub loop-k-preserved : goal.loop-k-preserved
loop-k-preserved c =
    let g = c.args.terms.now in
    let x = the_term g c.args.n in
    let at = kid_at g c.facts.ensures c.args.n c.kid.result c.loop-k.k x c.requires.live c.kid.ensures.child (held g c.facts.ensures c.args.n c.requires.live) in
    let same = told_only g c.facts.ensures c.kid.result c.in_ok-copy_out.field-0 c.in_ok-copy_out.ensures in
    let more : c.loop-k.all.items ++ c.in_ok-copy_out.field-0 ∷ [] ≡ take (c.loop-k.k + 1) (kids x) =
    (λ i. c.loop-k.invariant i ++ same i ∷ []) ∙ sym (taken_more (kids x) c.loop-k.k (the_term g c.kid.result) at) in
    c.in_ok-push.ensures.items ∙ more

pub returns : goal.returns
returns c = λ x holds.
    let g = c.args.terms.now in
    let past = c.loop-k-test.false in
    let end = c.loop-k.auto.k-end in
    let all : c.loop-k.k ≡ c.args.count = omega (arith, past, end) in
    c.loop-k.invariant ∙ ap (λ z. take c.loop-k.k (kids z)) (sym (told_only g c.facts.ensures c.args.n x holds)) ∙ ap (λ j. take j (kids x)) all
