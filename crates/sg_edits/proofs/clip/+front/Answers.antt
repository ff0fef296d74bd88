use Rattle.std.proofs.Common.{◌≡◌, ◌-◌, ◌<◌, ◌≤◌, sym, ap, ◌∙◌, subst, arith}
use Rattle.std.specs.Prelude.{suc}
use Rattle.sg_groves.proofs.Held.{one_term}
use Rattle.sg_build.proofs.Told.{the_term}
use Rattle.sg_select.proofs.Elements.{list_wide}
use Rattle.sg_select.proofs.Leading.{child_live, held}
use Rattle.sg_select.specs.Paths.{elements}
use Rattle.sg_edits.specs.Edits.{empty_of, front, paired, rest_of}
use Rattle.sg_edits.proofs.Behind.{rest_long, some_element}
use Rattle.sg_edits.proofs.Placed.{element_held, fits_phylum, rest_held}
use Rattle.sg_edits.proofs.clip.+front.Goals as goal

pub returns-then-count-eq0 : goal.returns-then-count-eq0
returns-then-count-eq0 t c = λ x h.
    let spec = c.args.terms.now.spec in
    c.empty.ensures ∙ ap (λ s. empty_of s c.phylum.result) c.spec.ensures
    ∙ ap (empty_of spec) (sym (fits_phylum spec x c.phylum.result (c.phylum.ensures.term x h)))
    ∙ ap (λ k. front spec k x) (sym c.if-count-eq0.true)

pub kid-requires-clause-place : goal.kid-requires-clause-place
kid-requires-clause-place t c = λ x found.
    let g = c.args.terms.now in
    let whole = the_term g c.args.n in
    let h = held g c.facts.ensures c.args.n c.requires.live in
    let long = c.requires.long whole h in
    let some = c.if-count-eq0.false in
    let one : 1 ≤ elements g.spec whole = omega (arith, long, some) in
    list_wide g c.facts.ensures c.args.n whole h (some_element g.spec whole one) x found

pub front-requires : goal.front-requires
front-requires t c =
    let g = c.args.terms.now in
    let is = c.facts.ensures in
    let whole = the_term g c.args.n in
    let h = held g is c.args.n c.requires.live in
    let child = c.kid.ensures.child in
    let live = child_live g is c.kid.result c.args.n 1 child in
    let long = c.requires.long whole h in
    let some = c.if-count-eq0.false in
    let one : suc (c.args.count - 1) ≤ elements g.spec whole = omega (arith, long, some) in
    let less : c.args.count - 1 < t = omega (arith, c.decreases, some) in (
      less,
      (
        live,
        λ x holds.
            let same : rest_of whole ≡ x = rest_held g is c.args.n c.kid.result c.requires.live live child ∙ one_term g c.kid.result (the_term g c.kid.result) x (held g is c.kid.result live) holds in
            subst (λ y. c.args.count - 1 ≤ elements g.spec y) same (rest_long g.spec (c.args.count - 1) whole one),
      ),
    )

pub kid-requires-2-clause-place : goal.kid-requires-2-clause-place
kid-requires-2-clause-place t c = λ x found.
    let g = c.args.terms.now in
    let whole = the_term g c.args.n in
    let h = held g c.facts.ensures c.args.n c.requires.live in
    let long = c.requires.long whole h in
    let some = c.if-count-eq0.false in
    let one : 1 ≤ elements g.spec whole = omega (arith, long, some) in
    let wide = list_wide g c.facts.ensures c.args.n whole h (some_element g.spec whole one) x found in
    omega (arith, wide)

pub returns : goal.returns
returns t c = λ x h.
    let g = c.args.terms.now in
    let is = c.facts.ensures in
    let n = c.args.n in
    let whole = the_term g n in
    let here = held g is n c.requires.live in
    let same : x ≡ whole = one_term g n x whole h here in
    let first_live = child_live g is c.kid-2.result n 0 c.kid-2.ensures.child in
    let rest_live = child_live g is c.kid.result n 1 c.kid.ensures.child in
    let some = c.if-count-eq0.false in
    let count : c.args.count ≡ suc (c.args.count - 1) = omega (arith, some) in
    let first = one_term g c.kid-2.result c.in_ok-first.first (the_term g c.kid-2.result) c.in_ok-first.ensures (held g is c.kid-2.result first_live)
    ∙ sym (element_held g is n c.kid-2.result c.requires.live first_live c.kid-2.ensures.child) in
    let rest = c.in_ok-rest.ensures (the_term g c.kid.result) (held g is c.kid.result rest_live)
    ∙ ap (front g.spec (c.args.count - 1)) (sym (rest_held g is n c.kid.result c.requires.live rest_live c.kid.ensures.child)) in
    c.in_ok-paired.ensures x h ∙ ap (λ y. paired y c.in_ok-first.first c.in_ok-rest.rest) same
    ∙ (λ i. paired whole (first i) (rest i))
    ∙ ap (λ k. front g.spec k whole) (sym count) ∙ ap (front g.spec c.args.count) (sym same)
