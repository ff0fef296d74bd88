use Rattle.std.proofs.Common.{◌≡◌, ◌-◌, ◌<◌, ◌≤◌, ◌∷◌, sym, ap, ◌∙◌, subst, arith, Some}
use Rattle.std.specs.Prelude.{suc}
use Rattle.std.specs.Option.{option_map_or}
use Rattle.sg_groves.proofs.Held.{one_term}
use Rattle.sg_build.proofs.Told.{the_term}
use Rattle.sg_select.proofs.Elements.{list_wide}
use Rattle.sg_select.proofs.Leading.{child_live, held}
use Rattle.sg_select.specs.Paths.{elements}
use Rattle.sg_unparse.specs.Page.{region_of}
use Rattle.sg_edits.specs.Edits.{rest_of}
use Rattle.sg_edits.proofs.Behind.{rest_long, some_element}
use Rattle.sg_edits.proofs.Placed.{rest_held}
use Rattle.sg_editor.specs.Screen.{last_region, run_from}
use Rattle.sg_editor.proofs.screens.+last_region.Goals as goal

pub returns-then-count-eq0 : goal.returns-then-count-eq0
returns-then-count-eq0 t c = λ root marks p tells way. ap (λ k. last_region marks (run_from k (0 ∷ p))) (sym c.if-count-eq0.true)

pub kid-requires-clause-place : goal.kid-requires-clause-place
kid-requires-clause-place t c = λ x found.
    let g = c.args.terms.now in
    let whole = the_term g c.args.n in
    let h = held g c.facts.ensures c.args.n c.requires.live in
    let long = c.requires.long whole h in
    let some = c.if-count-eq0.false in
    let one : 1 ≤ elements g.spec whole = omega (arith, long, some) in
    list_wide g c.facts.ensures c.args.n whole h (some_element g.spec whole one) x found

pub last_region-requires : goal.last_region-requires
last_region-requires t c =
    let g = c.args.terms.now in
    let is = c.facts.ensures in
    let whole = the_term g c.args.n in
    let h = held g is c.args.n c.requires.live in
    let child = c.kid.ensures.child in
    let live = child_live g is c.kid.result c.args.n 1 child in
    let long = c.requires.long whole h in
    let some = c.if-count-eq0.false in
    let one : suc (c.args.count - 1) ≤ elements g.spec whole = omega (arith, long, some) in
    let less : c.args.count - 1 < t = omega (arith, c.decreases, some) in (
      less,
      (
        live,
        λ x holds.
            let same : rest_of whole ≡ x = rest_held g is c.args.n c.kid.result c.requires.live live child ∙ one_term g c.kid.result (the_term g c.kid.result) x (held g is c.kid.result live) holds in
            subst (λ y. c.args.count - 1 ≤ elements g.spec y) same (rest_long g.spec (c.args.count - 1) whole one),
      ),
    )

pub returns-in-Some : goal.returns-in-Some
returns-in-Some t c = λ root marks p tells way.
    let some = c.if-count-eq0.false in
    let count : c.args.count ≡ suc (c.args.count - 1) = omega (arith, some) in
    let last = c.in-Some.ensures root marks (1 ∷ p) tells (c.args.n, c.kid.ensures.child, way) in
    ap (λ o. option_map_or Some o (region_of marks (0 ∷ p))) last
    ∙ ap (λ k. last_region marks (run_from k (0 ∷ p))) (sym count)

pub kid-requires-in-None-clause-place : goal.kid-requires-in-None-clause-place
kid-requires-in-None-clause-place t c = λ x found.
    let g = c.args.terms.now in
    let whole = the_term g c.args.n in
    let h = held g c.facts.ensures c.args.n c.requires.live in
    let long = c.requires.long whole h in
    let some = c.if-count-eq0.false in
    let one : 1 ≤ elements g.spec whole = omega (arith, long, some) in
    let wide = list_wide g c.facts.ensures c.args.n whole h (some_element g.spec whole one) x found in
    omega (arith, wide)

pub returns-in-None : goal.returns-in-None
returns-in-None t c = λ root marks p tells way.
    let some = c.if-count-eq0.false in
    let count : c.args.count ≡ suc (c.args.count - 1) = omega (arith, some) in
    let last = c.in-None.ensures root marks (1 ∷ p) tells (c.args.n, c.kid.ensures.child, way) in
    c.region.ensures ∙ tells (0 ∷ p) c.kid-in-None.result (c.args.n, c.kid-in-None.ensures.child, way)
    ∙ ap (λ o. option_map_or Some o (region_of marks (0 ∷ p))) last
    ∙ ap (λ k. last_region marks (run_from k (0 ∷ p))) (sym count)
