use Rattle.std.proofs.Common.{◌∷◌, sym, ap, ◌∙◌, arith}
use Rattle.std.specs.Option.{option_map_or}
use Rattle.std.specs.Prelude.{false}
use Rattle.sg_build.proofs.Told.{opened, the_term}
use Rattle.sg_search.specs.Found.{applies_at, applies_to}
use Rattle.sg_search.proofs.Children.{all_kids, holds_there, kid_at, kid_sub, no_kids}
use Rattle.sg_search.proofs.Gathers.{kid_gained, own_by, whole_gained}
use Rattle.sg_search.proofs.places.+gather.Goals as goal

pub returns-in_default : goal.returns-in_default
returns-in_default t c = λ name root whole x u named holds way at.
    let g = c.args.terms.now in
    let here = holds_there g c.facts.ensures c.args.n root whole x u holds way at in
    let own = own_by g root (applies_at g.spec name whole) u x c.args.places.now.items c.push_if.new.places.items c.args.n c.applies.result way
    (ap (λ o. option_map_or (applies_to g.spec name) o false) at ∙ sym (c.applies.ensures name x named here)) c.in_ok-push_if.ensures in
    whole_gained g root (applies_at g.spec name whole) u x 0 c.args.places.now.items c.push_if.new.places.items (no_kids g c.facts.ensures c.args.n x c.requires.live (sym c.op.ensures.op ∙ c.in_default.is) here) own

pub kid_count-count-requires : goal.kid_count-count-requires
kid_count-count-requires t c = (opened c.args.terms.now c.facts.ensures c.args.n c.in-Some.op (sym c.op.ensures.op ∙ c.in-Some.is)).within

pub kid-requires-clause-place : goal.kid-requires-clause-place
kid-requires-clause-place t c = λ x found.
    let arity = (opened c.args.terms.now c.facts.ensures c.args.n c.in-Some.op (sym c.op.ensures.op ∙ c.in-Some.is)).arity x found in
    let count = c.kid_count-count.ensures in
    let low = c.loop-k-test.true in
    omega (arith, arity, count, low)

pub loop-k-init : goal.loop-k-init
loop-k-init t c = λ name root whole x u named holds way at.
    let g = c.args.terms.now in
    let here = holds_there g c.facts.ensures c.args.n root whole x u holds way at in
    own_by g root (applies_at g.spec name whole) u x c.args.places.now.items c.push_if.new.places.items c.args.n c.applies.result way
    (ap (λ o. option_map_or (applies_to g.spec name) o false) at ∙ sym (c.applies.ensures name x named here)) c.in_ok-push_if.ensures

pub loop-k-preserved : goal.loop-k-preserved
loop-k-preserved t c = λ name root whole x u named holds way at.
    let g = c.args.terms.now in
    let k = c.loop-k.k in
    let here = holds_there g c.facts.ensures c.args.n root whole x u holds way at in
    let kid = kid_at g c.facts.ensures c.args.n c.kid.result k x c.requires.live c.kid.ensures.child here in
    kid_gained g root (applies_at g.spec name whole) u x k (the_term g c.kid.result) c.args.places.now.items c.loop-k.places.items c.gather.new.places.items kid
    (c.loop-k.invariant name root whole x u named holds way at)
    (c.in_ok-gather.ensures name root whole (the_term g c.kid.result) (k ∷ u) named holds (c.args.n, c.kid.ensures.child, way) (kid_sub g c.facts.ensures c.args.n whole x (the_term g c.kid.result) u k at kid))

pub returns : goal.returns
returns t c = λ name root whole x u named holds way at.
    let g = c.args.terms.now in
    let here = holds_there g c.facts.ensures c.args.n root whole x u holds way at in
    let count = c.kid_count-count.ensures in
    let past = c.loop-k-test.false in
    whole_gained g root (applies_at g.spec name whole) u x c.loop-k.k c.args.places.now.items c.loop-k.places.items
    (all_kids g c.facts.ensures c.args.n c.in-Some.op c.loop-k.k x (sym c.op.ensures.op ∙ c.in-Some.is) here (omega (arith, count, past)))
    (c.loop-k.invariant name root whole x u named holds way at)
