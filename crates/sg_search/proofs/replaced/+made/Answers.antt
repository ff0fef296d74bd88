use Rattle.std.proofs.Common.{refl, sym, ◌∙◌, subst, arith, take}
use Rattle.std.specs.Prelude.{false, ◌≡◌}
use Rattle.std.proofs.lemmas.Bool.{false≢true}
use Rattle.std.proofs.lemmas.Result.{err_from_is_err_and}
use Rattle.sg_kinds.specs.Terms.{Term}
use Rattle.sg_terms.specs.Labels.{elided_of, scheme_of}
use Rattle.sg_groves.proofs.Held.{held_fits}
use Rattle.sg_build.proofs.Told.{leaf_term, opened, the_term, told_only}
use Rattle.sg_matching.specs.Refusal.{IsRefused}
use Rattle.sg_select.specs.Around.{kids}
use Rattle.sg_select.proofs.Leading.{child_live, held}
use Rattle.sg_search.specs.Found.{applies_to}
use Rattle.sg_search.specs.Made.{AreMade}
use Rattle.sg_search.specs.ReplacedAll.{given_to}
use Rattle.sg_search.specs.Walked.{hits}
use Rattle.sg_search.proofs.Children.{all_kids, kid_at, over_kids}
use Rattle.sg_search.proofs.Counting.{counted_made, fault_stops, stopped}
use Rattle.sg_search.proofs.Given.{not_known, not_matched, refused_at}
use Rattle.sg_search.proofs.replaced.+made.Goals as goal

pub made-returns-in-Ok-clause-made : goal.made-returns-in-Ok-clause-made
made-returns-in-Ok-clause-made t c = λ x holds.
    let g = c.args.terms.now in
    let live = c.requires.live in
    let p = live.node.label.phylum in
    let fits = held_fits g c.facts.ensures c.args.n live.node x live.found holds in
    counted_made g.spec c.args.name.now x p c.in-Ok.term c.args.left.now c.counted.new.left c.counted.result fits (c.in-Ok.ensures.given p x holds fits) (c.in-Ok.ensures.plain p x holds fits) (c.in-Ok.ensures.fits p x holds fits) c.counted.ensures.made

pub made-returns-in-Err-Outcome-clause-made : goal.made-returns-in-Err-Outcome-clause-made
made-returns-in-Err-Outcome-clause-made t c = λ x holds.
    let g = c.args.terms.now in
    let name = c.args.name.now in
    let live = c.requires.live in
    let p = live.node.label.phylum in
    let fits = held_fits g c.facts.ensures c.args.n live.node x live.found holds in
    let why = refused_at g.spec name x p c.in-Err-Outcome.field-0 fits (c.in-Err-Outcome.ensures.given p x holds fits) in
    fault_stops g.spec name x c.in-Err-Outcome.why (subst (λ e. IsRefused e (given_to g.spec name x)) c.in-Err-Outcome.field-0-is why)

-- none applies
pub made-returns-then-not-applies-clause-made : goal.made-returns-then-not-applies-clause-made
made-returns-then-not-applies-clause-made t c = λ x holds.
    c.below.ensures.made x holds (sym (c.applies.ensures c.args.name.now x c.requires.named holds) ∙ c.if-not-applies.true)

pub made-returns-in-Err-Unknown-clause-made : goal.made-returns-in-Err-Unknown-clause-made
made-returns-in-Err-Unknown-clause-made t c = λ x holds.
    let g = c.args.terms.now in
    let name = c.args.name.now in
    let live = c.requires.live in
    let p = live.node.label.phylum in
    let fits = held_fits g c.facts.ensures c.args.n live.node x live.found holds in
    let on = sym (c.applies.ensures name x c.requires.named holds) ∙ c.if-not-applies.false in
    let why = refused_at g.spec name x p c.in-Err-Unknown.field-0 fits (c.in-Err-Unknown.ensures.given p x holds fits) in
    absurd (false≢true (sym (not_known g.spec name x (subst (λ e. IsRefused e (given_to g.spec name x)) c.in-Err-Unknown.field-0-is why)) ∙ on))

pub made-returns-in-Err-NoMatch-clause-made : goal.made-returns-in-Err-NoMatch-clause-made
made-returns-in-Err-NoMatch-clause-made t c = λ x holds.
    let g = c.args.terms.now in
    let name = c.args.name.now in
    let live = c.requires.live in
    let p = live.node.label.phylum in
    let fits = held_fits g c.facts.ensures c.args.n live.node x live.found holds in
    let on = sym (c.applies.ensures name x c.requires.named holds) ∙ c.if-not-applies.false in
    let why = refused_at g.spec name x p c.in-Err-NoMatch.field-0 fits (c.in-Err-NoMatch.ensures.given p x holds fits) in
    absurd (false≢true (sym (not_matched g.spec name x (subst (λ e. IsRefused e (given_to g.spec name x)) c.in-Err-NoMatch.field-0-is why)) ∙ on))

-- a leaf
pub below-returns-in_default-clause-made : goal.below-returns-in_default-clause-made
below-returns-in_default-clause-made t c = λ x holds off.
    let g = c.args.terms.now in
    let hit = applies_to g.spec c.args.name.now in
    let leaf = leaf_term g c.facts.ensures c.args.n c.requires.live (sym c.op.ensures.op ∙ c.in_default.is) x holds in
    (subst (λ (z : Term). hits hit z ≡ false) (sym leaf.2) (subst (λ (z : Term). hit z ≡ false) leaf.2 off), refl)

pub below-kid_count-count-requires : goal.below-kid_count-count-requires
below-kid_count-count-requires t c = (opened c.args.terms.now c.facts.ensures c.args.n c.in-Some.op (sym c.op.ensures.op ∙ c.in-Some.is)).within

pub below-kid-kid-requires-clause-place : goal.below-kid-kid-requires-clause-place
below-kid-kid-requires-clause-place t c = λ x found.
    let arity = (opened c.args.terms.now c.facts.ensures c.args.n c.in-Some.op (sym c.op.ensures.op ∙ c.in-Some.is)).arity x found in
    let count = c.kid_count-count.ensures in
    let low = c.loop-k-test.true in
    omega (arith, arity, count, low)

pub below-joined-requires-clause-place : goal.below-joined-requires-clause-place
below-joined-requires-clause-place t c = λ x found.
    let arity = (opened c.args.terms.now c.facts.ensures c.args.n c.in-Some.op (sym c.op.ensures.op ∙ c.in-Some.is)).arity x found in
    let count = c.kid_count-count.ensures in
    let low = c.loop-k-test.true in
    omega (arith, arity, count, low)

pub below-returns-in_err-new-clause-made : goal.below-returns-in_err-new-clause-made
below-returns-in_err-new-clause-made t c = λ x holds off.
    let g = c.args.terms.now in
    let name = c.args.name.now in
    let k = c.loop-k.k in
    let kid = c.kid-kid.result in
    let hangs = c.kid-kid.ensures.child in
    let before = subst (λ (z : Term). AreMade g.spec name (take k (kids z)) c.args.left.now c.loop-k.left c.loop-k.row) (sym (told_only g c.facts.ensures c.args.n x holds)) c.loop-k.invariant.row in
    let stop = c.in_err-new.ensures.made (the_term g kid) (held g c.facts.ensures kid (child_live g c.facts.ensures kid c.args.n k hangs)) in
    let is = over_kids g c.facts.ensures c.args.n c.in-Some.op x (sym c.op.ensures.op ∙ c.in-Some.is) holds in
    let p = err_from_is_err_and c.from_residual.result c.from_residual.ensures.1 in
    rw (p.1, p.2)
    (stopped g.spec name x c.in-Some.op (scheme_of x) (elided_of x) (kids x) k (the_term g kid) c.args.left.now c.loop-k.left c.loop-k.row c.in_err-new.field-0.0 is off
    (kid_at g c.facts.ensures c.args.n kid k x c.requires.live hangs holds) before stop)

pub below-loop-k-preserved : goal.below-loop-k-preserved
below-loop-k-preserved t c =
    let g = c.args.terms.now in
    let x = the_term g c.args.n in
    let kid = c.kid-kid.result in
    let hangs = c.kid-kid.ensures.child in
    let holds = held g c.facts.ensures c.args.n c.requires.live in
    let below = held g c.facts.ensures kid (child_live g c.facts.ensures kid c.args.n c.loop-k.k hangs) in
    let fewer = c.in_ok-new.ensures.fewer in
    let before = c.loop-k.invariant.fewer in
    record {
      fewer = omega (arith, fewer, before);
      row = c.in_ok-row.ensures c.args.name.now x (the_term g kid) c.args.left.now c.loop-k.left c.made.new.left holds
          (kid_at g c.facts.ensures c.args.n kid c.loop-k.k x c.requires.live hangs holds) c.loop-k.invariant.row (c.in_ok-new.ensures.made (the_term g kid) below);
    }

pub below-returns-clause-made : goal.below-returns-clause-made
below-returns-clause-made t c = λ x holds off.
    let g = c.args.terms.now in
    let name = c.args.name.now in
    let k = c.loop-k.k in
    let count = c.kid_count-count.ensures in
    let past = c.loop-k-test.false in
    let before = subst (λ (z : Term). AreMade g.spec name (take k (kids z)) c.args.left.now c.loop-k.left c.loop-k.row) (sym (told_only g c.facts.ensures c.args.n x holds)) c.loop-k.invariant.row in
    let all = all_kids g c.facts.ensures c.args.n c.in-Some.op k x (sym c.op.ensures.op ∙ c.in-Some.is) holds (omega (arith, count, past)) in
    c.over.ensures name x c.args.left.now c.loop-k.left holds off (subst (λ l. AreMade g.spec name l c.args.left.now c.loop-k.left c.loop-k.row) all before)
