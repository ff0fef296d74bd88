use Rattle.std.proofs.Common.{rules, arith, ◌<◌, length, ap, sym, ◌∙◌, subst, map, true, false}
use Rattle.sg_kinds.specs.Values.{row_of}
use Rattle.sg_kinds.specs.PatternView.{pattern_of, patterns_of}
use Rattle.sg_kinds.specs.Evaluation.{bound_by, nothing_if}
use Rattle.sg_pool.specs.Pools.{value_at}
use Rattle.sg_eval.specs.Lives.{value_in, IsMatched}
use Rattle.sg_eval.proofs.Matched.{weights_of, all_rest, matched_if, matched_not, matched_both, matched_tree, if_ok_more}
use Rattle.sg_eval.proofs.patterns.+fitting.Goals as goal

pub all_fit-all_fit-requires : goal.all_fit-all_fit-requires
all_fit-all_fit-requires t c =
    let fall : weights_of (patterns_of c.deref-in-More.result.now) < weights_of (patterns_of c.args.patterns.now) = rw (c.deref-in-More.ensures, c.in-More.is) (omega arith) in
    (search (rules, fall), (all_rest (length c.args.given.now.pool.now) c.in-Some.kid.now c.args.kids.now c.in-Some.kids.now c.in-Some.ensures.cases.0 c.requires.known, c.requires.made))

pub fits-returns-in-Made : goal.fits-returns-in-Made
fits-returns-in-Made t c =
    if_ok_more c.is_made.result _ _
    (λ b e. matched_if _ _ _ _ (ap (λ p. bound_by c.args.given.now.spec.now (pattern_of p) (value_in c.args.given.now.pool.now c.args.x)) c.in-Made.is ∙ ap nothing_if (sym e))) c.is_made.ensures

pub fits-returns-in-Some : goal.fits-returns-in-Some
fits-returns-in-Some t c =
    rw c.in-Operator.is
    (if_ok_more c.all_fit.result _ _
    (λ b m. matched_tree c.args.given.now.spec.now c.args.given.now.pool.now _ _ c.args.x c.in-Some.kids.now c.args.bound.now.items c.all_fit.new.bound.items b c.in-Some.ensures.value m) c.all_fit.ensures)

pub all_fit-returns-else-not-branch : goal.all_fit-returns-else-not-branch
all_fit-returns-else-not-branch t c =
    let pool = c.args.given.now.pool.now in
    let spec = c.args.given.now.spec.now in
    let kid = c.in-Some.kid.now in
    let kids = row_of (map (value_at pool) c.in-Some.kids.now) in
    let first = subst (IsMatched pool _ c.args.bound.now.items c.fits.new.bound.items) c.if-not-branch.false c.in_ok-fits-in-More.ensures in
    let here : IsMatched pool (bound_by spec (pattern_of c.in-More.first.value) (value_at pool kid)) c.args.bound.now.items c.fits.new.bound.items true
    = subst (λ k. IsMatched pool (bound_by spec (pattern_of c.in-More.first.value) (value_at pool k)) c.args.bound.now.items c.fits.new.bound.items true) c.kid.view_is
    (subst (λ p. IsMatched pool (bound_by spec (pattern_of p) (value_at pool c.kid.inside.number)) c.args.bound.now.items c.fits.new.bound.items true) c.deref.ensures first) in
    rw (c.in-More.is, c.in-Some.ensures.cases.0)
    (if_ok_more c.all_fit.result _ _ (λ b m.
    matched_both spec pool (pattern_of c.in-More.first.value) (patterns_of c.in-More.rest.value) (value_at pool kid) kids
    c.args.bound.now.items c.fits.new.bound.items c.all_fit.new.bound.items b here
    (rw c.deref-in-More.ensures at m)) c.all_fit.ensures)

pub all_fit-returns-then-not-branch : goal.all_fit-returns-then-not-branch
all_fit-returns-then-not-branch t c =
    let pool = c.args.given.now.pool.now in
    let spec = c.args.given.now.spec.now in
    let kid = c.in-Some.kid.now in
    let kids = row_of (map (value_at pool) c.in-Some.kids.now) in
    let first = subst (IsMatched pool _ c.args.bound.now.items c.fits.new.bound.items) c.if-not-branch.true c.in_ok-fits-in-More.ensures in
    let here : IsMatched pool (bound_by spec (pattern_of c.in-More.first.value) (value_at pool kid)) c.args.bound.now.items c.fits.new.bound.items false
    = subst (λ k. IsMatched pool (bound_by spec (pattern_of c.in-More.first.value) (value_at pool k)) c.args.bound.now.items c.fits.new.bound.items false) c.kid.view_is
    (subst (λ p. IsMatched pool (bound_by spec (pattern_of p) (value_at pool c.kid.inside.number)) c.args.bound.now.items c.fits.new.bound.items false) c.deref.ensures first) in
    rw (c.in-More.is, c.in-Some.ensures.cases.0)
    (matched_not spec pool (pattern_of c.in-More.first.value) (patterns_of c.in-More.rest.value) (value_at pool kid) kids c.args.bound.now.items c.fits.new.bound.items here)
