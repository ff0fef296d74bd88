use Rattle.std.proofs.Common.{refl, arith}
use Rattle.std.proofs.lemmas.Bool.{false≢true}
use Rattle.sg_groves.proofs.Held.{part_held}
use Rattle.sg_build.proofs.Placed.{placed, part_nodes, is_whole}
use Rattle.sg_build.proofs.replaced.counts_replaced.Goals as goal

pub overflow_sub-rest : goal.overflow_sub-rest
overflow_sub-rest c =
    let g = c.args.terms.now in
    let p = placed g c.facts.ensures c.args.at c.requires.live in
    let part = part_held g c.facts.ensures p.2 c.args.at p.0 p.1 p.3.way p.3.holds in
    let fewer = part_nodes p.1 p.2 part.0 part.2 in
    let all = c.requires.known p.0 p.1 p.2 p.3 in
    let below = (c.counts_below.ensures part.0 part.1).nodes in
    omega (arith, fewer, all, below)

pub returns-then-are_within-clause-small : goal.returns-then-are_within-clause-small
returns-then-are_within-clause-small c = λ root whole s u p t.
    let g = c.args.terms.now in
    let part = part_held g c.facts.ensures u c.args.at root whole p.way p.holds in
    let flat = c.requires.steps root whole u p in
    let fits = c.ranges.steps.fits in
    let w = is_whole whole u part.0 s c.args.known c.args.steps c.saturating_add-nodes.result c.saturating_add-depth.result c.counts_below.result c.args.t.now part.2 (c.requires.known root whole u p) (c.requires.within root whole u p)
    (c.counts_below.ensures part.0 part.1) t (omega (arith, flat, fits)) c.saturating_add-nodes.ensures c.saturating_add-depth.ensures in
    let within = c.if-are_within.ensures.0 refl in
    (λ _. w.small within.0 within.1, λ _. refl)

pub returns-then-are_within-clause-nodes : goal.returns-then-are_within-clause-nodes
returns-then-are_within-clause-nodes c = λ root whole s u p t.
    let g = c.args.terms.now in
    let part = part_held g c.facts.ensures u c.args.at root whole p.way p.holds in
    let flat = c.requires.steps root whole u p in
    let fits = c.ranges.steps.fits in
    let w = is_whole whole u part.0 s c.args.known c.args.steps c.saturating_add-nodes.result c.saturating_add-depth.result c.counts_below.result c.args.t.now part.2 (c.requires.known root whole u p) (c.requires.within root whole u p)
    (c.counts_below.ensures part.0 part.1) t (omega (arith, flat, fits)) c.saturating_add-nodes.ensures c.saturating_add-depth.ensures in
    let few = (c.if-are_within.ensures.0 refl).0 in
    let count = w.count in
    omega (arith, few, count)

pub returns-clause-small : goal.returns-clause-small
returns-clause-small c = λ root whole s u p t.
    let g = c.args.terms.now in
    let part = part_held g c.facts.ensures u c.args.at root whole p.way p.holds in
    let flat = c.requires.steps root whole u p in
    let fits = c.ranges.steps.fits in
    let w = is_whole whole u part.0 s c.args.known c.args.steps c.saturating_add-nodes.result c.saturating_add-depth.result c.counts_below.result c.args.t.now part.2 (c.requires.known root whole u p) (c.requires.within root whole u p)
    (c.counts_below.ensures part.0 part.1) t (omega (arith, flat, fits)) c.saturating_add-nodes.ensures c.saturating_add-depth.ensures in
    (λ e. absurd (false≢true e), λ is. c.if-are_within.ensures.1 (w.few is, w.flat is))

pub returns-clause-counts : goal.returns-clause-counts
returns-clause-counts c = λ root whole s u p t.
    let g = c.args.terms.now in
    let part = part_held g c.facts.ensures u c.args.at root whole p.way p.holds in
    let flat = c.requires.steps root whole u p in
    let fits = c.ranges.steps.fits in
    let w = is_whole whole u part.0 s c.args.known c.args.steps c.saturating_add-nodes.result c.saturating_add-depth.result c.counts_below.result c.args.t.now part.2 (c.requires.known root whole u p) (c.requires.within root whole u p)
    (c.counts_below.ensures part.0 part.1) t (omega (arith, flat, fits)) c.saturating_add-nodes.ensures c.saturating_add-depth.ensures in
    record { nodes = w.count; depth = c.depth_over.ensures root whole s u p t.depth }
