use Rattle.std.proofs.Common.{◌-◌, List, Option, ℕ, ap, ◌∙◌, sym, arith}
use Rattle.sg_shapes.specs.Counts.{next_counts, no_counts}
use Rattle.sg_shapes.proofs.Counted.{rounds_none, rounds_more, rounds_same, rounds_all}
use Rattle.sg_shapes.proofs.counts.counts.Goals as goal

pub loop-round-init : goal.loop-round-init
loop-round-init c = rounds_none c.args.phyla.now c.args.ops.now c.args.depth c.in_ok-counts.counts.items (no_counts c.args.phyla.now) c.in_ok-counts.ensures

pub returns-then-are_same : goal.returns-then-are_same
returns-then-are_same c =
    rounds_same c.args.phyla.now c.args.ops.now (c.args.depth - c.loop-round.round) c.loop-round.counts.items c.in_ok-next.next.items
    (c.in_ok-next.ensures ∙ ap (λ (t : List (Option ℕ)). next_counts c.args.phyla.now c.args.ops.now t) c.deref.ensures.value)
    (sym c.deref-in-loop-round.ensures.value ∙ c.are_same.ensures.0 c.if-are_same.true ∙ c.deref-in-loop-round-2.ensures.value) c.loop-round.invariant

pub loop-round-preserved : goal.loop-round-preserved
loop-round-preserved c =
    rounds_more c.args.phyla.now c.args.ops.now c.args.depth c.loop-round.round c.loop-round.counts.items c.in_ok-next.next.items (omega arith)
    (c.in_ok-next.ensures ∙ ap (λ (t : List (Option ℕ)). next_counts c.args.phyla.now c.args.ops.now t) c.deref.ensures.value) c.loop-round.invariant

pub returns : goal.returns
returns c = rounds_all c.args.phyla.now c.args.ops.now c.args.depth c.loop-round.round c.loop-round.counts.items (omega arith) c.loop-round.invariant
