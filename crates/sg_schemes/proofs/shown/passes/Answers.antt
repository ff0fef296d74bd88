use Rattle.std.proofs.Common.{◌-◌, List, Bool, ap, ◌∙◌, sym, arith}
use Rattle.sg_schemes.specs.ShownFlags.{pass}
use Rattle.sg_schemes.proofs.Flags.{passes_more, passes_end, passes_same}
use Rattle.sg_schemes.proofs.shown.passes.Goals as goal

pub returns-then-are_same : goal.returns-then-are_same
returns-then-are_same c =
    passes_same (c.args.count - c.loop-round.round) c.args.ops.now c.loop-round.flags.items c.in_ok-next.next.items (c.in_ok-next.ensures ∙ ap (λ (f : List Bool). pass f c.args.ops.now) c.deref.ensures.value)
    (sym c.deref-in-loop-round.ensures.value ∙ c.are_same.ensures.0 c.if-are_same.true ∙ c.deref-in-loop-round-2.ensures.value) c.loop-round.invariant

pub loop-round-preserved : goal.loop-round-preserved
loop-round-preserved c =
    passes_more c.args.count c.loop-round.round c.args.ops.now c.loop-round.flags.items c.in_ok-next.next.items (omega arith) (c.in_ok-next.ensures ∙ ap (λ (f : List Bool). pass f c.args.ops.now) c.deref.ensures.value)
    c.loop-round.invariant

pub returns : goal.returns
returns c = passes_end c.args.count c.loop-round.round c.args.ops.now c.loop-round.flags.items (omega arith) c.loop-round.invariant
