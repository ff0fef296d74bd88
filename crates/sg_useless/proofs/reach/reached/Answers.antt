use Rattle.std.proofs.Common.{List, Bool, length, ap, ◌∙◌}
use Rattle.sg_useless.proofs.Flags.{reached_first, reached_more}
use Rattle.sg_useless.proofs.reach.reached.Goals as goal

pub loop-round-init : goal.loop-round-init
loop-round-init c = record {
  flags = reached_first c.args.width c.args.starts.now c.args.steps.now c.in_ok-flags.flags.items c.in_ok-flags.ensures.flags;
  width = c.in_ok-flags.ensures.width;
}

pub loop-round-preserved : goal.loop-round-preserved
loop-round-preserved c = record {
  flags = reached_more c.args.width c.args.starts.now c.args.steps.now c.loop-round._round c.loop-round.flags.items c.deref.result.now c.in_ok-flags-2.flags.items
      c.loop-round.invariant.flags c.loop-round.invariant.width c.deref.ensures.value c.in_ok-flags-2.ensures.flags;
  width = c.in_ok-flags-2.ensures.width ∙ ap (λ (l : List Bool). length l) c.deref.ensures.value ∙ c.loop-round.invariant.width;
}
