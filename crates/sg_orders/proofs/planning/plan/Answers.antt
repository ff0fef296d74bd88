use Rattle.std.specs.Prelude.{◌≡◌, ◌<◌, length}
use Rattle.std.proofs.Common.{ap, arith, rules}
use Rattle.sg_dependencies.proofs.Numbers.{frames_count}
use Rattle.sg_orders.proofs.Plans.{next_operator, planned_more, valid_by}
use Rattle.sg_orders.proofs.planning.plan.Goals as goal

pub index-requires : goal.index-requires
index-requires c =
    let low : c.loop-op.op < length c.in_ok-owned.owned.items = let n = c.in_ok-owned.ensures.count in omega (arith, ap length c.requires.frames, frames_count c.args.rules.now, n) in
    search rules

pub behind-requires : goal.behind-requires
behind-requires c = let n = c.requires.timing.places in omega (arith, ap length c.requires.frames, frames_count c.args.rules.now, n)

pub steps-requires : goal.steps-requires
steps-requires c =
    let low : c.loop-op.op < length c.args.frames.now = omega arith in
    let rules = c.args.rules.now in
    let n = next_operator rules c.args.frames.now c.index-frames-op.result c.in_ok-owned.owned.items c.index.result.now c.as_slice-own.result.now c.loop-op.op c.requires.frames low c.index-frames-op.is c.in_ok-owned.ensures c.index.ensures c.as_slice-own.ensures in
    record {
      scene = record { range = c.requires.range; proper = c.requires.proper; timing_is = c.requires.timing; there = n.there; frame_is = n.frame_is; end_is = c.behind.ensures.exact; end_low = c.behind.ensures.low };
      own = n.own_is;
    }

pub loop-op-preserved : goal.loop-op-preserved
loop-op-preserved c =
    planned_more c.args.rules.now c.args.timing c.loop-op.all_steps.items c.push.new.self.items c.loop-op.op c.in_ok-steps.field-0 c.loop-op.invariant c.in_ok-steps.ensures c.in_ok-push.ensures.items

pub returns : goal.returns
returns c =
    let end : c.loop-op.op ≡ length c.args.rules.now.ops = omega (arith, ap length c.requires.frames, frames_count c.args.rules.now) in
    valid_by c.args.rules.now c.args.timing c.loop-op.all_steps.items c.loop-op.op c.requires.timing c.loop-op.invariant end c.new.result c.new.ensures
