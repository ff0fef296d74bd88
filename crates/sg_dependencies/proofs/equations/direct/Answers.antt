use Rattle.std.specs.Prelude.{◌<◌, length}
use Rattle.std.proofs.Common.{ap, arith, rules}
use Rattle.sg_dependencies.proofs.Numbers.{frames_count}
use Rattle.sg_dependencies.proofs.Directs.{direct_none, direct_all, at_rule, at_step, target_below, args_below, step_more}
use Rattle.sg_dependencies.proofs.equations.direct.Goals as goal

pub loop-rule-init : goal.loop-rule-init
loop-rule-init c = direct_none c.args.rules.now c.args.frames.now c.in_ok-relations.relations.items c.requires.frames c.in_ok-relations.ensures

pub index_mut-requires : goal.index_mut-requires
index_mut-requires c =
    let r = at_rule c.args.rules.now c.as_slice-rule-items.result.now c.loop-rule.rule-index c.rule-item.result c.requires.rules c.as_slice-rule-items.ensures c.loop-rule-test.true c.rule-item.is in
    let low : c.operator-op.result < length c.loop-rule.relations.items = omega (arith, r.there, c.operator-op.ensures, c.loop-rule.invariant.count) in
    search rules

pub item-requires : goal.item-requires
item-requires c =
    let r = at_rule c.args.rules.now c.as_slice-rule-items.result.now c.loop-rule.rule-index c.rule-item.result c.requires.rules c.as_slice-rule-items.ensures c.loop-rule-test.true c.rule-item.is in
    omega (arith, r.there, c.operator-op.ensures, ap length c.requires.frames, frames_count c.args.rules.now)

pub relate-requires-clause-target : goal.relate-requires-clause-target
relate-requires-clause-target c =
    let at = at_step c.args.rules.now c.as_slice-rule-items.result.now c.args.frames.now c.loop-rule.relations.items c.loop-rule.rule-index c.operator-op.result c.rule-item.result c.item.result.now c.index_mut.result.now c.requires.rules c.as_slice-rule-items.ensures c.requires.frames c.loop-rule.invariant c.loop-rule-test.true c.rule-item.is c.operator-op.ensures c.item.ensures c.index_mut.ensures.value in
    target_below c.args.rules.now c.loop-rule.relations.items c.loop-rule.rule-index c.rule-item.result c.item.result.now c.index_mut.result.now c.requires.rules at

pub relate-requires-clause-args : goal.relate-requires-clause-args
relate-requires-clause-args c =
    let at = at_step c.args.rules.now c.as_slice-rule-items.result.now c.args.frames.now c.loop-rule.relations.items c.loop-rule.rule-index c.operator-op.result c.rule-item.result c.item.result.now c.index_mut.result.now c.requires.rules c.as_slice-rule-items.ensures c.requires.frames c.loop-rule.invariant c.loop-rule-test.true c.rule-item.is c.operator-op.ensures c.item.ensures c.index_mut.ensures.value in
    args_below c.args.rules.now c.loop-rule.relations.items c.loop-rule.rule-index c.rule-item.result c.item.result.now c.index_mut.result.now c.requires.rules at

pub loop-rule-preserved : goal.loop-rule-preserved
loop-rule-preserved c =
    let at = at_step c.args.rules.now c.as_slice-rule-items.result.now c.args.frames.now c.loop-rule.relations.items c.loop-rule.rule-index c.operator-op.result c.rule-item.result c.item.result.now c.index_mut.result.now c.requires.rules c.as_slice-rule-items.ensures c.requires.frames c.loop-rule.invariant c.loop-rule-test.true c.rule-item.is c.operator-op.ensures c.item.ensures c.index_mut.ensures.value in
    step_more c.args.rules.now c.loop-rule.relations.items c.loop-rule.rule-index c.operator-op.result c.rule-item.result c.item.result.now c.index_mut.result.now c.relate.new.relation c.requires.rules c.loop-rule.invariant at c.operator-op.ensures c.relate.ensures.size c.relate.ensures.relates

pub returns : goal.returns
returns c = record {
  count = c.loop-rule.invariant.count;
  each = direct_all c.args.rules.now c.loop-rule.relations.items c.loop-rule.rule-index c.loop-rule.invariant (omega (arith, ap length c.as_slice-rule-items.ensures, c.loop-rule-test.false));
}
