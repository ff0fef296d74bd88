use Rattle.std.proofs.Common.{◌≡◌, map, arith}
use Rattle.sg_kinds.specs.Instances.{below}
use Rattle.sg_prec.specs.Levels.{height, named_over}
use Rattle.sg_prec.specs.Sources.{spread_from}
use Rattle.sg_prec.specs.Spread.{chain, spread_rule}
use Rattle.sg_prec.proofs.Made.{spread_is, steps_more}
use Rattle.sg_prec.proofs.spreading.spread.Goals as goal

pub loop-n-preserved : goal.loop-n-preserved
loop-n-preserved c =
    let lines = c.in_ok-spreading.spreading.lines.lines.now in
    let ps = c.in_ok-spreading.spreading.written.now in
    steps_more (λ N. map (chain lines ps N) (below (height lines ps N))) c.loop-n.n (map (spread_rule lines ps) c.args.written.now) (map spread_from c.loop-n.all.items) (map spread_from c.add_steps.new.all.items)
    c.loop-n.invariant c.in_ok-add_steps.ensures

pub returns : goal.returns
returns c =
    let s = c.in_ok-spreading in
    let count : c.loop-n.n ≡ named_over c.args.written.now = omega (arith, c.loop-n-test.false, c.loop-n.auto.n-end, c.named_over-n-end.ensures.count) in
    spread_is c.args.lines.now s.spreading.lines.lines.now c.args.written.now s.spreading.written.now c.loop-n.n (map spread_from c.loop-n.all.items) s.ensures.lines s.ensures.written count c.loop-n.invariant
