use Rattle.std.proofs.Common.{◌+◌, ◌-◌, ◌/◌, arith}
use Rattle.sg_lalr.proofs.PlaceLemmas.{NodeBefore, node-falls, node-only, halved-up}
use Rattle.sg_lalr.proofs.places.place_of.Goals as goal

pub returns-clause-only : goal.returns-clause-only
returns-clause-only c = node-only c.args.nodes.now c.args.from c.args.to c.halves.low c.halves.high c.args.item c.requires.rising (omega arith) c.halves.invariant

pub halves-preserved-then-is_before : goal.halves-preserved-then-is_before
halves-preserved-then-is_before c =
    let nodes = c.args.nodes.now in
    halved-up (NodeBefore nodes c.args.item) c.args.from c.args.to (node-falls nodes c.args.from c.args.to c.args.item c.requires.rising) c.halves.low c.halves.high (c.halves.low + (c.halves.high - c.halves.low) / 2) (omega arith) (omega arith)
    (c.is_before.ensures.0 c.if-is_before.true) c.halves.invariant
