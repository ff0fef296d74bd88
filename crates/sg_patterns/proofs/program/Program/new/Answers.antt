use Rattle.std.proofs.Common.{[], map, take, arith, length, ◌<◌}
use Rattle.sg_kinds.specs.LexemeCode.{acts}
use Rattle.sg_kinds.specs.LexemeView.{instruction_of}
use Rattle.sg_patterns.proofs.Holding.{acts-step}
use Rattle.sg_patterns.proofs.program.Program.new.Goals as goal

pub loop-step-preserved : goal.loop-step-preserved
loop-step-preserved c =
    let items = c.as_slice-step-items.result.now in
    let i = c.loop-step.step-index in
    let less : i < length items = omega arith in
    rw (acts-step instruction_of items i c.step-item.result [] less c.step-item.is) (c.in_ok-add.ensures (acts (map instruction_of (take i items)) []) c.loop-step.invariant)
