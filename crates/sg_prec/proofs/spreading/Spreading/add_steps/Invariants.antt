use Rattle.std.proofs.Common.{◌≡◌, ◌++◌, map}
use Rattle.sg_kinds.specs.Instances.{below}
use Rattle.sg_prec.specs.Sources.{spread_from}
use Rattle.sg_prec.specs.Spread.{chain}
use Rattle.sg_prec.proofs.spreading.Spreading.add_steps.Given as goal

abbrev pub invariant-loop-level : goal.invariant-loop-level
invariant-loop-level l = map spread_from l.all.items ≡ map spread_from l.fn.all.items ++ map (chain l.self.lines.lines.now l.self.written.now l.n) (below l.level)
