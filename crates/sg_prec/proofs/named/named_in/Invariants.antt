use Rattle.std.proofs.Common.{◌≡◌, ◌≤◌, ◌^◌, drop}
use Rattle.std.specs.Prelude.{max}
use Rattle.sg_prec.specs.Levels.{named_in}
use Rattle.sg_prec.proofs.named.named_in.Given as goal

abbrev pub invariant-loop-symbol : goal.invariant-loop-symbol
invariant-loop-symbol l = (max l.most (named_in (drop l.symbol-index l.symbols)) ≡ named_in l.symbols) × (l.most ≤ 2 ^ 32)
