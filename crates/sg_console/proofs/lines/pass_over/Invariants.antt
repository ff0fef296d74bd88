use Rattle.sg_console.proofs.LineLemmas.{IsPassing}
use Rattle.sg_console.proofs.lines.pass_over.Given as goal

abbrev pub invariant-loop : goal.invariant-loop
invariant-loop g l = IsPassing (g.R.Read.remaining l.initial.reader) (g.R.Read.remaining l.reader) l.some
