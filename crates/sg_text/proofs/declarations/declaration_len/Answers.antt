use Rattle.std.proofs.Common.{arith, ◌+◌}
use Rattle.std.proofs.lemmas.Grind.{common_steps}
use Rattle.sg_text.proofs.CutLemmas.{cuts-first}
use Rattle.sg_text.proofs.declarations.declaration_len.Goals as goal

pub returns-in-Symbol-Semicolon-clause-cuts : goal.returns-in-Symbol-Semicolon-clause-cuts
returns-in-Symbol-Semicolon-clause-cuts c =
    cuts-first (c.loop-place.place + 1) c.args.tokens.now (grind (arith, common_steps))

pub returns-clause-cuts : goal.returns-clause-cuts
returns-clause-cuts c = cuts-first _ c.args.tokens.now (grind (arith, common_steps))
