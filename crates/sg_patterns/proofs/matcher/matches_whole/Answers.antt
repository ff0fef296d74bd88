use Rattle.std.proofs.Common.{◌<◌, length, arith}
use Rattle.std.proofs.lemmas.Bool.{eqb-true, eq-eqb}
use Rattle.sg_patterns.proofs.WholeTexts.{length-matches, matches-length}
use Rattle.sg_patterns.proofs.matcher.matches_whole.Goals as goal

pub longest_from-requires-clause-known : goal.longest_from-requires-clause-known
longest_from-requires-clause-known c = c.none-failures.ensures c.args.program.now c.args.text.now

pub returns : goal.returns
returns c p h =
    let text = c.args.text.now in
    let len = c.longest_from.result in
    let is = c.longest_from.ensures.longest p h in
    let empty = c.if-is_empty.false in
    let some : 0 < length text = grind (arith, empty, c.is_empty.ensures) in
    (λ e. length-matches p text len is some (eqb-true len (length text) e), λ m. eq-eqb len (length text) (matches-length p text len is m))
