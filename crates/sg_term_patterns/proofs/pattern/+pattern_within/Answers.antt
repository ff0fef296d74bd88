use Rattle.std.proofs.Common.{◌≡◌, ap, arith}
use Rattle.sg_ast.specs.ReadingNames.{pattern_within}
use Rattle.sg_cursor.specs.Left.{left_of}
use Rattle.sg_cursor.proofs.Turns.{deeper}
use Rattle.sg_term_patterns.proofs.pattern.+pattern_within.Goals as goal

pub returns-then-depth-eq0 : goal.returns-then-depth-eq0
unfolding pattern_within
returns-then-depth-eq0 t c _ = let none : c.args.depth ≡ 0 = omega arith in ap (λ n. pattern_within n (left_of c.args.tokens.now)) none

pub returns : goal.returns
unfolding pattern_within
returns t c = rw (deeper (λ n. pattern_within n (left_of c.args.tokens.now)) c.args.depth (omega arith)) c.pattern.ensures
