use Rattle.std.proofs.Common.{w64}
use Rattle.std.proofs.lemmas.Int.{to_z-of_z}
use Rattle.sg_eval.proofs.numbers.arithmetic.Goals as goal

pub returns-in-Div : goal.returns-in-Div
returns-in-Div c = λ last left. rw c.in-Div.is (rw (to_z-of_z w64 c.args.x c.ranges.x, to_z-of_z w64 c.args.y c.ranges.y) at (c.quotient.ensures last left))

pub returns-in-Rem : goal.returns-in-Rem
returns-in-Rem c = λ last left. rw c.in-Rem.is (rw (to_z-of_z w64 c.args.x c.ranges.x, to_z-of_z w64 c.args.y c.ranges.y) at (c.remainder.ensures last left))
