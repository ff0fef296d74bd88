use Rattle.std.proofs.Common.{ap, [], ◌∷◌}
use Rattle.sg_kinds.specs.Pieces.{escape}
use Rattle.sg_kinds.specs.declared.spec.Piece.TheVariants as piece
use Rattle.sg_views.proofs.PiecesMade.{escape_steps, percent_escaped}
use Rattle.sg_views.proofs.pieces.Writing.with_escape.Goals as goal

pub returns-in_ok-with_newline-in-110 : goal.returns-in_ok-with_newline-in-110
returns-in_ok-with_newline-in-110 c = λ rest. let arm = c.in_ok-with_newline-in-110 in escape_steps c.args.self arm.field-0 c.args.byte piece.Newline rest arm.ensures c.requires (ap escape c.in-110.is)

pub returns-in_ok-with_on-in-116 : goal.returns-in_ok-with_on-in-116
returns-in_ok-with_on-in-116 c = λ rest. let arm = c.in_ok-with_on-in-116 in escape_steps c.args.self arm.field-0 c.args.byte (piece.Margin 0 1) rest arm.ensures c.requires (ap escape c.in-116.is)

pub returns-in_ok-with_back-in-98 : goal.returns-in_ok-with_back-in-98
returns-in_ok-with_back-in-98 c = λ rest. let arm = c.in_ok-with_back-in-98 in escape_steps c.args.self arm.field-0 c.args.byte (piece.Margin 1 0) rest arm.ensures c.requires (ap escape c.in-98.is)

pub returns-in_ok-with_written-in-37 : goal.returns-in_ok-with_written-in-37
returns-in_ok-with_written-in-37 c = λ rest. let arm = c.in_ok-with_written-in-37 in escape_steps c.args.self arm.field-0 c.args.byte (piece.Written (c.args.byte ∷ [])) rest arm.ensures c.requires (percent_escaped c.args.byte c.in-37.is)
