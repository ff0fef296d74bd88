use Rattle.sg_typing.proofs.Kept.{expr_kept, expr_typed}
use Rattle.sg_typing.proofs.laws.expressions_are_typed.Goals as goal

pub returns : goal.returns
returns c = record { kept = expr_kept; typed = expr_typed }
