use Rattle.std.proofs.Common.{sym, ap, ◌∙◌}
use Rattle.sg_cursor.specs.Left.{left_of}
use Rattle.sg_clauses.specs.declared.repeated.Ahead.{Ahead}
use Rattle.sg_clauses.specs.Repeats.{is_ahead}
use Rattle.sg_clauses.proofs.repeated.stands.Goals as goal

pub returns-in-Sign : goal.returns-in-Sign
returns-in-Sign c = c.sees_sign.ensures ∙ ap (λ (a : Ahead). is_ahead a (left_of c.args.tokens.now)) (sym c.in-Sign.is)

pub returns-in-Reserved : goal.returns-in-Reserved
returns-in-Reserved c = c.sees_reserved.ensures ∙ ap (λ (a : Ahead). is_ahead a (left_of c.args.tokens.now)) (sym c.in-Reserved.is)
