use Rattle.std.proofs.Common.{◌≡◌, [], ◌∷◌, ◌++◌, sym, ◌∙◌}
use Rattle.std.proofs.lemmas.Result.{err_from_is_err_and}
use Rattle.sg_text.specs.declared.symbols.Symbol.TheVariants as sign
use Rattle.sg_ast.specs.Readers.{is_sign, sees}
use Rattle.sg_ast.specs.ReadingNames.{another, pair}
use Rattle.sg_cursor.specs.Left.{left_of}
use Rattle.sg_cursor.proofs.Turns.{goes_on, fails, stops, ends}
use Rattle.sg_expressions.proofs.remote.other_pairs.Goals as goal

pub returns-then-not-sees_sign : goal.returns-then-not-sees_sign
returns-then-not-sees_sign c =
    stops (sees (is_sign sign.Comma)) (another pair) c.len-turn-end.result c.loop-turn._turn c.loop-turn.found.items (left_of c.loop-turn.tokens) c.loop-turn-test.true (sym c.sees_sign.ensures ∙ c.if-not-sees_sign.true) c.loop-turn.invariant

pub returns-in_err-another_pair : goal.returns-in_err-another_pair
returns-in_err-another_pair c =
    let p = err_from_is_err_and c.from_residual.result c.from_residual.ensures.1 in
    rw (p.1, p.2) (λ no. fails (sees (is_sign sign.Comma)) (another pair) c.len-turn-end.result c.loop-turn._turn c.loop-turn.found.items (left_of c.loop-turn.tokens) c.loop-turn-test.true (sym c.sees_sign.ensures ∙ c.if-not-sees_sign.false) (c.in_err-another_pair.ensures no) c.loop-turn.invariant)

pub loop-turn-preserved : goal.loop-turn-preserved
loop-turn-preserved c =
    let pushed : c.push.new.self.items ≡ c.loop-turn.found.items ++ c.in_ok-another_pair.field-0 ∷ [] = c.in_ok-push.ensures.items in
    rw pushed (goes_on (sees (is_sign sign.Comma)) (another pair) c.len-turn-end.result c.loop-turn._turn c.loop-turn.found.items (left_of c.loop-turn.tokens) _ c.in_ok-another_pair.field-0 c.loop-turn-test.true (sym c.sees_sign.ensures ∙ c.if-not-sees_sign.false) c.in_ok-another_pair.ensures c.loop-turn.invariant)

pub returns : goal.returns
returns c = ends (sees (is_sign sign.Comma)) (another pair) c.len-turn-end.result c.loop-turn._turn c.loop-turn.found.items (left_of c.loop-turn.tokens) c.loop-turn-test.false c.loop-turn.invariant
