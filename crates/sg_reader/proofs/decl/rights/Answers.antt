use Rattle.std.proofs.Common.{◌≡◌, [], ◌∷◌, ◌++◌, sym, ◌∙◌, map}
use Rattle.std.proofs.lemmas.Result.{err_from_is_err_and}
use Rattle.std.proofs.lemmas.List.{map_push}
use Rattle.sg_text.specs.declared.symbols.Symbol.TheVariants as sign
use Rattle.sg_ast.specs.Readers.{is_sign, sees}
use Rattle.sg_ast.specs.Reading.{other, right}
use Rattle.sg_ast.specs.View.{right_of}
use Rattle.sg_cursor.specs.Left.{left_of}
use Rattle.sg_cursor.proofs.Turns.{goes_on, fails, stops, ends}
use Rattle.sg_reader.proofs.decl.rights.Goals as goal

pub returns-then-not-sees_sign : goal.returns-then-not-sees_sign
returns-then-not-sees_sign c =
    stops (sees (is_sign sign.Bar)) (other right) c.len-turn-end.result c.loop-turn._turn (map right_of c.loop-turn.found.items) (left_of c.loop-turn.tokens) c.loop-turn-test.true (sym c.sees_sign.ensures ∙ c.if-not-sees_sign.true) c.loop-turn.invariant

pub returns-in_err-other_right : goal.returns-in_err-other_right
returns-in_err-other_right c =
    let p = err_from_is_err_and c.from_residual.result c.from_residual.ensures.1 in
    rw (p.1, p.2) (λ no. fails (sees (is_sign sign.Bar)) (other right) c.len-turn-end.result c.loop-turn._turn (map right_of c.loop-turn.found.items) (left_of c.loop-turn.tokens) c.loop-turn-test.true (sym c.sees_sign.ensures ∙ c.if-not-sees_sign.false) (c.in_err-other_right.ensures no) c.loop-turn.invariant)

pub loop-turn-preserved : goal.loop-turn-preserved
loop-turn-preserved c =
    let pushed : map right_of c.push.new.self.items ≡ map right_of c.loop-turn.found.items ++ (right_of c.in_ok-other_right.field-0) ∷ [] = rw c.in_ok-push.ensures.items (map_push _ c.loop-turn.found.items c.in_ok-other_right.field-0) in
    rw pushed (goes_on (sees (is_sign sign.Bar)) (other right) c.len-turn-end.result c.loop-turn._turn (map right_of c.loop-turn.found.items) (left_of c.loop-turn.tokens) _ (right_of c.in_ok-other_right.field-0) c.loop-turn-test.true (sym c.sees_sign.ensures ∙ c.if-not-sees_sign.false) c.in_ok-other_right.ensures c.loop-turn.invariant)

pub returns : goal.returns
returns c = ends (sees (is_sign sign.Bar)) (other right) c.len-turn-end.result c.loop-turn._turn (map right_of c.loop-turn.found.items) (left_of c.loop-turn.tokens) c.loop-turn-test.false c.loop-turn.invariant
