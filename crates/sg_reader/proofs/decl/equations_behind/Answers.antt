use Rattle.std.proofs.Common.{◌≡◌, [], ◌∷◌, ◌++◌, sym, ◌∙◌, map}
use Rattle.std.proofs.lemmas.Result.{err_from_is_err_and}
use Rattle.std.proofs.lemmas.List.{map_push}
use Rattle.sg_text.specs.declared.symbols.Symbol.TheVariants as sign
use Rattle.sg_ast.specs.Readers.{is_sign}
use Rattle.sg_ast.specs.Reading.{equation, sees_other}
use Rattle.sg_ast.specs.View.{equation_of}
use Rattle.sg_cursor.specs.Left.{left_of}
use Rattle.sg_cursor.proofs.Turns.{goes_on, fails, stops, ends}
use Rattle.sg_reader.proofs.decl.equations_behind.Goals as goal

pub returns-then-not-sees_other : goal.returns-then-not-sees_other
returns-then-not-sees_other c =
    stops (sees_other (is_sign sign.RightBrace)) equation c.len-turn-end.result c.loop-turn._turn (map equation_of c.loop-turn.found.items) (left_of c.loop-turn.tokens) c.loop-turn-test.true (sym c.sees_other.ensures ∙ c.if-not-sees_other.true) c.loop-turn.invariant

pub returns-in_err-equation : goal.returns-in_err-equation
returns-in_err-equation c =
    let p = err_from_is_err_and c.from_residual.result c.from_residual.ensures.1 in
    rw (p.1, p.2) (λ no. fails (sees_other (is_sign sign.RightBrace)) equation c.len-turn-end.result c.loop-turn._turn (map equation_of c.loop-turn.found.items) (left_of c.loop-turn.tokens) c.loop-turn-test.true (sym c.sees_other.ensures ∙ c.if-not-sees_other.false) (c.in_err-equation.ensures no) c.loop-turn.invariant)

pub loop-turn-preserved : goal.loop-turn-preserved
loop-turn-preserved c =
    let pushed : map equation_of c.push.new.self.items ≡ map equation_of c.loop-turn.found.items ++ (equation_of c.in_ok-equation.field-0) ∷ [] = rw c.in_ok-push.ensures.items (map_push _ c.loop-turn.found.items c.in_ok-equation.field-0) in
    rw pushed (goes_on (sees_other (is_sign sign.RightBrace)) equation c.len-turn-end.result c.loop-turn._turn (map equation_of c.loop-turn.found.items) (left_of c.loop-turn.tokens) _ (equation_of c.in_ok-equation.field-0) c.loop-turn-test.true (sym c.sees_other.ensures ∙ c.if-not-sees_other.false) c.in_ok-equation.ensures c.loop-turn.invariant)

pub returns : goal.returns
returns c = ends (sees_other (is_sign sign.RightBrace)) equation c.len-turn-end.result c.loop-turn._turn (map equation_of c.loop-turn.found.items) (left_of c.loop-turn.tokens) c.loop-turn-test.false c.loop-turn.invariant
