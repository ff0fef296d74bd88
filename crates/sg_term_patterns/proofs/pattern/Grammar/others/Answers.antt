use Rattle.std.proofs.Common.{◌≡◌, [], ◌∷◌, ◌++◌, sym, ◌∙◌, map}
use Rattle.std.proofs.lemmas.Result.{err_from_is_err_and}
use Rattle.std.proofs.lemmas.List.{map_push}
use Rattle.sg_text.specs.declared.symbols.Symbol.TheVariants as sign
use Rattle.sg_ast.specs.Readers.{is_sign, sees}
use Rattle.sg_ast.specs.ReadingNames.{another, pattern_within}
use Rattle.sg_ast.specs.View.{pattern_of}
use Rattle.sg_cursor.specs.Left.{left_of}
use Rattle.sg_cursor.proofs.Turns.{goes_on, fails, stops, ends}
use Rattle.sg_term_patterns.proofs.pattern.Grammar.others.Goals as goal

pub returns-then-not-sees_sign : goal.returns-then-not-sees_sign
returns-then-not-sees_sign g c =
    stops (sees (is_sign sign.Comma)) (another (pattern_within c.args.self.now.depth)) c.len-turn-end.result c.loop-turn._turn (map pattern_of c.loop-turn.found.items) (left_of c.loop-turn.tokens) c.loop-turn-test.true (sym c.sees_sign.ensures ∙ c.if-not-sees_sign.true) c.loop-turn.invariant

pub returns-in_err-another : goal.returns-in_err-another
returns-in_err-another g c =
    let p = err_from_is_err_and c.from_residual.result c.from_residual.ensures.1 in
    rw (p.1, p.2) (λ no. fails (sees (is_sign sign.Comma)) (another (pattern_within c.args.self.now.depth)) c.len-turn-end.result c.loop-turn._turn (map pattern_of c.loop-turn.found.items) (left_of c.loop-turn.tokens) c.loop-turn-test.true (sym c.sees_sign.ensures ∙ c.if-not-sees_sign.false) (c.in_err-another.ensures no) c.loop-turn.invariant)

pub loop-turn-preserved : goal.loop-turn-preserved
loop-turn-preserved g c =
    let pushed : map pattern_of c.push.new.self.items ≡ map pattern_of c.loop-turn.found.items ++ (pattern_of c.in_ok-another.field-0) ∷ [] = rw c.in_ok-push.ensures.items (map_push _ c.loop-turn.found.items c.in_ok-another.field-0) in
    rw pushed (goes_on (sees (is_sign sign.Comma)) (another (pattern_within c.args.self.now.depth)) c.len-turn-end.result c.loop-turn._turn (map pattern_of c.loop-turn.found.items) (left_of c.loop-turn.tokens) _ (pattern_of c.in_ok-another.field-0) c.loop-turn-test.true (sym c.sees_sign.ensures ∙ c.if-not-sees_sign.false) c.in_ok-another.ensures c.loop-turn.invariant)

pub returns : goal.returns
returns g c = ends (sees (is_sign sign.Comma)) (another (pattern_within c.args.self.now.depth)) c.len-turn-end.result c.loop-turn._turn (map pattern_of c.loop-turn.found.items) (left_of c.loop-turn.tokens) c.loop-turn-test.false c.loop-turn.invariant
