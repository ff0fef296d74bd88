use Rattle.std.proofs.Common.{◌≡◌, [], ◌∷◌, ◌++◌, sym, ◌∙◌}
use Rattle.std.proofs.lemmas.Result.{err_from_is_err_and}
use Rattle.sg_cursor.specs.Left.{left_of}
use Rattle.sg_cursor.proofs.Turns.{goes_on, fails, stops, ends}
use Rattle.sg_clauses.specs.Repeats.{is_ahead}
use Rattle.sg_clauses.proofs.repeated.repeated.Goals as goal

pub returns-then-not-stands : goal.returns-then-not-stands
returns-then-not-stands g c =
    stops (is_ahead c.args.ahead) g.rule c.len-turn-end.result c.loop-turn._turn c.loop-turn.found.items (left_of c.loop-turn.tokens) c.loop-turn-test.true (sym c.stands.ensures ∙ c.if-not-stands.true) c.loop-turn.invariant

pub returns-in_err-item : goal.returns-in_err-item
returns-in_err-item g c =
    let p = err_from_is_err_and c.from_residual.result c.from_residual.ensures.1 in
    rw (p.1, p.2) (λ no. fails (is_ahead c.args.ahead) g.rule c.len-turn-end.result c.loop-turn._turn c.loop-turn.found.items (left_of c.loop-turn.tokens) c.loop-turn-test.true (sym c.stands.ensures ∙ c.if-not-stands.false) (c.requires.1.1.reads _ _ _ _ c.in_err-item.ensures no) c.loop-turn.invariant)

pub loop-turn-preserved : goal.loop-turn-preserved
loop-turn-preserved g c =
    let pushed : c.push.new.self.items ≡ c.loop-turn.found.items ++ c.in_ok-item.field-0 ∷ [] = c.in_ok-push.ensures.items in
    rw pushed (goes_on (is_ahead c.args.ahead) g.rule c.len-turn-end.result c.loop-turn._turn c.loop-turn.found.items (left_of c.loop-turn.tokens) _ c.in_ok-item.field-0 c.loop-turn-test.true (sym c.stands.ensures ∙ c.if-not-stands.false) (c.requires.1.1.reads _ _ _ _ c.in_ok-item.ensures) c.loop-turn.invariant)

pub returns : goal.returns
returns g c = ends (is_ahead c.args.ahead) g.rule c.len-turn-end.result c.loop-turn._turn c.loop-turn.found.items (left_of c.loop-turn.tokens) c.loop-turn-test.false c.loop-turn.invariant
