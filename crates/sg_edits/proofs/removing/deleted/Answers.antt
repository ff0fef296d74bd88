use Rattle.std.proofs.Common.{sym, ap, ◌∙◌, cond, false, true}
use Rattle.std.proofs.lemmas.Bool.{eq-eqb, ne_eqb}
use Rattle.sg_edits.specs.Edits.{at_term, completed, taken}
use Rattle.sg_edits.proofs.removing.deleted.Goals as goal

pub returns-in_ok-completed-clause-choice : goal.returns-in_ok-completed-clause-choice
returns-in_ok-completed-clause-choice c = λ root t u placed.
    let spec = c.args.terms.now.spec in
    c.in_ok-completed.ensures.choice root t u placed
    ∙ sym (ap (λ b. cond b (at_term t u (completed spec false u)) (taken spec t true u c.args.count)) (eq-eqb c.args.count 1 c.if-count-eq1.true))

pub returns-in_ok-taken-clause-choice : goal.returns-in_ok-taken-clause-choice
returns-in_ok-taken-clause-choice c = λ root t u placed.
    let spec = c.args.terms.now.spec in
    c.in_ok-taken.ensures.choice root t u placed
    ∙ sym (ap (λ b. cond b (at_term t u (completed spec false u)) (taken spec t true u c.args.count)) (ne_eqb c.args.count 1 c.if-count-eq1.false))
