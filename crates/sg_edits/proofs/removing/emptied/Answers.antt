use Rattle.std.proofs.Common.{sym, ap, ◌∙◌, true}
use Rattle.sg_build.proofs.Told.{the_term}
use Rattle.sg_edits.specs.Edits.{completed, emptied}
use Rattle.sg_edits.proofs.Placed.{at_is}
use Rattle.sg_edits.proofs.removing.emptied.Goals as goal

pub returns-in_ok-completed-clause-choice : goal.returns-in_ok-completed-clause-choice
returns-in_ok-completed-clause-choice c = λ root t u placed.
    let g = c.args.terms.now in
    let is = c.facts.ensures in
    c.in_ok-completed.ensures.choice root t u placed ∙ at_is g is root t u c.args.n (completed g.spec true u) placed c.requires
    ∙ ap (λ b. emptied g.spec t b u (the_term g c.args.n)) (sym c.if-deletes.true)
    ∙ sym (at_is g is root t u c.args.n (emptied g.spec t c.args.deletes u) placed c.requires)

pub returns-else-deletes-clause-choice : goal.returns-else-deletes-clause-choice
returns-else-deletes-clause-choice c = λ root t u placed.
    let g = c.args.terms.now in
    ap (λ b. emptied g.spec t b u (the_term g c.args.n)) (sym c.if-deletes.false)
    ∙ sym (at_is g c.facts.ensures root t u c.args.n (emptied g.spec t c.args.deletes u) placed c.requires)
