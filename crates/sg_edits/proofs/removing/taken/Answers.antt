use Rattle.std.proofs.Common.{sym, ap, ◌∙◌}
use Rattle.std.specs.Option.{option_map_or}
use Rattle.sg_script.specs.declared.message.Message.TheVariants as message
use Rattle.sg_select.proofs.Leading.{leads_none, leads_some}
use Rattle.sg_select.specs.Paths.{spine_from}
use Rattle.sg_edits.specs.Choice.{Refused}
use Rattle.sg_edits.specs.Edits.{at_term, without}
use Rattle.sg_edits.proofs.Behind.{spine_long}
use Rattle.sg_edits.proofs.Listed.{moved_to}
use Rattle.sg_edits.proofs.removing.taken.Goals as goal

pub without-requires-clause-long : goal.without-requires-clause-long
without-requires-clause-long c =
    spine_long c.args.terms.now c.facts.ensures c.args.at c.in-Some.n c.requires.live c.args.count c.requires.run c.in-Some.ensures.leads c.in-Some.ensures.live

pub returns-in_ok-without-in-Some-clause-choice : goal.returns-in_ok-without-in-Some-clause-choice
returns-in_ok-without-in-Some-clause-choice c = λ root t u placed.
    let g = c.args.terms.now in
    let lead = leads_some g root c.in-Some.n (spine_from g.spec t u) (c.in-Some.ensures.leads root t u placed) in
    c.in_ok-without-in-Some.ensures.choice root t lead.0 (moved_to g root t u lead.0 c.args.at c.in-Some.n placed lead.2)
    ∙ sym (ap (λ o. option_map_or (λ p. at_term t p (without g.spec t c.args.deletes c.args.count p)) o (Refused message.NotInList)) lead.1)

pub returns-in_ok-without-in-Some-clause-fits : goal.returns-in_ok-without-in-Some-clause-fits
returns-in_ok-without-in-Some-clause-fits c = λ root t u placed.
    let g = c.args.terms.now in
    let lead = leads_some g root c.in-Some.n (spine_from g.spec t u) (c.in-Some.ensures.leads root t u placed) in
    c.in_ok-without-in-Some.ensures.fits root t lead.0 (moved_to g root t u lead.0 c.args.at c.in-Some.n placed lead.2)

pub returns-in-None-clause-choice : goal.returns-in-None-clause-choice
returns-in-None-clause-choice c = λ root t u placed.
    let g = c.args.terms.now in
    sym (ap (λ o. option_map_or (λ p. at_term t p (without g.spec t c.args.deletes c.args.count p)) o (Refused message.NotInList)) (leads_none g root (spine_from g.spec t u) (c.in-None.ensures.leads root t u placed)))
