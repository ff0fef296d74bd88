use Rattle.std.proofs.Common.{sym, ◌∙◌, Some, None}
use Rattle.sg_select.proofs.Leading.{leads_none, leads_some}
use Rattle.sg_edits.specs.Edits.{node_before}
use Rattle.sg_edits.proofs.Listed.{left_by, left_here, moved_to, two_is}
use Rattle.sg_edits.proofs.lists.left.Goals as goal

pub returns-then-is_of_list-clause-left : goal.returns-then-is_of_list-clause-left
returns-then-is_of_list-clause-left c = λ root t y u placed holds.
    let spec = c.args.terms.now.spec in
    record { place = u; placed = placed; is = left_here spec t y u (sym (two_is spec y) ∙ sym (c.is_of_list.ensures y holds) ∙ c.if-is_of_list.true) }

pub returns-in-Some-clause-left : goal.returns-in-Some-clause-left
returns-in-Some-clause-left c = λ root t y u placed holds.
    let g = c.args.terms.now in
    let lead = leads_some g root c.in-Some.before (node_before g.spec t u) (c.in-Some.ensures.leads root t u placed) in
    record {
      place = lead.0;
      placed = moved_to g root t u lead.0 c.args.n c.in-Some.before placed lead.2;
      is = left_by g.spec t y u (Some lead.0) (sym (two_is g.spec y) ∙ sym (c.is_of_list.ensures y holds) ∙ c.if-is_of_list.false) lead.1;
    }

pub returns-in-None-clause-left : goal.returns-in-None-clause-left
returns-in-None-clause-left c = λ root t y u placed holds.
    let g = c.args.terms.now in
    record {
      place = u;
      placed = placed;
      is = left_by g.spec t y u None (sym (two_is g.spec y) ∙ sym (c.is_of_list.ensures y holds) ∙ c.if-is_of_list.false) (leads_none g root (node_before g.spec t u) (c.in-None.ensures.leads root t u placed));
    }
