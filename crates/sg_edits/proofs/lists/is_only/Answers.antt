use Rattle.std.proofs.Common.{sym, ◌∙◌, Some, None}
use Rattle.sg_select.proofs.Leading.{leads_none, leads_some}
use Rattle.sg_edits.specs.Edits.{node_before}
use Rattle.sg_edits.proofs.Listed.{only_by, only_not, two_is}
use Rattle.sg_edits.proofs.lists.is_only.Goals as goal

pub returns-then-is_of_list : goal.returns-then-is_of_list
returns-then-is_of_list c = λ root t y u placed holds.
    let spec = c.args.terms.now.spec in
    only_not spec t y u (sym (two_is spec y) ∙ sym (c.is_of_list.ensures y holds) ∙ c.if-is_of_list.true)

pub returns-in-Some : goal.returns-in-Some
returns-in-Some c = λ root t y u placed holds.
    let g = c.args.terms.now in
    let lead = leads_some g root c.in-Some.field-0 (node_before g.spec t u) (c.in-Some.ensures.leads root t u placed) in
    only_by g.spec t y u (Some lead.0) (sym (two_is g.spec y) ∙ sym (c.is_of_list.ensures y holds) ∙ c.if-is_of_list.false) lead.1

pub returns-in-None : goal.returns-in-None
returns-in-None c = λ root t y u placed holds.
    let g = c.args.terms.now in
    only_by g.spec t y u None (sym (two_is g.spec y) ∙ sym (c.is_of_list.ensures y holds) ∙ c.if-is_of_list.false) (leads_none g root (node_before g.spec t u) (c.in-None.ensures.leads root t u placed))
