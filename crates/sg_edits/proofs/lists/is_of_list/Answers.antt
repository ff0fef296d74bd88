use Rattle.std.proofs.Common.{sym, ap, ◌∙◌}
use Rattle.sg_edits.specs.Edits.{is_list_operator}
use Rattle.sg_edits.proofs.Listed.{of_list_is, of_list_not}
use Rattle.sg_edits.proofs.lists.is_of_list.Goals as goal

pub returns-in-Some : goal.returns-in-Some
returns-in-Some c = λ t h.
    c.is_list_operator.ensures ∙ ap (λ s. is_list_operator s c.args.count c.in-Some.op) c.spec.ensures ∙ of_list_is c.args.terms.now.spec c.args.count t c.in-Some.op (sym (c.op.ensures.term t h) ∙ c.in-Some.is)

pub returns-in-None : goal.returns-in-None
returns-in-None c = λ t h. of_list_not c.args.terms.now.spec c.args.count t (sym (c.op.ensures.term t h) ∙ c.in-None.is)
