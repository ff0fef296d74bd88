use Rattle.std.proofs.Common.{sym, ◌∙◌}
use Rattle.sg_edits.proofs.Listed.{paired_leaf, paired_node}
use Rattle.sg_edits.proofs.lists.paired.Goals as goal

pub returns-in_ok-pair-in-Some : goal.returns-in_ok-pair-in-Some
returns-in_ok-pair-in-Some c = λ x h.
    c.in_ok-pair-in-Some.ensures ∙ paired_node x c.args.first c.args.rest c.in-Some.op (sym (c.op.ensures.term x h) ∙ c.in-Some.is)

pub returns-in-None : goal.returns-in-None
returns-in-None c = λ x h. paired_leaf x c.args.first c.args.rest (sym (c.op.ensures.term x h) ∙ c.in-None.is)
