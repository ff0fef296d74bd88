use Rattle.std.proofs.Common.{◌<◌, sym, ap, ◌∙◌, subst}
use Rattle.sg_build.proofs.Told.{opened}
use Rattle.std.proofs.Common.{length}
use Rattle.sg_kinds.specs.Sound.{is_pair}
use Rattle.sg_kinds.specs.declared.spec.Spec.{Spec}
use Rattle.sg_select.proofs.Elements.{list_is, list_not}
use Rattle.sg_select.proofs.runs.is_list_node.Goals as goal

pub is_pair_of_list-requires : goal.is_pair_of_list-requires
is_pair_of_list-requires c =
    subst (λ (s : Spec). c.in-Some.op < length s.ops) (sym c.spec.ensures) (opened c.args.terms.now c.facts.ensures c.args.n c.in-Some.op (sym c.op.ensures.op ∙ c.in-Some.is)).within

pub returns-in-Some : goal.returns-in-Some
returns-in-Some c = λ t h.
    c.is_pair_of_list.ensures ∙ ap (λ s. is_pair s c.in-Some.op) c.spec.ensures ∙ list_is c.args.terms.now.spec t c.in-Some.op (sym (c.op.ensures.term t h) ∙ c.in-Some.is)

pub returns-in-None : goal.returns-in-None
returns-in-None c = λ t h. list_not c.args.terms.now.spec t (sym (c.op.ensures.term t h) ∙ c.in-None.is)
