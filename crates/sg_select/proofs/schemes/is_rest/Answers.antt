use Rattle.std.proofs.Common.{◌<◌, length, sym, ap, ◌∙◌, subst}
use Rattle.sg_kinds.specs.Sound.{is_pair}
use Rattle.sg_kinds.specs.declared.spec.Spec.{Spec}
use Rattle.sg_kinds.proofs.Elementary.{eq_true}
use Rattle.sg_kinds.proofs.InView.{is_pair_in_view}
use Rattle.sg_groves.specs.Grove.{spec_shown}
use Rattle.sg_build.proofs.Told.{opened}
use Rattle.sg_select.proofs.Schemed.{rest_is, rest_none}
use Rattle.sg_select.proofs.schemes.is_rest.Goals as goal

pub is_pair_of_list-requires : goal.is_pair_of_list-requires
is_pair_of_list-requires c =
    subst (λ (s : Spec). c.in-Some.op < length s.ops) (sym c.spec.ensures) (opened c.args.terms.now c.facts.ensures c.args.n c.in-Some.op (sym c.op.ensures.op ∙ c.in-Some.is)).within

pub returns-then-k-eq1 : goal.returns-then-k-eq1
returns-then-k-eq1 c = λ t h.
    c.is_pair_of_list.ensures ∙ ap (λ s. is_pair s c.in-Some.op) c.spec.ensures
    ∙ sym (is_pair_in_view c.args.terms.now.spec c.args.terms.now.view c.in-Some.op)
    ∙ rest_is (spec_shown c.args.terms.now) t c.in-Some.op c.args.k (sym (c.op.ensures.term t h) ∙ c.in-Some.is) (eq_true c.args.k 1 c.if-k-eq1.true)

pub returns-in-None : goal.returns-in-None
returns-in-None c = λ t h. rest_none (spec_shown c.args.terms.now) t c.args.k (sym (c.op.ensures.term t h) ∙ c.in-None.is)
