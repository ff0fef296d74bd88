use Rattle.std.proofs.Common.{sym, ap, ◌∙◌}
use Rattle.std.specs.Prelude.{slice_get, unwrap_or}
use Rattle.sg_kinds.specs.Specification.{args_of}
use Rattle.sg_kinds.specs.declared.spec.Spec.{Spec}
use Rattle.sg_edits.proofs.Listed.{elements_is, elements_not}
use Rattle.sg_edits.proofs.lists.elements_in.Goals as goal

pub returns-in-Some : goal.returns-in-Some
returns-in-Some c = λ x h.
    c.element_of.ensures ∙ ap (λ (s : Spec). unwrap_or (slice_get (args_of s.ops c.in-Some.op) 0) 0) c.spec.ensures
    ∙ elements_is c.args.terms.now.spec x c.in-Some.op (sym (c.op.ensures.term x h) ∙ c.in-Some.is)

pub returns-in-None : goal.returns-in-None
returns-in-None c = λ x h. elements_not c.args.terms.now.spec x (sym (c.op.ensures.term x h) ∙ c.in-None.is)
