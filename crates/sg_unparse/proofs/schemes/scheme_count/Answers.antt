use Rattle.std.proofs.Common.{sym, ap, ◌∙◌}
use Rattle.sg_groves.specs.Grove.{spec_shown}
use Rattle.sg_unparse.specs.Printing.{count_of}
use Rattle.sg_unparse.proofs.Schemed.{count_in, count_none}
use Rattle.sg_unparse.proofs.Viewed.{as_shown}
use Rattle.sg_unparse.proofs.schemes.scheme_count.Goals as goal

pub returns-in-Some : goal.returns-in-Some
returns-in-Some c = λ t h.
    let g = c.args.terms.now in
    c.count_of.ensures ∙ ap (λ s. count_of s c.in-Some.op) (as_shown g c.spec.result.now c.view.result c.spec.ensures c.view.ensures) ∙ count_in (spec_shown g) t c.in-Some.op (sym (c.op.ensures.term t h) ∙ c.in-Some.is)

pub returns-in-None : goal.returns-in-None
returns-in-None c = λ t h. count_none (spec_shown c.args.terms.now) t (sym (c.op.ensures.term t h) ∙ c.in-None.is)
