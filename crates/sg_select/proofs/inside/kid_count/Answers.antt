use Rattle.std.proofs.Common.{length, sym, ap, ◌∙◌}
use Rattle.sg_build.proofs.Told.{opened, the_term}
use Rattle.sg_select.proofs.Leading.{kids_same}
use Rattle.sg_select.proofs.Schemed.{kids_counted, leaf_kids, leaf_arity}
use Rattle.sg_select.proofs.inside.kid_count.Goals as goal

pub arg_count-requires : goal.arg_count-requires
arg_count-requires c = (opened c.args.terms.now c.facts.ensures c.args.n c.in-Some.op (sym c.op.ensures.op ∙ c.in-Some.is)).within

pub returns-in-Some-clause-count : goal.returns-in-Some-clause-count
returns-in-Some-clause-count c = λ t h.
    let g = c.args.terms.now in
    c.arg_count.ensures ∙ sym (opened g c.facts.ensures c.args.n c.in-Some.op (sym c.op.ensures.op ∙ c.in-Some.is)).count
    ∙ ap length (sym (kids_same (the_term g c.args.n))) ∙ kids_counted g c.facts.ensures c.args.n c.in-Some.op (sym c.op.ensures.op ∙ c.in-Some.is) t h

pub returns-in-Some-clause-arity : goal.returns-in-Some-clause-arity
returns-in-Some-clause-arity c = λ x found.
    (opened c.args.terms.now c.facts.ensures c.args.n c.in-Some.op (sym c.op.ensures.op ∙ c.in-Some.is)).arity x found ∙ sym c.arg_count.ensures

pub returns-in-None-clause-count : goal.returns-in-None-clause-count
returns-in-None-clause-count c = λ t h. leaf_kids c.args.terms.now c.facts.ensures c.args.n c.requires (sym c.op.ensures.op ∙ c.in-None.is) t h

pub returns-in-None-clause-arity : goal.returns-in-None-clause-arity
returns-in-None-clause-arity c = λ x found. leaf_arity c.args.terms.now c.facts.ensures c.args.n x found (sym c.op.ensures.op ∙ c.in-None.is)
