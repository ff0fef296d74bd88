use Rattle.std.proofs.Common.{refl, sym, ◌∙◌, subst}
use Rattle.std.proofs.lemmas.Result.{err_from_is_err_and}
use Rattle.sg_kinds.specs.Fits.{Fits}
use Rattle.sg_kinds.specs.declared.spec.Spec.{Spec}
use Rattle.sg_eval.specs.Journal.{now_of}
use Rattle.sg_exchanges.proofs.Free.{root_free}
use Rattle.sg_exchanges.proofs.Begun.{evaluated, refused, roots, whole}
use Rattle.sg_exchanges.proofs.fresh.attributed.Goals as goal

pub attribute-requires-clause-root : goal.attribute-requires-clause-root
attribute-requires-clause-root c = c.in-Ok.ensures.grew.tops 0 c.in-Ok.root refl

pub attribute-requires-clause-inherits : goal.attribute-requires-clause-inherits
attribute-requires-clause-inherits c =
    let same = c.in-Ok.ensures.grew.spec ∙ c.in_ok-terms.ensures.spec in
    root_free c.build.new.terms c.facts.ensures c.in-Ok.root c.args.t.now c.in-Ok.ensures.held (subst (λ (s : Spec). Fits s c.args.t.now s.root) (sym same) c.requires.fits)

pub returns-in_err-attribute-clause-noted : goal.returns-in_err-attribute-clause-noted
returns-in_err-attribute-clause-noted c =
    let p = err_from_is_err_and c.from_residual-in_err-attribute.result c.from_residual-in_err-attribute.ensures.1 in
    rw p.1
    (refused c.in_ok-terms.terms c.build.new.terms c.attribute.new.terms c.args.spec.now c.in-Ok.root c.args.t.now c.in_ok-terms.ensures.spec c.in_ok-terms.ensures.empty c.in-Ok.ensures.grew
    c.facts.ensures c.in-Ok.ensures.held (now_of c.args.journal.now) (now_of c.attribute.new.journal) (c.in_err-attribute.ensures.noted c.args.t.now c.in-Ok.ensures.held))

pub returns-clause-whole : goal.returns-clause-whole
returns-clause-whole c =
    let e = c.in_ok-attribute.ensures in
    whole c.in_ok-terms.terms c.build.new.terms c.attribute.new.terms c.args.spec.now c.in-Ok.root c.args.t.now c.in_ok-terms.ensures.spec c.in_ok-terms.ensures.empty c.in-Ok.ensures.grew e.frame
    c.facts-2.ensures c.requires.fits (e.term c.args.t.now c.in-Ok.ensures.held) e.right

pub returns-clause-roots : goal.returns-clause-roots
returns-clause-roots c =
    roots c.in_ok-terms.terms c.build.new.terms c.attribute.new.terms c.args.spec.now c.in-Ok.root c.args.t.now c.in_ok-terms.ensures.spec c.in_ok-terms.ensures.empty c.in-Ok.ensures.grew c.in_ok-attribute.ensures.frame

pub returns-clause-evaluated : goal.returns-clause-evaluated
returns-clause-evaluated c =
    evaluated c.in_ok-terms.terms c.build.new.terms c.attribute.new.terms c.args.spec.now c.in-Ok.root c.args.t.now c.in_ok-terms.ensures.spec c.in_ok-terms.ensures.empty c.in-Ok.ensures.grew c.in_ok-attribute.ensures.frame
    (now_of c.args.journal.now) (now_of c.attribute.new.journal) (c.in_ok-attribute.ensures.noted c.args.t.now c.in-Ok.ensures.held)
