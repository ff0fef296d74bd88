use Rattle.std.proofs.Common.{sym, ap, ◌∙◌, subst}
use Rattle.std.specs.Prelude.{◌≡◌, Option, Some, None, MatchOption}
use Rattle.sg_kinds.specs.declared.spec.Scheme.{Scheme}
use Rattle.sg_groves.specs.Grove.{spec_shown}
use Rattle.sg_unparse.specs.Printing.{scheme_of}
use Rattle.sg_unparse.proofs.Schemed.{current_in, current_none}
use Rattle.sg_unparse.proofs.Viewed.{as_shown}
use Rattle.sg_unparse.proofs.schemes.current.Goals as goal

pub returns-in-Some : goal.returns-in-Some
returns-in-Some c = λ t h.
    let g = c.args.terms.now in
    let is = sym (c.op.ensures.term t h) ∙ c.in-Some.is in
    let same = ap (λ s. scheme_of s c.in-Some.op c.scheme.result) (as_shown g c.spec.result.now c.view.result c.spec.ensures c.view.ensures) ∙ ap (scheme_of (spec_shown g) c.in-Some.op) (c.scheme.ensures.term t h)
    ∙ current_in (spec_shown g) t c.in-Some.op is in
    subst (λ (o : Option Scheme). MatchOption c.scheme_of.result (o ≡ None) (λ s. o ≡ Some s.now)) same c.scheme_of.ensures

pub returns-in-None : goal.returns-in-None
returns-in-None c = λ t h. current_none (spec_shown c.args.terms.now) t (sym (c.op.ensures.term t h) ∙ c.in-None.is)
