use Rattle.std.proofs.Common.{sym, ap, ◌∙◌, subst}
use Rattle.std.proofs.lemmas.Result.{err_from_is_err_and}
use Rattle.sg_kinds.specs.Fits.{Fits}
use Rattle.sg_kinds.specs.declared.spec.Spec.{Spec}
use Rattle.sg_search.specs.Found.{is_known}
use Rattle.sg_search.specs.Made.{IsMade}
use Rattle.sg_search.specs.ReplacedAll.{Makes}
use Rattle.sg_search.proofs.Counting.{stop_why, within_fits, within_given}
use Rattle.sg_search.proofs.Everywhere.{all_made, none_applies, too_large, whole_fits}
use Rattle.sg_search.proofs.replaced.all.Goals as goal

pub returns-in_err-made-clause-given : goal.returns-in_err-made-clause-given
returns-in_err-made-clause-given c = λ x holds.
    let g = c.args.terms.now in
    let name = c.args.name.now in
    let known = sym (c.is_known.ensures ∙ ap (λ (s : Spec). is_known s name) c.spec.ensures) ∙ c.if-not-is_known.false in
    let p = err_from_is_err_and c.from_residual-in_err-made.result c.from_residual-in_err-made.ensures.1 in
    rw (p.1, p.2) (stop_why g.spec name x c.in_err-made.field-0.0 known (c.in_err-made.ensures.made x holds))

pub returns-in-Same-clause-given : goal.returns-in-Same-clause-given
returns-in-Same-clause-given c = λ x holds.
    let g = c.args.terms.now in
    let name = c.args.name.now in
    let known = sym (c.is_known.ensures ∙ ap (λ (s : Spec). is_known s name) c.spec.ensures) ∙ c.if-not-is_known.false in
    let m = subst (IsMade g.spec name x 65536 c.made.new.left) c.in-Same.is (c.in_ok-made.ensures.made x holds) in
    none_applies g.spec name x known m.0

pub returns-in-New-clause-given : goal.returns-in-New-clause-given
returns-in-New-clause-given c = λ x holds.
    let g = c.args.terms.now in
    let name = c.args.name.now in
    let known = sym (c.is_known.ensures ∙ ap (λ (s : Spec). is_known s name) c.spec.ensures) ∙ c.if-not-is_known.false in
    let m = subst (IsMade g.spec name x 65536 c.made.new.left) c.in-New.is (c.in_ok-made.ensures.made x holds) in
    within_given g.spec name x c.within.result c.in-New.term c.within.ensures (all_made g.spec name x known m.0.some m.0.whole ∙ ap Makes (sym m.1))

pub returns-in-New-clause-fits : goal.returns-in-New-clause-fits
returns-in-New-clause-fits c = λ p x holds fits.
    let g = c.args.terms.now in
    let name = c.args.name.now in
    let m = subst (IsMade g.spec name x 65536 c.made.new.left) c.in-New.is (c.in_ok-made.ensures.made x holds) in
    within_fits g.spec p c.within.result c.in-New.term c.within.ensures (subst (λ s. Fits g.spec s p) (sym m.1) (whole_fits g.spec name x c.facts.ensures.sound p fits m.0.whole))

pub returns-clause-given : goal.returns-clause-given
returns-clause-given c = λ x holds.
    let g = c.args.terms.now in
    let name = c.args.name.now in
    let known = sym (c.is_known.ensures ∙ ap (λ (s : Spec). is_known s name) c.spec.ensures) ∙ c.if-not-is_known.false in
    let m = subst (IsMade g.spec name x 65536 c.made.new.left) c.in-Over.is (c.in_ok-made.ensures.made x holds) in
    too_large g.spec name x known m.some m.whole m.more
