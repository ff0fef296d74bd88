use Rattle.std.proofs.Common.{sym, ap, ◌∙◌, ◌&&◌, cond, nat_eq, subst}
use Rattle.std.specs.Prelude.{ℕ}
use Rattle.std.specs.Option.{option_map_or}
use Rattle.sg_kinds.proofs.Elementary.{eq_is}
use Rattle.sg_kinds.specs.Fits.{Fits}
use Rattle.sg_kinds.specs.Places.{Place}
use Rattle.sg_kinds.specs.Terms.{Term}
use Rattle.sg_kinds.specs.declared.spec.Spec.{Spec}
use Rattle.sg_build.proofs.Told.{the_term}
use Rattle.sg_script.specs.declared.message.Message.TheVariants as message
use Rattle.sg_select.proofs.Leading.{held, leads_none, leads_some}
use Rattle.sg_select.specs.Paths.{spine_from}
use Rattle.sg_edits.specs.Choice.{Choice, Put, Refused}
use Rattle.sg_edits.specs.Edits.{at_spine, at_term, pasted_over, phylum_in, picked_in}
use Rattle.sg_edits.specs.declared.clip.Clip.{Clip}
use Rattle.sg_edits.proofs.Behind.{spine_long}
use Rattle.sg_edits.proofs.Listed.{moved_to}
use Rattle.sg_edits.proofs.Clipped.{both_hold}
use Rattle.sg_edits.proofs.Placed.{at_is, fits_phylum, spine_is_list}
use Rattle.sg_edits.proofs.pasting.paste.Goals as goal

-- in the place of a node of its phylum, or over elements
abbrev by_phylum : Spec → Term → Place → ℕ → Clip → Term → Choice
by_phylum spec t u n clip x =
    cond (nat_eq n 1 && nat_eq clip.phylum (phylum_in spec x)) (Put u clip.term (picked_in clip u)) (at_spine spec t u message.Phylum (pasted_over spec t n clip))

pub put_clip-requires-clause-fits : goal.put_clip-requires-clause-fits
put_clip-requires-clause-fits c = λ x h.
    let clip = c.args.clip.now in
    let same = both_hold (nat_eq c.args.count 1) (nat_eq clip.phylum c.phylum.result) (sym c.is_of.ensures ∙ c.if-is_of.true) in
    subst (Fits c.args.terms.now.spec x) (sym (eq_is clip.phylum c.phylum.result same.1)) (c.phylum.ensures.term x h)

pub returns-then-is_of-clause-choice : goal.returns-then-is_of-clause-choice
returns-then-is_of-clause-choice c = λ root t u placed.
    let g = c.args.terms.now in
    let is = c.facts.ensures in
    let live = c.requires.live in
    let clip = c.args.clip.now in
    let n = c.args.count in
    let x = the_term g c.args.at in
    let phylum = fits_phylum g.spec x c.phylum.result (c.phylum.ensures.term x (held g is c.args.at live)) in
    let same = ap (λ q. nat_eq n 1 && nat_eq clip.phylum q) phylum ∙ sym c.is_of.ensures ∙ c.if-is_of.true in
    c.in_ok-put_clip.ensures.choice root t u placed
    ∙ sym (ap (λ b. cond b (Put u clip.term (picked_in clip u)) (at_spine g.spec t u message.Phylum (pasted_over g.spec t n clip))) same)
    ∙ sym (at_is g is root t u c.args.at (by_phylum g.spec t u n clip) placed live)

pub pasted_over-requires-clause-list : goal.pasted_over-requires-clause-list
pasted_over-requires-clause-list c = λ x holds. spine_is_list c.args.terms.now c.facts.ensures c.args.at c.in-Some.n c.requires.live c.in-Some.ensures.leads x holds

pub pasted_over-requires-clause-long : goal.pasted_over-requires-clause-long
pasted_over-requires-clause-long c =
    spine_long c.args.terms.now c.facts.ensures c.args.at c.in-Some.n c.requires.live c.args.count c.requires.run c.in-Some.ensures.leads c.in-Some.ensures.live

pub returns-in_ok-pasted_over-in-Some-clause-choice : goal.returns-in_ok-pasted_over-in-Some-clause-choice
returns-in_ok-pasted_over-in-Some-clause-choice c = λ root t u placed.
    let g = c.args.terms.now in
    let is = c.facts.ensures in
    let live = c.requires.live in
    let clip = c.args.clip.now in
    let n = c.args.count in
    let x = the_term g c.args.at in
    let phylum = fits_phylum g.spec x c.phylum.result (c.phylum.ensures.term x (held g is c.args.at live)) in
    let other = ap (λ q. nat_eq n 1 && nat_eq clip.phylum q) phylum ∙ sym c.is_of.ensures ∙ c.if-is_of.false in
    let lead = leads_some g root c.in-Some.n (spine_from g.spec t u) (c.in-Some.ensures.leads root t u placed) in
    c.in_ok-pasted_over-in-Some.ensures.choice root t lead.0 (moved_to g root t u lead.0 c.args.at c.in-Some.n placed lead.2)
    ∙ sym (ap (λ o. option_map_or (λ p. at_term t p (pasted_over g.spec t n clip p)) o (Refused message.Phylum)) lead.1)
    ∙ sym (ap (λ b. cond b (Put u clip.term (picked_in clip u)) (at_spine g.spec t u message.Phylum (pasted_over g.spec t n clip))) other)
    ∙ sym (at_is g is root t u c.args.at (by_phylum g.spec t u n clip) placed live)

pub returns-in_ok-pasted_over-in-Some-clause-fits : goal.returns-in_ok-pasted_over-in-Some-clause-fits
returns-in_ok-pasted_over-in-Some-clause-fits c = λ root t u placed.
    let g = c.args.terms.now in
    let lead = leads_some g root c.in-Some.n (spine_from g.spec t u) (c.in-Some.ensures.leads root t u placed) in
    c.in_ok-pasted_over-in-Some.ensures.fits root t lead.0 (moved_to g root t u lead.0 c.args.at c.in-Some.n placed lead.2)

pub returns-in-None-clause-choice : goal.returns-in-None-clause-choice
returns-in-None-clause-choice c = λ root t u placed.
    let g = c.args.terms.now in
    let is = c.facts.ensures in
    let live = c.requires.live in
    let clip = c.args.clip.now in
    let n = c.args.count in
    let x = the_term g c.args.at in
    let phylum = fits_phylum g.spec x c.phylum.result (c.phylum.ensures.term x (held g is c.args.at live)) in
    let other = ap (λ q. nat_eq n 1 && nat_eq clip.phylum q) phylum ∙ sym c.is_of.ensures ∙ c.if-is_of.false in
    sym (ap (λ o. option_map_or (λ p. at_term t p (pasted_over g.spec t n clip p)) o (Refused message.Phylum)) (leads_none g root (spine_from g.spec t u) (c.in-None.ensures.leads root t u placed)))
    ∙ sym (ap (λ b. cond b (Put u clip.term (picked_in clip u)) (at_spine g.spec t u message.Phylum (pasted_over g.spec t n clip))) other)
    ∙ sym (at_is g is root t u c.args.at (by_phylum g.spec t u n clip) placed live)
