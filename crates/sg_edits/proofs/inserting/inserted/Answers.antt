use Rattle.std.proofs.Common.{◌≡◌, ◌≤◌, sym, ap, ◌∙◌, ◌&&◌, cond, arith, nat_eq}
use Rattle.std.specs.Prelude.{ℕ, Bool, true, false}
use Rattle.std.specs.Option.{option_map_or}
use Rattle.sg_build.proofs.Told.{the_term}
use Rattle.sg_kinds.specs.Places.{Place}
use Rattle.sg_kinds.specs.Terms.{Term}
use Rattle.sg_kinds.specs.declared.spec.Spec.{Spec}
use Rattle.sg_script.specs.declared.message.Message.TheVariants as message
use Rattle.sg_select.proofs.Leading.{held, leads_none, leads_some}
use Rattle.sg_select.specs.Paths.{spine_from}
use Rattle.sg_edits.specs.Choice.{Choice, Refused}
use Rattle.sg_edits.specs.Edits.{at_spine, at_term, filled, grown, is_empty_list}
use Rattle.sg_edits.proofs.Behind.{spine_long}
use Rattle.sg_edits.proofs.Listed.{moved_to}
use Rattle.sg_edits.proofs.Placed.{at_is, spine_is_list}
use Rattle.sg_edits.proofs.inserting.inserted.Goals as goal

-- beside an element, behind so many
abbrev beside : Spec → Term → Place → ℕ → Choice
beside spec t u k = at_spine spec t u message.NotInList (grown spec t k)

-- by the test of the node alone
abbrev by_test : Spec → Term → Place → ℕ → ℕ → Term → Choice
by_test spec t u n k x = cond (nat_eq n 1 && is_empty_list spec x) (filled spec u x) (beside spec t u k)

few : (after : Bool) (n k e : ℕ) → k ≡ cond after n 0 → n ≤ e → k ≤ e
few true n k e is low = omega (arith, is, low)
few false n k e is low = omega (arith, is)

pub returns-then-is_empty-clause-choice : goal.returns-then-is_empty-clause-choice
returns-then-is_empty-clause-choice c = λ root t u placed.
    let g = c.args.terms.now in
    let is = c.facts.ensures in
    let live = c.requires.live in
    let x = the_term g c.args.at in
    let k = cond c.args.after c.args.count 0 in
    let empty = sym (c.is_empty.ensures x (held g is c.args.at live)) ∙ c.if-is_empty.true in
    c.in_ok-filled.ensures.choice root t u placed ∙ at_is g is root t u c.args.at (filled g.spec u) placed live
    ∙ sym (ap (λ b. cond b (filled g.spec u x) (beside g.spec t u k)) empty)
    ∙ sym (at_is g is root t u c.args.at (by_test g.spec t u c.args.count k) placed live)

pub grown-requires-clause-list : goal.grown-requires-clause-list
grown-requires-clause-list c = λ x holds. spine_is_list c.args.terms.now c.facts.ensures c.args.at c.in-Some.n c.requires.live c.in-Some.ensures.leads x holds

pub grown-requires-clause-long : goal.grown-requires-clause-long
grown-requires-clause-long c = λ x holds.
    few c.args.after c.args.count c.passed.result _ c.passed.ensures
    (spine_long c.args.terms.now c.facts.ensures c.args.at c.in-Some.n c.requires.live c.args.count c.requires.run c.in-Some.ensures.leads c.in-Some.ensures.live x holds)

pub returns-in_ok-grown-in-Some-clause-choice : goal.returns-in_ok-grown-in-Some-clause-choice
returns-in_ok-grown-in-Some-clause-choice c = λ root t u placed.
    let g = c.args.terms.now in
    let is = c.facts.ensures in
    let live = c.requires.live in
    let x = the_term g c.args.at in
    let k = cond c.args.after c.args.count 0 in
    let full = sym (c.is_empty.ensures x (held g is c.args.at live)) ∙ c.if-is_empty.false in
    let lead = leads_some g root c.in-Some.n (spine_from g.spec t u) (c.in-Some.ensures.leads root t u placed) in
    c.in_ok-grown-in-Some.ensures.choice root t lead.0 (moved_to g root t u lead.0 c.args.at c.in-Some.n placed lead.2)
    ∙ ap (λ m. at_term t lead.0 (grown g.spec t m lead.0)) c.passed.ensures
    ∙ sym (ap (λ o. option_map_or (λ p. at_term t p (grown g.spec t k p)) o (Refused message.NotInList)) lead.1)
    ∙ sym (ap (λ b. cond b (filled g.spec u x) (beside g.spec t u k)) full)
    ∙ sym (at_is g is root t u c.args.at (by_test g.spec t u c.args.count k) placed live)

pub returns-in_ok-grown-in-Some-clause-fits : goal.returns-in_ok-grown-in-Some-clause-fits
returns-in_ok-grown-in-Some-clause-fits c = λ root t u placed.
    let g = c.args.terms.now in
    let lead = leads_some g root c.in-Some.n (spine_from g.spec t u) (c.in-Some.ensures.leads root t u placed) in
    c.in_ok-grown-in-Some.ensures.fits root t lead.0 (moved_to g root t u lead.0 c.args.at c.in-Some.n placed lead.2)

pub returns-in-None-clause-choice : goal.returns-in-None-clause-choice
returns-in-None-clause-choice c = λ root t u placed.
    let g = c.args.terms.now in
    let is = c.facts.ensures in
    let live = c.requires.live in
    let x = the_term g c.args.at in
    let k = cond c.args.after c.args.count 0 in
    let full = sym (c.is_empty.ensures x (held g is c.args.at live)) ∙ c.if-is_empty.false in
    sym (ap (λ o. option_map_or (λ p. at_term t p (grown g.spec t k p)) o (Refused message.NotInList)) (leads_none g root (spine_from g.spec t u) (c.in-None.ensures.leads root t u placed)))
    ∙ sym (ap (λ b. cond b (filled g.spec u x) (beside g.spec t u k)) full)
    ∙ sym (at_is g is root t u c.args.at (by_test g.spec t u c.args.count k) placed live)
