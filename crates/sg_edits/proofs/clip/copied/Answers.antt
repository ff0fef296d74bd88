use Rattle.std.proofs.Common.{sym, ap, ◌∙◌, cond}
use Rattle.std.specs.Prelude.{ℕ, Bool, Option}
use Rattle.std.specs.Option.{option_map_or}
use Rattle.std.proofs.lemmas.Bool.{eq-eqb, ne_eqb}
use Rattle.sg_kinds.specs.Places.{Place}
use Rattle.sg_kinds.specs.Terms.{Term}
use Rattle.sg_kinds.specs.declared.spec.Spec.{Spec}
use Rattle.sg_build.proofs.Told.{the_term}
use Rattle.sg_select.proofs.Leading.{held, leads_none, leads_some}
use Rattle.sg_select.specs.Paths.{spine_from}
use Rattle.sg_edits.specs.Edits.{run_kept, term_at, term_kept}
use Rattle.sg_edits.specs.declared.clip.Clip.{Clip}
use Rattle.sg_edits.proofs.Behind.{spine_long}
use Rattle.sg_edits.proofs.Listed.{moved_to}
use Rattle.sg_edits.proofs.Placed.{spine_is_list, term_there}
use Rattle.sg_edits.proofs.clip.copied.Goals as goal

-- by the count and by the list's node
abbrev by_node : Spec → Term → Place → ℕ → Option Place → Clip
by_node spec t u n o = option_map_or (λ p. run_kept spec n (term_at t p)) o (term_kept spec (term_at t u))

abbrev by_count : Spec → Term → Place → ℕ → Bool → Clip
by_count spec t u n b = cond b (term_kept spec (term_at t u)) (by_node spec t u n (spine_from spec t u))

pub returns-then-count-eq1-clause-clip : goal.returns-then-count-eq1-clause-clip
returns-then-count-eq1-clause-clip c = λ root t u placed.
    let g = c.args.terms.now in
    let is = c.facts.ensures in
    c.in_ok-term_kept.ensures.clip (the_term g c.args.at) (held g is c.args.at c.requires.live)
    ∙ ap (term_kept g.spec) (sym (term_there g is root t u c.args.at placed c.requires.live))
    ∙ ap (by_count g.spec t u c.args.count) (sym (eq-eqb c.args.count 1 c.if-count-eq1.true))

pub run_kept-requires-clause-list : goal.run_kept-requires-clause-list
run_kept-requires-clause-list c = λ x holds. spine_is_list c.args.terms.now c.facts.ensures c.args.at c.in-Some.n c.requires.live c.in-Some.ensures.leads x holds

pub run_kept-requires-clause-long : goal.run_kept-requires-clause-long
run_kept-requires-clause-long c =
    spine_long c.args.terms.now c.facts.ensures c.args.at c.in-Some.n c.requires.live c.args.count c.requires.run c.in-Some.ensures.leads c.in-Some.ensures.live

pub returns-in_ok-run_kept-in-Some-clause-clip : goal.returns-in_ok-run_kept-in-Some-clause-clip
returns-in_ok-run_kept-in-Some-clause-clip c = λ root t u placed.
    let g = c.args.terms.now in
    let is = c.facts.ensures in
    let n = c.in-Some.n in
    let lead = leads_some g root n (spine_from g.spec t u) (c.in-Some.ensures.leads root t u placed) in
    c.in_ok-run_kept-in-Some.ensures.clip (the_term g n) (held g is n c.in-Some.ensures.live)
    ∙ ap (run_kept g.spec c.args.count) (sym (term_there g is root t lead.0 n (moved_to g root t u lead.0 c.args.at n placed lead.2) c.in-Some.ensures.live))
    ∙ ap (by_node g.spec t u c.args.count) (sym lead.1)
    ∙ ap (by_count g.spec t u c.args.count) (sym (ne_eqb c.args.count 1 c.if-count-eq1.false))

pub returns-in_ok-term_kept-in-None-clause-clip : goal.returns-in_ok-term_kept-in-None-clause-clip
returns-in_ok-term_kept-in-None-clause-clip c = λ root t u placed.
    let g = c.args.terms.now in
    let is = c.facts.ensures in
    c.in_ok-term_kept-in-None.ensures.clip (the_term g c.args.at) (held g is c.args.at c.requires.live)
    ∙ ap (term_kept g.spec) (sym (term_there g is root t u c.args.at placed c.requires.live))
    ∙ ap (by_node g.spec t u c.args.count) (sym (leads_none g root (spine_from g.spec t u) (c.in-None.ensures.leads root t u placed)))
    ∙ ap (by_count g.spec t u c.args.count) (sym (ne_eqb c.args.count 1 c.if-count-eq1.false))
