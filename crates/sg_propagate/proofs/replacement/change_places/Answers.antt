use Rattle.std.proofs.Common.{◌∙◌, sym, subst}
use Rattle.std.proofs.lemmas.Result.{err_from_is_err_and}
use Rattle.std.specs.Prelude.{Ok, Err}
use Rattle.sg_kinds.specs.Specification.{rules_of}
use Rattle.sg_kinds.specs.ValidPlans.{AreValid}
use Rattle.sg_kinds.specs.declared.spec.Spec.{Spec}
use Rattle.sg_eval.specs.Journal.{now_of}
use Rattle.sg_forest.specs.Trees.{IsRoot}
use Rattle.sg_forest.proofs.Paths.{root_is_no_child}
use Rattle.sg_groves.specs.Grove.{Grove, nodes}
use Rattle.sg_propagate.proofs.Exchanging.{exchanges_root, exchanges_under, is_swap, reaches_root, reaches_under, root_inherits, tops_moved, under_inherits}
use Rattle.sg_propagate.proofs.replacement.change_places.Goals as goal

-- at a root the new tree is attributed
pub attribute-requires-clause-valid : goal.attribute-requires-clause-valid
attribute-requires-clause-valid c = subst (λ (z : Spec). AreValid (rules_of z) c.args.plans.now) (sym c.swap.ensures.spec) c.requires.valid

pub attribute-requires-clause-same : goal.attribute-requires-clause-same
attribute-requires-clause-same c = c.requires.same ∙ sym c.swap.ensures.spec

pub attribute-requires-clause-root : goal.attribute-requires-clause-root
attribute-requires-clause-root c = subst (λ (g : Grove). IsRoot (nodes g) c.args.detached) (sym (c.swap.ensures.unchanged (c.parent-above.ensures.root.0 c.in-None.is))) c.requires.root

pub attribute-requires-clause-inherits : goal.attribute-requires-clause-inherits
attribute-requires-clause-inherits c =
    let e = c.swap.ensures in
    let q = c.requires in
    root_inherits c.args.terms.now c.swap.new.self c.facts.ensures c.args.at c.args.detached
    (is_swap c.args.terms.now c.swap.new.self c.args.at c.args.detached q.live q.root q.apart q.phyla e.swapped e.unchanged e.spec e.view e.pool e.parts e.numbers e.replaced e.terms e.freed e.roots e.ways e.ways_over)
    q.inherits (c.parent-above.ensures.root.0 c.in-None.is)

pub returns-in_ok-attribute-in-None-clause-exchanges : goal.returns-in_ok-attribute-in-None-clause-exchanges
returns-in_ok-attribute-in-None-clause-exchanges c =
    let e = c.swap.ensures in
    let q = c.requires in
    let a = c.in_ok-attribute-in-None.ensures in
    exchanges_root c.args.terms.now c.swap.new.self c.facts.ensures c.args.at c.args.detached
    (is_swap c.args.terms.now c.swap.new.self c.args.at c.args.detached q.live q.root q.apart q.phyla e.swapped e.unchanged e.spec e.view e.pool e.parts e.numbers e.replaced e.terms e.freed e.roots e.ways e.ways_over)
    c.facts-2.ensures (c.parent-above.ensures.root.0 c.in-None.is) c.attribute.new.terms (now_of c.args.journal.now) (now_of c.attribute.new.journal) (Ok c.args.detached) a.term a.right a.frame a.noted c.args.trail.now

pub returns-in_err-attribute-in-None-clause-exchanges : goal.returns-in_err-attribute-in-None-clause-exchanges
returns-in_err-attribute-in-None-clause-exchanges c =
    let e = c.swap.ensures in
    let q = c.requires in
    let a = c.in_err-attribute-in-None.ensures in
    let p = err_from_is_err_and c.from_residual.result c.from_residual.ensures.1 in
    rw p.1
    (exchanges_root c.args.terms.now c.swap.new.self c.facts.ensures c.args.at c.args.detached
    (is_swap c.args.terms.now c.swap.new.self c.args.at c.args.detached q.live q.root q.apart q.phyla e.swapped e.unchanged e.spec e.view e.pool e.parts e.numbers e.replaced e.terms e.freed e.roots e.ways e.ways_over)
    c.facts-2.ensures (c.parent-above.ensures.root.0 c.in-None.is) c.attribute.new.terms (now_of c.args.journal.now) (now_of c.attribute.new.journal) (Err p.0) a.term a.right a.frame a.noted c.args.trail.now)

pub returns-in_ok-attribute-in-None-clause-reach : goal.returns-in_ok-attribute-in-None-clause-reach
returns-in_ok-attribute-in-None-clause-reach c =
    let e = c.swap.ensures in
    let q = c.requires in
    reaches_root c.args.terms.now c.swap.new.self c.facts.ensures c.args.at c.args.detached
    (is_swap c.args.terms.now c.swap.new.self c.args.at c.args.detached q.live q.root q.apart q.phyla e.swapped e.unchanged e.spec e.view e.pool e.parts e.numbers e.replaced e.terms e.freed e.roots e.ways e.ways_over)
    (c.parent-above.ensures.root.0 c.in-None.is) c.attribute.new.terms

-- under another node the tree is brought up to date
pub bring_up_to_date-requires-clause-valid : goal.bring_up_to_date-requires-clause-valid
bring_up_to_date-requires-clause-valid c = subst (λ (z : Spec). AreValid (rules_of z) c.args.plans.now) (sym c.swap.ensures.spec) c.requires.valid

pub bring_up_to_date-requires-clause-same : goal.bring_up_to_date-requires-clause-same
bring_up_to_date-requires-clause-same c = c.requires.same ∙ sym c.swap.ensures.spec

pub bring_up_to_date-requires-clause-tops : goal.bring_up_to_date-requires-clause-tops
bring_up_to_date-requires-clause-tops c =
    let e = c.swap.ensures in
    let q = c.requires in
    tops_moved c.args.terms.now c.swap.new.self c.facts.ensures c.args.at c.args.detached
    (is_swap c.args.terms.now c.swap.new.self c.args.at c.args.detached q.live q.root q.apart q.phyla e.swapped e.unchanged e.spec e.view e.pool e.parts e.numbers e.replaced e.terms e.freed e.roots e.ways e.ways_over)
    c.facts-2.ensures

pub bring_up_to_date-requires-clause-hangs : goal.bring_up_to_date-requires-clause-hangs
bring_up_to_date-requires-clause-hangs c = λ top.
    let up = c.in-Some.field-0 in
    root_is_no_child (nodes c.swap.new.self) c.args.detached up.0 up.1 top (c.swap.ensures.placed up.0 up.1 c.in-Some.ensures.child)

pub bring_up_to_date-requires-clause-inherits : goal.bring_up_to_date-requires-clause-inherits
bring_up_to_date-requires-clause-inherits c =
    let e = c.swap.ensures in
    let q = c.requires in
    let up = c.in-Some.field-0 in
    under_inherits c.args.terms.now c.swap.new.self c.facts.ensures c.args.at c.args.detached
    (is_swap c.args.terms.now c.swap.new.self c.args.at c.args.detached q.live q.root q.apart q.phyla e.swapped e.unchanged e.spec e.view e.pool e.parts e.numbers e.replaced e.terms e.freed e.roots e.ways e.ways_over)
    q.inherits up.0 up.1 c.in-Some.ensures.child

pub returns-in-Some-clause-exchanges : goal.returns-in-Some-clause-exchanges
returns-in-Some-clause-exchanges c =
    let e = c.swap.ensures in
    let q = c.requires in
    let b = c.bring_up_to_date.ensures in
    let up = c.in-Some.field-0 in
    exchanges_under c.args.terms.now c.swap.new.self c.facts.ensures c.args.at c.args.detached
    (is_swap c.args.terms.now c.swap.new.self c.args.at c.args.detached q.live q.root q.apart q.phyla e.swapped e.unchanged e.spec e.view e.pool e.parts e.numbers e.replaced e.terms e.freed e.roots e.ways e.ways_over)
    c.args.plans.now c.facts-2.ensures q.valid up.0 up.1 c.in-Some.ensures.child c.bring_up_to_date.new.terms c.args.trail.now c.bring_up_to_date.new.trail (now_of c.args.journal.now) (now_of c.bring_up_to_date.new.journal) c.bring_up_to_date.result
    b.stored b.at b.detached b.tracked b.finishes

pub returns-in-Some-clause-reach : goal.returns-in-Some-clause-reach
returns-in-Some-clause-reach c =
    let e = c.swap.ensures in
    let q = c.requires in
    let up = c.in-Some.field-0 in
    reaches_under c.args.terms.now c.swap.new.self c.facts.ensures c.args.at c.args.detached
    (is_swap c.args.terms.now c.swap.new.self c.args.at c.args.detached q.live q.root q.apart q.phyla e.swapped e.unchanged e.spec e.view e.pool e.parts e.numbers e.replaced e.terms e.freed e.roots e.ways e.ways_over)
    c.args.plans.now c.facts-2.ensures q.valid up.0 up.1 c.in-Some.ensures.child c.bring_up_to_date.new.terms c.bring_up_to_date.result c.bring_up_to_date.ensures.reach
