use Rattle.std.proofs.Common.{◌≡◌, sym, ◌∙◌, arith}
use Rattle.sg_build.proofs.Told.{the_term}
use Rattle.std.specs.Prelude.{suc}
use Rattle.sg_select.specs.Paths.{elements}
use Rattle.sg_select.proofs.Elements.{elements_more, elements_none, list_wide}
use Rattle.sg_select.proofs.Leading.{child_live, held, kid_there}
use Rattle.sg_select.proofs.runs.+elements_from.Goals as goal

pub returns-then-not-is_list_node : goal.returns-then-not-is_list_node
returns-then-not-is_list_node t c = λ whole h.
    let none = elements_none c.args.terms.now.spec whole (sym (c.is_list_node.ensures whole h) ∙ c.if-not-is_list_node.true) in
    omega (arith, none)

pub kid-requires-clause-place : goal.kid-requires-clause-place
kid-requires-clause-place t c = λ x found.
    let g = c.args.terms.now in
    let h = held g c.facts.ensures c.args.n c.requires in
    list_wide g c.facts.ensures c.args.n (the_term g c.args.n) h (sym (c.is_list_node.ensures (the_term g c.args.n) h) ∙ c.if-not-is_list_node.false) x found

pub returns : goal.returns
returns t c = λ whole h.
    let g = c.args.terms.now in
    let child = c.kid.ensures.child in
    let live = child_live g c.facts.ensures c.kid.result c.args.n 1 child in
    let below = held g c.facts.ensures c.kid.result live in
    let y = the_term g c.kid.result in
    let at = kid_there g c.facts.ensures c.args.n c.kid.result 1 whole y c.requires child h below in
    let more : elements g.spec whole ≡ suc (elements g.spec y) = elements_more g.spec whole y (sym (c.is_list_node.ensures whole h) ∙ c.if-not-is_list_node.false) at in
    let rest = c.elements_from.ensures y below in
    let sum = c.saturating_add.ensures in
    omega (arith, more, rest, sum)
