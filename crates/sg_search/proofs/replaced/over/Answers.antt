use Rattle.std.proofs.Common.{◌∙◌, subst}
use Rattle.sg_kinds.specs.Terms.{Node, kids_of}
use Rattle.sg_select.specs.Around.{kids}
use Rattle.sg_terms.specs.Labels.{elided_of, scheme_of}
use Rattle.sg_search.specs.Found.{applies_to}
use Rattle.sg_search.specs.Made.{AreMade}
use Rattle.sg_search.specs.ReplacedAll.{fault_to, made_to}
use Rattle.sg_search.proofs.Children.{over_kids}
use Rattle.sg_search.proofs.Rows.{hits_over, new_node, over_node}
use Rattle.sg_search.proofs.replaced.over.Goals as goal

pub returns-in-Same : goal.returns-in-Same
returns-in-Same c = λ name x old now holds off row.
    let g = c.args.terms.now in
    let none = subst (AreMade g.spec name (kids x) old now) c.in-Same.is row in
    let is = over_kids g c.facts.ensures c.args.n c.args.op x c.requires.op holds in
    (hits_over (applies_to g.spec name) (fault_to g.spec name) (made_to g.spec name) c.args.op (scheme_of x) (elided_of x) (kids x) x is off ∙ none.0, none.1)

pub returns-in-New : goal.returns-in-New
returns-in-New c = λ name x old now holds off row.
    let g = c.args.terms.now in
    let items = c.in-New.all.items in
    let made = subst (AreMade g.spec name (kids x) old now) c.in-New.is row in
    let is = over_kids g c.facts.ensures c.args.n c.args.op x c.requires.op holds in
    let node = new_node (applies_to g.spec name) (fault_to g.spec name) (made_to g.spec name) c.args.op (scheme_of x) (elided_of x) (kids x) x is off old now items made in
    (node.0, (λ i. Node c.args.op (c.scheme.ensures.term x holds i) (c.elided.ensures.term x holds i) (kids_of items)) ∙ node.1)

pub returns-in-Over : goal.returns-in-Over
returns-in-Over c = λ name x old now holds off row.
    let g = c.args.terms.now in
    let over = subst (AreMade g.spec name (kids x) old now) c.in-Over.is row in
    let is = over_kids g c.facts.ensures c.args.n c.args.op x c.requires.op holds in
    over_node (applies_to g.spec name) (fault_to g.spec name) (made_to g.spec name) c.args.op (scheme_of x) (elided_of x) (kids x) x is off old over
