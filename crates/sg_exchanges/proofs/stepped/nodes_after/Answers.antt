use Rattle.std.proofs.Common.{◌≡◌, sym, subst}
use Rattle.sg_kinds.specs.Places.{Place}
use Rattle.sg_kinds.specs.Sound.{IsSmall}
use Rattle.sg_kinds.specs.Terms.{Term, nodes_of}
use Rattle.sg_forest.specs.declared.node_id.NodeId.{NodeId}
use Rattle.sg_groves.specs.TermAt.{term_at}
use Rattle.sg_exchanges.specs.Turns.{MayTurn, made}
use Rattle.sg_exchanges.specs.declared.turns.What.{What}
use Rattle.sg_exchanges.proofs.Stepping.{nodes_remarked, nodes_turned, tree_live, turned_live}
use Rattle.sg_exchanges.proofs.stepped.nodes_after.Goals as goal

pub counts_below-requires : goal.counts_below-requires
counts_below-requires c = turned_live c.args.terms.now c.facts.ensures c.requires.0 c.args.at c.requires.1 c.requires.2 c.args.what c.requires.3

pub counts_below-requires-in-Tree : goal.counts_below-requires-in-Tree
counts_below-requires-in-Tree c =
    tree_live c.args.terms.now c.facts.ensures c.requires.0 c.args.at c.requires.1 c.requires.2 c.in-Tree.detached
    (subst (λ w. MayTurn c.args.terms.now c.requires.0 c.args.at w c.requires.1 c.requires.2) c.in-Tree.is c.requires.3)

pub returns-in-Tree : goal.returns-in-Tree
returns-in-Tree c =
    let g = c.args.terms.now in
    subst
    (λ (w : What). (root : NodeId) (t : Term) (u : Place) → MayTurn g root c.args.at w t u → c.args.nodes ≡ nodes_of t → IsSmall t → IsSmall (made (term_at g) t u w) → c.saturating_add.result ≡ nodes_of (made (term_at g) t u w))
    (sym c.in-Tree.is)
    (λ root t u may counted small after.
    nodes_turned g c.facts.ensures root c.args.at t u c.in-Tree.detached c.args.nodes c.saturating_sub-rest.result c.saturating_add.result c.counts_below.result c.counts_below-in-Tree.result may counted small after
    c.counts_below.ensures c.counts_below-in-Tree.ensures c.saturating_sub-rest.ensures c.saturating_add.ensures)

pub returns-in-Shown : goal.returns-in-Shown
returns-in-Shown c =
    let g = c.args.terms.now in
    subst
    (λ (w : What). (root : NodeId) (t : Term) (u : Place) → MayTurn g root c.args.at w t u → c.args.nodes ≡ nodes_of t → IsSmall t → IsSmall (made (term_at g) t u w) → c.args.nodes ≡ nodes_of (made (term_at g) t u w))
    (sym c.in-Shown.is)
    (λ root t u may counted small after. nodes_remarked g c.facts.ensures root c.args.at t u c.in-Shown.field-0 c.args.nodes may counted)
