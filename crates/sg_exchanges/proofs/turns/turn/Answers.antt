use Rattle.std.proofs.Common.{sym, subst}
use Rattle.sg_forest.specs.Trees.{Climbs}
use Rattle.sg_forest.proofs.Shape.{Climbs-shape, KeepsShape-part_set}
use Rattle.sg_groves.specs.Grove.{nodes}
use Rattle.sg_kinds.specs.Places.{Place}
use Rattle.sg_kinds.specs.Terms.{Term}
use Rattle.sg_exchanges.specs.Turns.{IsTurned, MayTurn, stands_there}
use Rattle.sg_exchanges.specs.declared.turns.What.{What}
use Rattle.sg_exchanges.proofs.Putting.{marked_live, marked_turn}
use Rattle.sg_exchanges.proofs.turns.turn.Goals as goal

pub put_marks-requires-clause-live : goal.put_marks-requires-clause-live
put_marks-requires-clause-live c =
    let g = c.args.terms.now in
    let m = c.requires.may in
    marked_live g c.facts.ensures c.args.root c.args.at c.in-Shown.marks m.0 m.1 (subst (λ (w : What). MayTurn g c.args.root c.args.at w m.0 m.1) c.in-Shown.is m.2)

pub returns-in-Ok-clause-turned : goal.returns-in-Ok-clause-turned
returns-in-Ok-clause-turned c =
    let g = c.args.terms.now in
    subst (λ (w : What). (t : Term) (u : Place) → MayTurn g c.args.root c.args.at w t u → IsTurned g c.exchanged.new.terms c.args.root c.args.at w t u c.in-Ok.done.root)
    (sym c.in-Tree.is) c.in-Ok.ensures.turned

pub returns-in-Shown-clause-turned : goal.returns-in-Shown-clause-turned
returns-in-Shown-clause-turned c =
    let g = c.args.terms.now in
    subst (λ (w : What). (t : Term) (u : Place) → MayTurn g c.args.root c.args.at w t u → IsTurned g c.put_marks.new.terms c.args.root c.args.at w t u c.args.root)
    (sym c.in-Shown.is)
    (λ t u may.
    let l = marked_live g c.facts.ensures c.args.root c.args.at c.in-Shown.marks t u may in
    let e = c.put_marks.ensures in
    let shape = KeepsShape-part_set (nodes g) (nodes c.put_marks.new.terms) c.args.at _ l (e.set l.node l.found) in
    marked_turn g c.facts.ensures c.args.root c.args.at c.in-Shown.marks t u may c.put_marks.new.terms c.facts-in-Shown.ensures e.spec e.pool shape e.over e.others e.numbers)

pub returns-in-Ok-clause-there : goal.returns-in-Ok-clause-there
returns-in-Ok-clause-there c =
    let g = c.args.terms.now in
    subst (λ (w : What). (t : Term) (u : Place) → MayTurn g c.args.root c.args.at w t u → Climbs (nodes c.exchanged.new.terms) u (stands_there w c.args.at) c.in-Ok.done.root)
    (sym c.in-Tree.is) (λ t u may. (c.in-Ok.ensures.reach t u may).way)

pub returns-in-Shown-clause-there : goal.returns-in-Shown-clause-there
returns-in-Shown-clause-there c =
    let g = c.args.terms.now in
    let new = c.put_marks.new.terms in
    subst (λ (w : What). (t : Term) (u : Place) → MayTurn g c.args.root c.args.at w t u → Climbs (nodes new) u (stands_there w c.args.at) c.args.root)
    (sym c.in-Shown.is)
    (λ t u may.
    let l = marked_live g c.facts.ensures c.args.root c.args.at c.in-Shown.marks t u may in
    let shape = KeepsShape-part_set (nodes g) (nodes new) c.args.at _ l (c.put_marks.ensures.set l.node l.found) in
    Climbs-shape (nodes g) (nodes new) shape u c.args.at c.args.root may.way)
