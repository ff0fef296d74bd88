use Rattle.sg_forest.proofs.Shape.{KeepsShape-part_set}
use Rattle.sg_groves.specs.Grove.{nodes}
use Rattle.sg_exchanges.proofs.Putting.{label_stays, live_stays, over_twice, set_twice, without_twice}
use Rattle.sg_exchanges.proofs.turns.put_marks.Goals as goal

pub set_elided-requires-clause-node : goal.set_elided-requires-clause-node
set_elided-requires-clause-node c =
    let l = c.requires.live in
    label_stays c.args.terms.now c.set_scheme.new.self c.set_scheme.new.self c.args.n c.args.marks.scheme c.args.marks.elided l.node _ (c.set_scheme.ensures.set l.node l.found) l.found (c.requires.node l.node l.found)

pub set_elided-requires-clause-live : goal.set_elided-requires-clause-live
set_elided-requires-clause-live c =
    let l = c.requires.live in
    live_stays c.args.terms.now c.set_scheme.new.self c.set_scheme.new.self c.args.n c.args.marks.scheme c.args.marks.elided _ l.node (c.set_scheme.ensures.set l.node l.found) l.found

pub returns-clause-set : goal.returns-clause-set
returns-clause-set c = λ x found.
    set_twice c.args.terms.now c.set_scheme.new.self c.set_elided.new.self c.args.n c.args.marks.scheme c.args.marks.elided x found (c.set_scheme.ensures.set x found) c.set_elided.ensures.set

pub returns-clause-over : goal.returns-clause-over
returns-clause-over c =
    let l = c.requires.live in
    over_twice c.args.terms.now c.set_scheme.new.self c.set_elided.new.self c.args.n c.args.marks.scheme c.args.marks.elided
    (KeepsShape-part_set (nodes c.args.terms.now) (nodes c.set_scheme.new.self) c.args.n _ l (c.set_scheme.ensures.set l.node l.found)) c.set_scheme.ensures.over c.set_elided.ensures.over

pub returns-clause-others : goal.returns-clause-others
returns-clause-others c =
    let l = c.requires.live in
    without_twice c.args.terms.now c.set_scheme.new.self c.set_elided.new.self c.args.n c.args.marks.scheme c.args.marks.elided
    (KeepsShape-part_set (nodes c.args.terms.now) (nodes c.set_scheme.new.self) c.args.n _ l (c.set_scheme.ensures.set l.node l.found)) c.set_scheme.ensures.others c.set_elided.ensures.others
