use Rattle.sg_forest.proofs.Shape.{KeepsShape-part_set}
use Rattle.sg_groves.specs.Grove.{nodes}
use Rattle.std.proofs.Common.{refl}
use Rattle.sg_exchanges.proofs.Putting.{label_stays, live_stays, marked_live, marked_seen, marked_top, put_back}
use Rattle.sg_exchanges.proofs.Turnable.{scheme_low}
use Rattle.sg_exchanges.proofs.turns.remarked.Goals as goal

pub scheme-requires : goal.scheme-requires
scheme-requires c = marked_live c.args.terms.now c.facts.ensures c.args.root c.args.at c.args.marks c.requires.may.0 c.requires.may.1 c.requires.may.2

pub elided-requires : goal.elided-requires
elided-requires c = marked_live c.args.terms.now c.facts.ensures c.args.root c.args.at c.args.marks c.requires.may.0 c.requires.may.1 c.requires.may.2

pub put_marks-requires-clause-live : goal.put_marks-requires-clause-live
put_marks-requires-clause-live c = marked_live c.args.terms.now c.facts.ensures c.args.root c.args.at c.args.marks c.requires.may.0 c.requires.may.1 c.requires.may.2

pub look_at-requires-clause-root : goal.look_at-requires-clause-root
look_at-requires-clause-root c =
    let g = c.args.terms.now in
    let l = marked_live g c.facts.ensures c.args.root c.args.at c.args.marks c.requires.may.0 c.requires.may.1 c.requires.may.2 in
    let e = c.put_marks.ensures in
    let shape = KeepsShape-part_set (nodes g) (nodes c.put_marks.new.terms) c.args.at _ l (e.set l.node l.found) in
    marked_top g c.facts.ensures c.args.root c.args.at c.args.marks c.requires.may.0 c.requires.may.1 c.requires.may.2 c.put_marks.new.terms c.facts-2.ensures e.spec e.pool shape e.over e.others e.numbers

pub put_marks-requires-in-Err-clause-node : goal.put_marks-requires-in-Err-clause-node
put_marks-requires-in-Err-clause-node c =
    let g = c.args.terms.now in
    let l = marked_live g c.facts.ensures c.args.root c.args.at c.args.marks c.requires.may.0 c.requires.may.1 c.requires.may.2 in
    label_stays g c.put_marks.new.terms c.put_marks.new.terms c.args.at c.args.marks.scheme c.args.marks.elided l.node _ (c.put_marks.ensures.set l.node l.found) l.found (c.requires.may.2.may.0 l.node l.found)

pub put_marks-requires-in-Err-clause-live : goal.put_marks-requires-in-Err-clause-live
put_marks-requires-in-Err-clause-live c =
    let g = c.args.terms.now in
    let l = marked_live g c.facts.ensures c.args.root c.args.at c.args.marks c.requires.may.0 c.requires.may.1 c.requires.may.2 in
    live_stays g c.put_marks.new.terms c.put_marks.new.terms c.args.at c.args.marks.scheme c.args.marks.elided _ l.node (c.put_marks.ensures.set l.node l.found) l.found

pub put_marks-requires-in-Err-clause-scheme : goal.put_marks-requires-in-Err-clause-scheme
put_marks-requires-in-Err-clause-scheme c =
    let g = c.args.terms.now in
    let l = marked_live g c.facts.ensures c.args.root c.args.at c.args.marks c.requires.may.0 c.requires.may.1 c.requires.may.2 in
    scheme_low g c.facts.ensures c.args.at l.node c.scheme.result l.found (c.requires.may.2.may.0 l.node l.found) (c.scheme.ensures.scheme l.node l.found)

pub returns-in-Ok-clause-turned : goal.returns-in-Ok-clause-turned
returns-in-Ok-clause-turned c = λ t u may.
    let g = c.args.terms.now in
    let l = marked_live g c.facts.ensures c.args.root c.args.at c.args.marks t u may in
    let e = c.put_marks.ensures in
    let shape = KeepsShape-part_set (nodes g) (nodes c.put_marks.new.terms) c.args.at _ l (e.set l.node l.found) in
    marked_seen g c.facts.ensures c.args.root c.args.at c.args.marks t u may c.put_marks.new.terms c.facts-2.ensures e.spec e.pool shape e.over e.others e.numbers e.view c.args.height c.args.select.now c.args.top c.in-Ok.look c.in-Ok.ensures

pub returns-in-Err-clause-as_before : goal.returns-in-Err-clause-as_before
returns-in-Err-clause-as_before c =
    let g = c.args.terms.now in
    let l = marked_live g c.facts.ensures c.args.root c.args.at c.args.marks c.requires.may.0 c.requires.may.1 c.requires.may.2 in
    put_back g c.put_marks.new.terms c.put_marks-in-Err.new.terms c.args.at l.node _ c.scheme.result c.elided.result l.found (c.put_marks.ensures.set l.node l.found) refl (c.scheme.ensures.scheme l.node l.found) (c.elided.ensures.elided l.node l.found) c.put_marks-in-Err.ensures.set
