use Rattle.std.proofs.Common.{eqb, sym, ◌∙◌}
use Rattle.std.proofs.lemmas.Bool.{eqb-false, eqb-true, not-false}
use Rattle.sg_forest.proofs.Paths.{same_id}
use Rattle.sg_propagate.proofs.Announced.{announced_below, announced_own}
use Rattle.sg_propagate.proofs.update.announce.Goals as goal

pub returns-in_ok-activate : goal.returns-in_ok-activate
returns-in_ok-activate c =
    let it = c.args.it in
    let differs = eqb-false it.before it.after (sym c.eq.ensures ∙ c.if-eq.false) in
    announced_below c.args.n it.node it.slot it.before it.after c.args.work.now c.note.new.self (tt {0}) differs c.in_ok-note.ensures.changed c.in_ok-note.ensures.active c.activate.new.self c.in_ok-activate.ensures.active c.in_ok-activate.ensures.changed

pub returns-else-ne : goal.returns-else-ne
returns-else-ne c =
    let it = c.args.it in
    let differs = eqb-false it.before it.after (sym c.eq.ensures ∙ c.if-eq.false) in
    let same = same_id it.node c.args.n (eqb-true it.node.key c.args.n.key (not-false (eqb it.node.key c.args.n.key) (sym c.ne.ensures ∙ c.if-ne.false))) in
    announced_own c.args.n it.node it.slot it.before it.after c.args.work.now c.note.new.self (tt {0}) differs c.in_ok-note.ensures.changed c.in_ok-note.ensures.active same
