use Rattle.std.proofs.Common.{refl, true, false, sym, ap}
use Rattle.std.specs.Prelude.{cond}
use Rattle.sg_kinds.specs.Places.{place_of}
use Rattle.sg_states.specs.Selections.{is_selection}
use Rattle.sg_states.proofs.Looking.{count_told, few_settled}
use Rattle.sg_states.proofs.looks.count_at.Goals as goal
use Rattle.sg_states.proofs.looks.count_at.Goals.{else-leads_to-via-then-leads_to+else-is_selection, else-leads_to-via-else-leads_to}

pub returns-then-count-le1 : goal.returns-then-count-le1
returns-then-count-le1 c = λ t v placed rest. few_settled c.args.terms.now.spec c.args.terms.now.view t (place_of c.args.path.now) v c.args.count c.if-count-le1.true

pub returns-then-is_selection : goal.returns-then-is_selection
returns-then-is_selection c = λ t v placed rest.
    count_told c.args.terms.now.spec c.args.terms.now.view t c.args.path.now c.args.count c.args.count v true c.is_selection.result (c.if-leads_to.ensures t v placed.holds placed.way) (c.is_selection.ensures c.args.root t v placed rest)
    (ap (λ z. cond z c.args.count 1) (sym c.if-is_selection.true))

pub returns-else-leads_to : goal.returns-else-leads_to
returns-else-leads_to c = λ t v placed rest. elim c.else-leads_to.branch [
  | else-leads_to-via-then-leads_to+else-is_selection w ↦
      count_told c.args.terms.now.spec c.args.terms.now.view t c.args.path.now c.args.count 1 v true w.is_selection.result (w.if-leads_to.ensures t v placed.holds placed.way) (w.is_selection.ensures c.args.root t v placed rest)
      (ap (λ z. cond z c.args.count 1) (sym w.if-is_selection.false))
  | else-leads_to-via-else-leads_to w ↦
      count_told c.args.terms.now.spec c.args.terms.now.view t c.args.path.now c.args.count 1 v false (is_selection c.args.terms.now.spec c.args.terms.now.view t v c.args.count) (w.if-leads_to.ensures t v placed.holds placed.way) refl refl
]
