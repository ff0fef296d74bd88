use Rattle.std.proofs.Common.{sym, ap, ◌∙◌, subst}
use Rattle.std.specs.Prelude.{Contains}
use Rattle.sg_groves.specs.Stored.{number_at}
use Rattle.sg_groves.proofs.Lists.{contains_none}
use Rattle.sg_trail.specs.Trails.{AreSaved}
use Rattle.sg_trail.proofs.Telling.{now_tells}
use Rattle.sg_trail.proofs.trail.Trail.save.Goals as goal

pub returns-clause-numbers : goal.returns-clause-numbers
returns-clause-numbers c = λ n slot.
    let g = c.args.terms.now in
    let none : AreSaved g c.new-entries.result.items = λ e has. absurd (contains_none e (subst (λ es. Contains es e) c.new-entries.ensures.items has)) in
    let all = c.in_ok-save_tree.ensures.saved none in
    now_tells n slot c.save_tree.new.entries.items (number_at g n slot) (λ e has is. ap (λ m. number_at g m slot) (sym is.node_is) ∙ ap (number_at g e.node) (sym is.slot_is) ∙ (all e has).number)
