use Rattle.std.proofs.Common.{refl}
use Rattle.sg_states.specs.States.{selected, selected_place}
use Rattle.sg_search.specs.Found.{found_behind}
use Rattle.sg_select.proofs.Leading.{leads_none}
use Rattle.sg_buffer.specs.Held.{state_of}
use Rattle.sg_buffer.proofs.Going.{answered_none}
use Rattle.sg_commands.proofs.Finding.{found_answers, found_inside}
use Rattle.sg_commands.proofs.moving.find_next.Goals as goal

pub select-requires-clause-node : goal.select-requires-clause-node
select-requires-clause-node c = found_inside c.args.buffer.now c.args.name.now c.in-Some.n (rw c.in-Some.is at c.in_ok-found.ensures)

pub returns-in_ok-select-in-Some-clause-found : goal.returns-in_ok-select-in-Some-clause-found
returns-in_ok-select-in-Some-clause-found c =
    found_answers c.args.buffer.now c.args.name.now c.in-Some.n (rw c.in-Some.is at c.in_ok-found.ensures) _ c.in_ok-select-in-Some.ensures.state

pub returns-in-None-clause-found : goal.returns-in-None-clause-found
returns-in-None-clause-found c =
    let b = c.args.buffer.now in
    answered_none (λ v. selected b.grove.spec b.height v (state_of b)) _ _ _ (leads_none b.grove b.root (found_behind b.grove.spec (state_of b).spot.view c.args.name.now (state_of b).term (selected_place (state_of b))) (rw c.in-None.is at c.in_ok-found.ensures)) (refl, refl)
