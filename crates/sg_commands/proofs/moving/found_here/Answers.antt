use Rattle.sg_commands.proofs.Choosing.{found_told, resting_here}
use Rattle.sg_commands.proofs.moving.found_here.Goals as goal

pub next_found-requires : goal.next_found-requires
next_found-requires c =
    resting_here c.args.buffer.now c.facts.ensures c.terms.result.now c.terms.ensures c.selected.result c.selected.ensures.place
    c.root.result c.root.ensures

pub returns : goal.returns
returns c =
    found_told c.args.buffer.now c.facts.ensures c.terms.result.now c.terms.ensures c.selected.result c.selected.ensures.place
    c.root.result c.root.ensures c.args.name.now c.next_found.result c.next_found.ensures.leads
