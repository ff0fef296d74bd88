use Rattle.sg_commands.proofs.Choosing.{editable_told, live_here}
use Rattle.sg_commands.proofs.entering.is_editable_here.Goals as goal

pub is_editable-requires : goal.is_editable-requires
is_editable-requires c = live_here c.args.buffer.now c.facts.ensures c.terms.result.now c.terms.ensures c.selected.result c.selected.ensures.place

pub returns : goal.returns
returns c = editable_told c.args.buffer.now c.facts.ensures c.terms.result.now c.terms.ensures c.selected.result c.selected.ensures.place c.is_editable.result c.is_editable.ensures
