use Rattle.std.proofs.Common.{sym, ◌∙◌}
use Rattle.sg_saved.proofs.ReadLeaves.{found, missing}
use Rattle.sg_saved.proofs.heads.op_named.Goals as goal

pub returns-in-Some : goal.returns-in-Some
returns-in-Some c ops are = c.operator.ensures ∙ found ops c.args.names.now c.args.name.now c.in-Some.callable are (sym c.get.ensures ∙ c.in-Some.is)

pub returns-in-None : goal.returns-in-None
returns-in-None c ops are = missing ops c.args.names.now c.args.name.now are (sym c.get.ensures ∙ c.in-None.is)
