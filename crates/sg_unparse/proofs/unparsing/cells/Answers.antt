use Rattle.std.proofs.Common.{[], refl}
use Rattle.sg_unparse.proofs.unparsing.cells.Goals as goal

pub returns : goal.returns
returns c = λ t h. c.page.ensures c.args.root [] t (record { along = refl; holds = h })
