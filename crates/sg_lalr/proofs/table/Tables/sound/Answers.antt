use Rattle.std.proofs.Common.{subst}
use Rattle.sg_lalr.specs.Tables.{IsTables}
use Rattle.sg_lalr.proofs.TableLemmas.{are-tables}
use Rattle.sg_lalr.proofs.table.Tables.sound.Goals as goal

pub returns : goal.returns
returns c =
    let t = c.self.inside in
    let k = c.self.invariant in
    subst IsTables c.self.view_is (are-tables t.grammar c.sound.ensures k.kernels t.cores.items t.moves.items k.origins k.nodes k.firsts k.rows k.made)
