use Rattle.std.proofs.Common.{subst}
use Rattle.sg_lalr.specs.Tables.{Decided}
use Rattle.sg_lalr.proofs.Searching.{are-decided}
use Rattle.sg_lalr.proofs.table.Tables.decided.Goals as goal

pub returns : goal.returns
returns c =
    let t = c.self.inside in
    let k = c.self.invariant in
    subst Decided c.self.view_is (are-decided t.grammar c.sound.ensures k.kernels t.cores.items t.moves.items k.origins k.nodes k.firsts k.rows k.made)
