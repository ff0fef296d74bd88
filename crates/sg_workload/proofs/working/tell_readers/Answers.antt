use Rattle.std.proofs.Common.{subst}
use Rattle.sg_lalr.specs.Tables.{Decided, IsTables}
use Rattle.sg_load.specs.Loaded.{Contents}
use Rattle.sg_workload.proofs.working.tell_readers.Goals as goal

pub returns : goal.returns
returns c =
    let l = c.args.loaded.now in
    c.readers_are_there.ensures l.spec c.facts.ensures.sound l.lexemes c.facts.ensures.lexemes l.tables c.facts.ensures.tables
    (subst (λ (x : Contents). IsTables x.tables) c.loaded.view_is c.sound.ensures) (subst (λ (x : Contents). Decided x.tables) c.loaded.view_is c.decided.ensures)
