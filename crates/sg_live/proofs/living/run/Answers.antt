use Rattle.std.proofs.Common.{refl, subst}
use Rattle.sg_eval.specs.Journal.{counted}
use Rattle.sg_console.specs.Console.{ConsoleState}
use Rattle.sg_live.specs.JobView.{job_of}
use Rattle.sg_live.specs.Lived.{IsSession, unopened, opened}
use Rattle.sg_live.specs.Outside.{outside}
use Rattle.sg_live.proofs.living.run.Goals as goal

pub returns-in-Ok-open : goal.returns-in-Ok-open
returns-in-Ok-open g c =
    opened c.in-Ok.reply (g.S.Shelf.state c.fetched.new.shelf) c.in-Ok-open.loaded.spec c.in-Ok.ensures.ok c.in-Ok-open.ensures.brings
    (subst (λ (x : ConsoleState). IsSession (job_of c.args.asked.now) c.in-Ok-open.loaded.spec (outside (g.S.Shelf.state c.fetched.new.shelf) x (counted c.args.journal.now)) c.begin.result
    (outside (g.S.Shelf.state c.begin.new.shelf) (g.C.Console.state c.begin.new.console) (counted c.begin.new.journal))) c.in-Ok-open.ensures.quiet c.begin.ensures)

pub returns : goal.returns
returns g c = unopened c.in-Ok.reply c.in-Ok.ensures.ok refl c.in-Err.ensures.none
