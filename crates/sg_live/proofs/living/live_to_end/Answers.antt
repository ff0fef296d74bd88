use Rattle.std.proofs.Common.{Option, subst}
use Rattle.sg_eval.specs.Journal.{counted}
use Rattle.sg_live.specs.Words.{Job}
use Rattle.sg_live.specs.Lived.{IsRunOfWords}
use Rattle.sg_live.specs.Outside.{outside}
use Rattle.sg_live.proofs.living.live_to_end.Goals as goal

pub returns-in-Some : goal.returns-in-Some
returns-in-Some g c =
    subst (λ (j : Option Job). IsRunOfWords j (outside (g.S.Shelf.state c.args.shelf.now) (g.C.Console.state c.args.console.now) (counted c.args.journal.now)) c.run.result
    (outside (g.S.Shelf.state c.run.new.shelf) (g.C.Console.state c.run.new.console) (counted c.run.new.journal))) c.in-Some.ensures.job c.run.ensures
