use Rattle.std.specs.Prelude.{Some, None}
use Rattle.sg_editor.proofs.Switching.{shown}
use Rattle.sg_editor.proofs.desk.Desk.show.Goals as goal

pub returns-in-Some : goal.returns-in-Some
returns-in-Some c = shown c.args.self.now (Some c.in-Some.field-0.now) c.in-Some.ensures

pub returns-in-None : goal.returns-in-None
returns-in-None c = shown c.args.self.now None c.in-None.ensures
