use Rattle.std.specs.Prelude.{is_some}
use Rattle.std.proofs.Common.{sym, ap, ◌∙◌}
use Rattle.sg_commands.proofs.Captures.{has_capture}
use Rattle.sg_commands.proofs.Typed.{captured_is}
use Rattle.sg_commands.proofs.turning.is_typing.Goals as goal

pub returns-in-Some : goal.returns-in-Some
returns-in-Some c =
    let b = c.args.buffer.now in
    let x = has_capture b.capture c.in-Some.field-0.now c.in-Some.ensures in
    sym (ap is_some (captured_is b ∙ x.1))

pub returns-in-None : goal.returns-in-None
returns-in-None c = sym (ap is_some (captured_is c.args.buffer.now ∙ c.in-None.ensures))
