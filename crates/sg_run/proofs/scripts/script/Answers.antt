use Rattle.std.proofs.Common.{Vec, Global}
use Rattle.sg_script.specs.declared.command.Command.{Command}
use Rattle.sg_output.specs.OutputOf.{scripted}
use Rattle.sg_output.proofs.Exits.{exits}
use Rattle.sg_output.proofs.Fetches.{script_ok, script_err}
use Rattle.sg_run.proofs.scripts.script.Goals as goal

pub returns-in_err-reply-clause-played : goal.returns-in_err-reply-clause-played
returns-in_err-reply-clause-played g c = exits _ c.in_err-reply.field-0.0 _ c.from_residual.ensures.1 (λ next quiet n. c.in_err-reply.ensures.played (scripted next) _ n)

pub returns : goal.returns
returns g c = record {
  passed = script_ok (λ (commands : Vec Command Global). commands.items) c.args.name.now c.in_ok-reply.reply _ _ _ _ _ _ _ _ c.in_ok-reply.ensures.replied c.fetch.ensures.same c.add.ensures c.judge_reply-commands.ensures.read c.judge_reply-commands.ensures.quiet;
  few = c.judge_reply-commands.ensures.few;
  played = script_err c.args.name.now c.in_ok-reply.reply _ _ _ _ _ _ _ _ c.in_ok-reply.ensures.replied c.fetch.ensures.same c.add.ensures c.judge_reply-commands.ensures.ended;
}
