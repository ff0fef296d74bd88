use Rattle.std.proofs.Common.{◌≡◌, ℕ, List, [], sym, ap, ◌∙◌}
use Rattle.sg_replies.specs.declared.reply.Reply.TheVariants.{Fetched}
use Rattle.sg_output.specs.declared.status.Status.TheVariants.{ReadFault}
use Rattle.sg_output.proofs.Endings.{ends_as, ends_text}
use Rattle.sg_output.proofs.Opened.{script_missing, script_by, script_ended}
use Rattle.sg_run.proofs.scripts.judge_reply.Goals as goal

pub returns-in-Fetched : goal.returns-in-Fetched
returns-in-Fetched g c =
    let is : c.args.reply.now ≡ Fetched c.as_slice.result.now = c.in-Fetched.is ∙ ap (λ (b : List ℕ). Fetched b) (sym c.as_slice.ensures) in
    record {
      read = script_by _ c.args.reply.now c.as_slice.result.now _ is c.judge.ensures.read;
      few = c.judge.ensures.few;
      quiet = c.judge.ensures.quiet;
      ended = script_ended c.args.reply.now c.as_slice.result.now _ _ _ is c.judge.ensures.ended;
    }

pub returns-in_default : goal.returns-in_default
returns-in_default g c = record {
  read = tt;
  few = tt;
  quiet = tt;
  ended = λ next quiet shelf n. ends_as _ _ _ _ [] _ (script_missing next c.args.reply.now c.in_default.not-Fetched []) (ends_text shelf _ _ n ReadFault _ _ c.finish.ensures);
}
