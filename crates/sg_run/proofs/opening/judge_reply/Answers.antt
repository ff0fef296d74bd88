use Rattle.std.proofs.Common.{◌≡◌, ℕ, List, sym, ap, ◌∙◌}
use Rattle.sg_replies.specs.declared.reply.Reply.TheVariants.{Fetched}
use Rattle.sg_output.proofs.Opened.{ends_missing, known_missing, admitted_by, fetched_known, fetched_ended}
use Rattle.sg_run.proofs.opening.judge_reply.Goals as goal

pub returns-in-Fetched : goal.returns-in-Fetched
returns-in-Fetched g c =
    let is : c.args.reply.now ≡ Fetched c.as_slice.result.now = c.in-Fetched.is ∙ ap (λ (b : List ℕ). Fetched b) (sym c.as_slice.ensures) in
    record {
      admitted = admitted_by _ c.args.reply.now c.as_slice.result.now _ is c.judge.ensures.accepted c.judge.ensures.readers;
      quiet = c.judge.ensures.quiet;
      known = fetched_known c.args.reply.now c.as_slice.result.now _ _ _ is c.judge.ensures.known;
      ended = fetched_ended c.args.reply.now c.as_slice.result.now _ _ _ is c.judge.ensures.ended;
    }

pub returns-in_default : goal.returns-in_default
returns-in_default g c = record {
  admitted = tt;
  quiet = tt;
  known = known_missing c.args.reply.now _ _ _ c.in_default.not-Fetched;
  ended = λ v right next quiet shelf n. ends_missing next v c.args.reply.now shelf _ _ n _ c.in_default.not-Fetched c.finish.ensures;
}
