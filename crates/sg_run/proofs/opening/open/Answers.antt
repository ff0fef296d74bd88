use Rattle.std.proofs.Common.{[], ◌∙◌}
use Rattle.sg_load.specs.Loaded.{Contents}
use Rattle.sg_output.specs.OutputOf.{opened}
use Rattle.sg_output.proofs.Blank.{blank_readers}
use Rattle.sg_output.proofs.Exits.{exits}
use Rattle.sg_output.proofs.Fetches.{opened_ok, opened_known, opened_played}
use Rattle.sg_output.proofs.Opened.{read_nothing}
use Rattle.sg_output.proofs.Requests.{played_from}
use Rattle.sg_run.proofs.opening.open.Goals as goal

pub returns-in_err-reply-clause-known : goal.returns-in_err-reply-clause-known
returns-in_err-reply-clause-known g c = exits _ c.in_err-reply.field-0.0 _ c.from_residual.ensures.1
    (λ n. read_nothing c.args.name.now _ _ _ _ blank_readers (c.fetch.ensures.same ∙ c.requires.none))

pub returns-in_err-reply-clause-played : goal.returns-in_err-reply-clause-played
returns-in_err-reply-clause-played g c = exits _ c.in_err-reply.field-0.0 _ c.from_residual.ensures.1
    (λ v right next quiet n. played_from _ _ [] _ _ _ _ c.requires.none (c.in_err-reply.ensures.played (opened next v) _ n))

pub returns : goal.returns
returns g c = record {
  opened = opened_ok (λ (loaded : Contents). loaded.spec) c.args.name.now c.in_ok-reply.reply _ _ _ _ _ _ c.requires.none c.in_ok-reply.ensures.replied c.fetch.ensures.same c.add.ensures c.judge_reply-loaded.ensures.admitted;
  quiet = c.judge_reply-loaded.ensures.quiet;
  known = opened_known blank_readers c.args.name.now c.in_ok-reply.reply _ _ _ _ _ _ _ _ c.requires.none c.in_ok-reply.ensures.replied c.fetch.ensures.same c.add.ensures c.judge_reply-loaded.ensures.known;
  played = opened_played c.args.name.now c.in_ok-reply.reply _ _ _ _ _ _ _ _ c.requires.none c.in_ok-reply.ensures.replied c.fetch.ensures.same c.add.ensures c.judge_reply-loaded.ensures.ended;
}
