use Rattle.sg_output.specs.declared.status.Status.TheVariants.{Memory}
use Rattle.sg_replies.specs.Requests.Request.{Fetch}
use Rattle.sg_output.proofs.Exits.{exits}
use Rattle.sg_output.proofs.Requests.{no_reply, not_asked}
use Rattle.sg_run.proofs.opening.fetch.Goals as goal

pub returns-in_err-reserve-clause-played : goal.returns-in_err-reserve-clause-played
returns-in_err-reserve-clause-played g c = exits _ Memory _ c.from_residual.ensures.1 (λ next sink n. not_asked (Fetch c.args.name.now c.args.most) next _ _ _ sink n c.reserve.ensures.items)

pub returns-in_err-reply-clause-played : goal.returns-in_err-reply-clause-played
returns-in_err-reply-clause-played g c = exits _ Memory _ c.from_residual-in_err-reply.ensures.1 (λ next sink n. no_reply (Fetch c.args.name.now c.args.most) next _ _ _ _ sink n c.reserve.ensures.items c.in_err-reply.ensures.err)
