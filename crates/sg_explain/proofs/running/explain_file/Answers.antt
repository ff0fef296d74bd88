use Rattle.std.proofs.Common.{inl}
use Rattle.sg_explain.proofs.Causes.{run_cause}
use Rattle.sg_explain.proofs.running.explain_file.Goals as goal

pub returns-in-Ok-clause-cause : goal.returns-in-Ok-clause-cause
returns-in-Ok-clause-cause g c = run_cause _ _ _ _ _ _ _ (inl (record { reply = c.in-Ok.reply; replied = c.in-Ok.ensures.ok; answered = c.answer.ensures }))

pub returns-in-Err-clause-cause : goal.returns-in-Err-clause-cause
returns-in-Err-clause-cause g c = tt
