use Rattle.std.proofs.Common.{refl, arith}
use Rattle.sg_output.specs.declared.status.Status.TheVariants.{Done}
use Rattle.sg_output.specs.OutputOf.{checked, ok_text}
use Rattle.sg_output.proofs.Exits.{ended_is}
use Rattle.sg_output.proofs.Endings.{ends_text}
use Rattle.sg_output.proofs.Opened.{read_opened, played_opened, read_as}
use Rattle.sg_output.proofs.Requests.{played_as, played_at}
use Rattle.sg_run.proofs.running.check.Goals as goal

pub returns-in_err-open : goal.returns-in_err-open
returns-in_err-open g c = record {
  known = λ n. read_as _ _ _ _ _ _ (ended_is c.in_err-open.field-0.0 _ c.from_residual.ensures.1) (c.in_err-open.ensures.known n);
  played = λ r right n. played_as _ _ _ _ _ _ _ (ended_is c.in_err-open.field-0.0 _ c.from_residual.ensures.1)
      (c.in_err-open.ensures.played r.verdict right.verdict checked (λ spec. record { taken = refl; asked = omega arith }) n);
}

pub returns : goal.returns
returns g c =
    let o = c.in_ok-open.ensures.opened in
    let spec = c.in_ok-open.field-0.spec in
    record {
      known = λ n. read_as _ _ _ _ _ _ c.end.ensures (read_opened c.args.name.now spec _ _ _ _ (λ readers. checked spec) _ _ _ _ o
          (λ readers read. played_at (checked spec) _ _ _ _ (ends_text _ _ _ n Done _ ok_text c.finish.ensures) refl));
      played = λ r right n. played_as _ _ _ _ _ _ _ c.end.ensures (played_opened c.args.name.now spec _ _ _ _ _ _ _ (λ readers. checked) _ _ o c.in_ok-open.ensures.quiet
          (λ readers read. played_at (checked spec) _ _ _ _ (ends_text _ _ _ n Done _ ok_text c.finish.ensures) refl) r right);
    }
