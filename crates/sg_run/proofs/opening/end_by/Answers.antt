use Rattle.std.proofs.Common.{◌≢◌, inl, inr, refl, []}
use Rattle.sg_kinds.specs.declared.fault.SpecFault.TheVariants.{NoMemory}
use Rattle.sg_load.specs.Verdict.Verdict.{Refused}
use Rattle.sg_output.specs.OutputOf.{fault_told, judged}
use Rattle.sg_output.proofs.Endings.{ends_as, ends_early}
use Rattle.sg_output.proofs.Opened.{judged_quiet, told_by_verdict}
use Rattle.sg_run.proofs.opening.end_by.Goals as goal

pub returns-then-is_memory : goal.returns-then-is_memory
returns-then-is_memory g c = record {
  known = inr (record { memory = refl; sink = refl });
  ended = λ v is next quiet shelf n. ends_early shelf _ n (judged v next) (judged_quiet v next quiet);
}

pub returns : goal.returns
returns g c =
    let some : c.args.fault.now ≢ NoMemory = λ is. let yes = c.if-is_memory.ensures.1 is in let no = c.if-is_memory.false in cc in
    record {
      known = inl (c.args.fault.now, c.requires some);
      ended = λ v is next quiet shelf n. ends_as _ _ (fault_told c.args.fault.now) _ [] _ (told_by_verdict c.args.bytes.now v (Refused c.args.fault.now) next (c.requires some) is) (c.refuse.ensures shelf n);
    }
