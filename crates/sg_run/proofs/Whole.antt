-- A run that came to an end of its own is whole.
use Rattle.std.specs.Prelude.{◌≡◌, List, Option}
use Rattle.std.proofs.Common.{subst}
use Rattle.sg_replies.specs.declared.reply.Reply.{Reply}
use Rattle.sg_output.specs.declared.status.Status.{Status}
use Rattle.sg_output.specs.declared.status.Status.TheVariants.{Done}
use Rattle.sg_output.specs.Job.{Job}
use Rattle.sg_output.specs.Output.{Output}
use Rattle.sg_output.specs.OutputOf.{job_told}
use Rattle.sg_output.specs.Ran.{Ran, IsWhole}
use Rattle.sg_output.specs.Reading.{Reading}
use Rattle.sg_output.specs.Statuses.{IsEnd}
use Rattle.sg_output.specs.World.{World}

pub whole : (f : List Reply → Output) (old new : World) (got : List Reply) (status : Status) → Ran f old got status new → IsEnd status → IsWhole (f got) old got status new
whole f old new got status ran is = record {
  bytes = ran.ends.output is;
  puts = ran.ends.puts is;
  finished = ran.ends.finished is;
  replies = ran.ends.taken;
  requests = record {
    files = ran.ends.served.files;
    faults = ran.ends.served.faults;
    later = ran.ends.served.later;
    calls = ran.ends.calls (λ memory. subst (λ (s : Status). IsEnd s) memory is);
  };
  evaluated = ran.ends.evaluated is;
}

-- that of this job, where it is done
pub whole_of : (asked j : Option Job) (r : Reading) (old new : World) (got : List Reply) → asked ≡ j → Ran (job_told asked r) old got Done new → IsWhole (job_told j r got) old got Done new
whole_of asked j r old new got is ran = subst (λ (x : Option Job). IsWhole (job_told x r got) old got Done new) is (whole (job_told asked r) old new got Done ran tt)
