use Rattle.std.proofs.Common.{subst}
use Rattle.sg_output.specs.declared.status.Status.{Status}
use Rattle.sg_output.specs.Statuses.{IsEnd}
use Rattle.sg_run.proofs.sure.surely_says.Goals as goal

pub returns : goal.returns
returns c = λ f shelf shelf_after sink sink_after count count_after got status ran is. record {
  bytes = let e = ran.ends.output is in cc;
  puts = let e = ran.ends.puts is in cc;
  finished = ran.ends.finished is;
  replies = ran.ends.taken;
  requests = ran.ends.served.files;
  calls = let e = ran.ends.calls (λ memory. subst (λ (s : Status). IsEnd s) memory is) in cc;
  evaluated = ran.ends.evaluated is;
}
