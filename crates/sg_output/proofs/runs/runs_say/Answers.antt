use Rattle.std.proofs.Common.{refl, subst}
use Rattle.sg_output.specs.declared.status.Status.{Status}
use Rattle.sg_output.specs.Statuses.{IsEnd}
use Rattle.sg_output.proofs.Fronts.{cut_front}
use Rattle.sg_output.proofs.CauseLaws.{right_of, failures_counted}
use Rattle.sg_output.proofs.runs.runs_say.Goals as goal

pub returns-clause-whole : goal.returns-clause-whole
returns-clause-whole c = λ f old new got status ran is. record {
  bytes = ran.ends.output is;
  puts = ran.ends.puts is;
  finished = ran.ends.finished is;
  replies = ran.ends.taken;
  requests = record {
    files = ran.ends.served.files;
    faults = ran.ends.served.faults;
    later = ran.ends.served.later;
    calls = ran.ends.calls (λ memory. subst (λ (s : Status). IsEnd s) memory is);
  };
  evaluated = ran.ends.evaluated is;
}

pub returns-clause-after_memory : goal.returns-clause-after_memory
returns-clause-after_memory c = λ f old new got ran. let w = ran.ends.cut tt in (w.k, w.within, (w.memory refl).written)

pub returns-clause-after_sink_fault : goal.returns-clause-after_sink_fault
returns-clause-after_sink_fault c = λ f old new got ran. cut_front old new (f got) (ran.ends.cut tt)

pub returns-clause-failed_replies : goal.returns-clause-failed_replies
returns-clause-failed_replies c = λ asked old new got status known ran. failures_counted asked got status old new known (λ r right. (ran r right).ends)

pub returns-clause-calls : goal.returns-clause-calls
returns-clause-calls c = λ asked old new got status known ran other.
    let k = right_of asked old new got status known other in
    (ran k.0 k.1).ends.calls other
