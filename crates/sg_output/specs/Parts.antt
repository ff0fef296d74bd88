-- The parts of a run
use Rattle.std.specs.Prelude.{◌≡◌, ◌≤◌, ℕ, ◌+◌, List, ◌++◌, length, sum}
use Rattle.sg_outside.specs.Count.{Rose, tallied}
use Rattle.sg_outside.specs.Sink.{SinkState, CutShort, appended}
use Rattle.sg_replies.specs.declared.reply.Reply.{Reply}
use Rattle.sg_replies.specs.Calls.{Served}
use Rattle.sg_output.specs.declared.status.Status.{Status}
use Rattle.sg_output.specs.declared.status.Status.TheVariants.{Memory, SinkFault}
use Rattle.sg_output.specs.Statuses.{IsEnd, IsCut}
use Rattle.sg_output.specs.Output.{Output, before as before_told, joined}
use Rattle.sg_output.specs.World.{World}
use Rattle.sg_output.specs.Ran.{Ends, Stopped, NonePast}

-- the run went on over t, which took these replies
pub record Goes (old : World) (t : Output) (got : List Reply) (new : World) : Type 0 where
  pub output : new.sink.written ≡ appended old.sink.written (joined t.blocks)
  pub puts : new.sink.puts ≡ tallied (length t.blocks) old.sink.puts
  pub evaluated : new.counted ≡ old.counted + sum t.evs
  pub each : length t.blocks ≡ length t.evs
  pub taken : t.taken ≡ length got
  pub answered : length t.requests ≡ length got
  pub served : Served old.shelf t.requests got new.shelf
  pub sink_later : old.sink.faults ≤ new.sink.faults

-- the replies grew by some that f takes, and the run goes on as next
pub record Passed (f next : List Reply → Output) (before after : List Reply) (old new : World) : Type 0 where
  pub got : List Reply
  pub so_far : Output
  pub replies : after ≡ before ++ got
  pub goes : Goes old so_far got new
  pub law : (more : List Reply) → f (got ++ more) ≡ before_told so_far (next more)
  pub none_past : NonePast (length so_far.blocks) f got

-- the replies grew by some that f takes, and the run ended so
pub record Played (f : List Reply → Output) (before after : List Reply) (status : Status) (old new : World) : Type 0 where
  pub got : List Reply
  pub replies : after ≡ before ++ got
  pub ends : Ends old (f got) got status new
  pub stopped : IsCut status → Stopped status old new f got

-- a text that ends the run with this status was put, once, and so the run ended
pub record Finished (status : Status) (bytes : List ℕ) (old : SinkState) (ended : Status)
    (new : SinkState) : Type 0 where
  pub status_is : IsEnd ended → ended ≡ status
  pub output : IsEnd ended → new.written ≡ appended old.written bytes
  pub memory : ended ≡ Memory → new.written ≡ old.written
  pub fault : ended ≡ SinkFault → CutShort old.written new.written bytes
  pub rose : ended ≡ SinkFault → Rose old.faults new.faults
  pub later : old.faults ≤ new.faults
  pub puts : new.puts ≡ tallied 1 old.puts
