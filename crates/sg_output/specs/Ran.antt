-- A whole run: what came of it, by what its words and the replies of the shelf tell
use Rattle.std.specs.Prelude.{◌≡◌, ◌≢◌, ◌≤◌, ◌+◌, List, [], ◌∷◌, ◌++◌, ℕ, length, sum, Some}
use Rattle.sg_outside.specs.Count.{Rose, answered_by, tallied}
use Rattle.sg_outside.specs.Sink.{appended}
use Rattle.sg_replies.specs.declared.reply.Reply.{Reply}
use Rattle.sg_replies.specs.Calls.{Served, ServedOrOneMore}
use Rattle.sg_replies.specs.Counts.{CallsOrOneMore}
use Rattle.sg_output.specs.declared.status.Status.{Status}
use Rattle.sg_output.specs.declared.status.Status.TheVariants.{Memory, SinkFault}
use Rattle.sg_output.specs.Statuses.{IsEnd, IsCut}
use Rattle.sg_output.specs.Output.{Output, joined}
use Rattle.sg_output.specs.World.{World, WroteCounted}

-- no reply came past the block that follows the first k: without the last one f tells no more than these
abbrev pub NonePast : ℕ → (List Reply → Output) → List Reply → Type 0
NonePast k f got = (front : List Reply) (last : Reply) → got ≡ front ++ last ∷ [] → length (f front).blocks ≤ k

-- the run was cut short in what f tells by these replies
pub record Stopped (status : Status) (old new : World) (f : List Reply → Output) (got : List Reply) : Type 0 where
  -- whole blocks were written, and after a fault of the sink a front of the next; their equations are counted
  pub counted : WroteCounted status old new (f got)
  -- no reply came past the block at which that was
  pub none_past : NonePast counted.k f got
  -- nor did a call besides theirs, for which the shelf had no memory: f tells no more than those blocks then
  pub calls : CallsOrOneMore (length (f got).blocks ≤ counted.k) (length got) old.shelf.calls new.shelf.calls

-- the run ended in t with this status, and these are all the replies
pub record Ends (old : World) (t : Output) (got : List Reply) (status : Status) (new : World) : Type 0 where
  -- at an end of its own all blocks were written, each by one put
  pub output : IsEnd status → new.sink.written ≡ appended old.sink.written (joined t.blocks)
  pub puts : IsEnd status → new.sink.puts ≡ tallied (length t.blocks) old.sink.puts
  -- the journal counts what is evaluated for them, and the status is the one that is told
  pub evaluated : IsEnd status → new.counted ≡ old.counted + sum t.evs
  pub finished : IsEnd status → t.status ≡ Some status
  -- cut short, whole blocks were written, and after a fault of the sink a front of the next
  pub cut : IsCut status → WroteCounted status old new t
  -- each reply is taken
  pub taken : t.taken ≡ length got
  -- they are the shelf's answers to the requests in turn; a last call may have found no memory
  pub served : ServedOrOneMore old.shelf t.requests got new.shelf
  -- where memory was not wanting, each call was answered
  pub calls : status ≢ Memory → new.shelf.calls ≡ answered_by (length got) old.shelf.calls
  -- the sink's count of failures did not sink, and at a fault of the sink it rose
  pub sink_later : old.sink.faults ≤ new.sink.faults
  pub sink_fault : status ≡ SinkFault → Rose old.sink.faults new.sink.faults

-- a run with this status and these replies, in what f tells by them
pub record Ran (f : List Reply → Output) (old : World) (got : List Reply) (status : Status) (new : World) : Type 0 where
  -- what was written, evaluated and asked
  pub ends : Ends old (f got) got status new
  -- cut short, neither a reply nor a call without one came past the block at which that was
  pub stopped : IsCut status → Stopped status old new f got

-- a run that came to an end of its own, as a whole: its bytes, puts, status, requests, and how many equations
pub record IsWhole (t : Output) (old : World) (got : List Reply) (status : Status) (new : World) : Type 0 where
  pub bytes : new.sink.written ≡ appended old.sink.written (joined t.blocks)
  pub puts : new.sink.puts ≡ tallied (length t.blocks) old.sink.puts
  pub finished : t.status ≡ Some status
  pub replies : t.taken ≡ length got
  pub requests : Served old.shelf t.requests got new.shelf
  pub evaluated : new.counted ≡ old.counted + sum t.evs
