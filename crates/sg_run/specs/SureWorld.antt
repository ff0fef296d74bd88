-- What a run over a shelf and a sink that never fail finds and leaves
use Rattle.std.specs.Prelude.{◌≡◌, ℕ, ◌+◌, List, ◌++◌, length, sum, Some}
use Rattle.sg_outside.specs.Count.{more_answered, raised_by}
use Rattle.sg_outside.specs.Shelf.KnownFiles.{OrEmpty}
use Rattle.sg_outside.specs.SureShelf.{UnfailingShelf}
use Rattle.sg_outside.specs.SureSink.{UnfailingSink}
use Rattle.sg_replies.specs.declared.reply.Reply.{Reply}
use Rattle.sg_replies.specs.Requests.{Serves}
use Rattle.sg_output.specs.declared.status.Status.{Status}
use Rattle.sg_output.specs.Output.{Output, joined}
use Rattle.sg_output.specs.World.{World}

-- such a shelf tells its files and its calls, such a sink its bytes and its puts, and neither counts a failure
abbrev pub sure_world : UnfailingShelf → UnfailingSink → ℕ → World
sure_world shelf sink counted = record {
  shelf = record { files = OrEmpty shelf.files; faults = 0; calls = Some shelf.calls };
  sink = record { written = Some sink.written; faults = 0; puts = Some sink.puts };
  counted = counted;
}

-- what is told was done as a whole, and no more
pub record IsSurelyWhole (t : Output) (got : List Reply) (status : Status) (shelf shelf_after : UnfailingShelf)
    (sink sink_after : UnfailingSink) (count count_after : ℕ) : Type 0 where
  -- its blocks were written, each by one put, and the status is the one that it tells
  pub bytes : sink_after.written ≡ sink.written ++ joined t.blocks
  pub puts : sink_after.puts ≡ raised_by (length t.blocks) sink.puts
  pub finished : t.status ≡ Some status
  -- each reply is taken; they are the shelf's answers to the requests, one call each, and what was kept stands there
  pub replies : t.taken ≡ length got
  pub requests : Serves (OrEmpty shelf.files) t.requests got (OrEmpty shelf_after.files)
  pub calls : shelf_after.calls ≡ more_answered (length got) shelf.calls
  -- so many equations were evaluated
  pub evaluated : count_after ≡ count + sum t.evs
