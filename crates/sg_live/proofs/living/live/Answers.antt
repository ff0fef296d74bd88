use Rattle.std.proofs.Common.{map, string_bytes}
use Rattle.sg_eval.specs.Journal.{counted}
use Rattle.sg_live.specs.Outside.{outside}
use Rattle.sg_live.specs.Words.{job}
use Rattle.sg_live.proofs.Causes.{status_is, usage_cause, read_cause, spec_cause, sink_cause, memory_cause, complete}
use Rattle.sg_live.proofs.living.live.Goals as goal

pub returns-clause-usage : goal.returns-clause-usage
returns-clause-usage g c =
    usage_cause (outside (g.S.Shelf.state c.args.shelf.now) (g.C.Console.state c.args.console.now) (counted c.args.journal.now))
    (outside (g.S.Shelf.state c.live_to_end.new.shelf) (g.C.Console.state c.live_to_end.new.console) (counted c.live_to_end.new.journal)) c.live_to_end.result (job (map string_bytes c.args.words.now)) c.live_to_end.ensures

pub returns-clause-read_fault : goal.returns-clause-read_fault
returns-clause-read_fault g c =
    read_cause (outside (g.S.Shelf.state c.args.shelf.now) (g.C.Console.state c.args.console.now) (counted c.args.journal.now))
    (outside (g.S.Shelf.state c.live_to_end.new.shelf) (g.C.Console.state c.live_to_end.new.console) (counted c.live_to_end.new.journal)) c.live_to_end.result (job (map string_bytes c.args.words.now)) c.live_to_end.ensures

pub returns-clause-spec_fault : goal.returns-clause-spec_fault
returns-clause-spec_fault g c =
    spec_cause (outside (g.S.Shelf.state c.args.shelf.now) (g.C.Console.state c.args.console.now) (counted c.args.journal.now))
    (outside (g.S.Shelf.state c.live_to_end.new.shelf) (g.C.Console.state c.live_to_end.new.console) (counted c.live_to_end.new.journal)) c.live_to_end.result (job (map string_bytes c.args.words.now)) c.live_to_end.ensures

pub returns-clause-sink_fault : goal.returns-clause-sink_fault
returns-clause-sink_fault g c =
    sink_cause (outside (g.S.Shelf.state c.args.shelf.now) (g.C.Console.state c.args.console.now) (counted c.args.journal.now))
    (outside (g.S.Shelf.state c.live_to_end.new.shelf) (g.C.Console.state c.live_to_end.new.console) (counted c.live_to_end.new.journal)) c.live_to_end.result (job (map string_bytes c.args.words.now)) c.live_to_end.ensures

pub returns-clause-memory : goal.returns-clause-memory
returns-clause-memory g c =
    memory_cause (outside (g.S.Shelf.state c.args.shelf.now) (g.C.Console.state c.args.console.now) (counted c.args.journal.now))
    (outside (g.S.Shelf.state c.live_to_end.new.shelf) (g.C.Console.state c.live_to_end.new.console) (counted c.live_to_end.new.journal)) c.live_to_end.result (job (map string_bytes c.args.words.now)) c.live_to_end.ensures

pub returns-clause-complete : goal.returns-clause-complete
returns-clause-complete g c =
    complete (outside (g.S.Shelf.state c.args.shelf.now) (g.C.Console.state c.args.console.now) (counted c.args.journal.now))
    (outside (g.S.Shelf.state c.live_to_end.new.shelf) (g.C.Console.state c.live_to_end.new.console) (counted c.live_to_end.new.journal)) c.live_to_end.result (job (map string_bytes c.args.words.now)) c.live_to_end.ensures

pub returns-clause-statuses : goal.returns-clause-statuses
returns-clause-statuses g c =
    status_is (outside (g.S.Shelf.state c.args.shelf.now) (g.C.Console.state c.args.console.now) (counted c.args.journal.now))
    (outside (g.S.Shelf.state c.live_to_end.new.shelf) (g.C.Console.state c.live_to_end.new.console) (counted c.live_to_end.new.journal)) c.live_to_end.result (job (map string_bytes c.args.words.now)) c.live_to_end.ensures
