use Rattle.std.proofs.Common.{◌≡◌, ◌≤◌, ◌+◌, ◌*◌, ◌^◌, drop}
use Rattle.sg_eval.specs.Journal.{counted}
use Rattle.sg_editor.specs.Ask.{Readers, AreReaders}
use Rattle.sg_editor.specs.Editing.{spec_in, session_of}
use Rattle.sg_output.specs.Session.{session}
use Rattle.sg_output.specs.World.{world}
use Rattle.sg_output.specs.Parts.{Passed}
use Rattle.sg_run.specs.DeskView.{desk_in}
use Rattle.sg_run.proofs.playing.perform.Given as goal

-- the run goes on as the session of the commands that are left
abbrev pub invariant-loop-command : goal.invariant-loop-command
invariant-loop-command g l = record {
  kept : (r : Readers) → desk_in l.editor r ≡ desk_in l.initial.editor r;
  passed : (r : Readers) → AreReaders (spec_in l.initial.editor) r
      → Passed (session (desk_in l.initial.editor r) (session_of l.initial.editor) l.commands)
      (session (desk_in l.initial.editor r) (session_of l.editor) (drop l.command-index l.commands))
      l.initial.replies.items l.replies.items
      (world (g.S.Shelf.state l.initial.shelf) (g.K.Sink.state l.initial.sink) (counted l.initial.journal))
      (world (g.S.Shelf.state l.shelf) (g.K.Sink.state l.sink) (counted l.journal));
  room : counted l.journal ≤ counted l.initial.journal + 2 ^ 40 * l.command-index;
}
