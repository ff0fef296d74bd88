use Rattle.std.proofs.Common.{◌≡◌, ◌≤◌, ◌+◌, ◌*◌, ◌^◌, drop}
use Rattle.sg_eval.specs.Journal.{counted}
use Rattle.sg_editor.specs.Ask.{Readers, AreReaders}
use Rattle.sg_editor.specs.Editing.{spec_in, height_in, session_of}
use Rattle.sg_workload.specs.Performed.{AreLeft}
use Rattle.sg_workload.proofs.working.perform.Given as goal

-- the commands that are left lead to where all lead
abbrev pub invariant-loop-command : goal.invariant-loop-command
invariant-loop-command l = record {
  left : (r : Readers) → AreReaders (spec_in l.initial.editor) r
      → AreLeft (spec_in l.initial.editor) (height_in l.initial.editor) r (session_of l.initial.editor) l.commands (counted l.initial.journal)
      (session_of l.editor) (drop l.command-index l.commands) (counted l.journal);
  setting : l.editor.setting ≡ l.initial.editor.setting;
  later : counted l.initial.journal ≤ counted l.journal;
  room : counted l.journal ≤ counted l.initial.journal + 2 ^ 40 * l.command-index;
}
