use Rattle.std.proofs.Common.{◌≡◌, vec_capacity}
use Rattle.sg_eval.specs.Journal.{counted}
use Rattle.sg_editor.specs.Ask.{Readers, AreReaders}
use Rattle.sg_editor.specs.Editing.{spec_in, session_of}
use Rattle.sg_live.specs.DeskView.{desk_in}
use Rattle.sg_live.specs.Outside.{outside}
use Rattle.sg_live.specs.Turns.{WentOn}
use Rattle.sg_live.proofs.talking.talk.Given as goal

-- as many lines as were counted are answered
abbrev pub invariant-loop : goal.invariant-loop
invariant-loop g l = record {
  setting : l.editor.setting ≡ l.initial.editor.setting;
  capacity : vec_capacity l.line ≡ vec_capacity l.initial.line;
  went_on : (r : Readers) → AreReaders (spec_in l.initial.editor) r
      → WentOn (desk_in l.initial.editor r) (session_of l.initial.editor) l.counter (session_of l.editor)
      (outside (g.S.Shelf.state l.initial.shelf) (g.C.Console.state l.initial.console) (counted l.initial.journal))
      (outside (g.S.Shelf.state l.shelf) (g.C.Console.state l.console) (counted l.journal));
}
