-- An editor that has performed commands, or a part of them.
use Rattle.std.specs.Prelude.{◌≡◌, ◌≤◌, ℕ, ◌+◌, List}
use Rattle.sg_kinds.specs.declared.spec.Spec.{Spec}
use Rattle.sg_script.specs.declared.command.Command.{Command}
use Rattle.sg_editor.specs.Session.{Session}
use Rattle.sg_load.specs.Only.{IsTheVerdict}
use Rattle.sg_load.specs.Verdict.Verdict.{Accepted}
use Rattle.sg_workload.specs.Lines.{lines_text}
use Rattle.sg_editor.specs.Ask.{Readers, AreReaders}
use Rattle.sg_workload.specs.Loads.{Played, played}

-- the commands came to this session, and so many more equations were evaluated in all
pub record ArePerformed (p : Played) (s : Session) (before now : ℕ) : Type 0 where
  pub session : s ≡ p.session
  pub evaluated : now ≡ before + p.evaluated

-- memory was wanting in their midst: no more were evaluated than all of them evaluate
pub record AreCut (p : Played) (before now : ℕ) : Type 0 where
  pub least : before ≤ now
  pub most : now ≤ before + p.evaluated

-- the commands that are left lead from here to where all lead
pub record AreLeft (spec : Spec) (height : ℕ) (readers : Readers) (first : Session) (all : List Command) (before : ℕ)
    (s : Session) (left : List Command) (now : ℕ) : Type 0 where
  pub session : (played spec height readers s left).session ≡ (played spec height readers first all).session
  pub evaluated :
      now + (played spec height readers s left).evaluated ≡ before + (played spec height readers first all).evaluated

-- the built-in language is accepted, and its texts can be read
pub record IsLinesAccepted : Type 0 where
  pub spec : Spec
  pub verdict : IsTheVerdict lines_text (Accepted spec)
  pub readers : Readers
  pub read : AreReaders spec readers
