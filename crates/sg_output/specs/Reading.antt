-- What is known of the texts that a run reads
use Rattle.std.specs.Prelude.{◌≡◌, ℕ, List, ◌∷◌, Option, Some}
use Rattle.sg_kinds.specs.declared.spec.Spec.{Spec}
use Rattle.sg_replies.specs.declared.reply.Reply.{Reply}
use Rattle.sg_replies.specs.declared.reply.Reply.TheVariants.{Fetched}
use Rattle.sg_load.specs.Verdict.{Verdict, IsVerdict}
use Rattle.sg_load.specs.Verdict.Verdict.{Accepted}
use Rattle.sg_load.specs.Only.{IsTheVerdict}
use Rattle.sg_workload.specs.Lines.{lines_text}
use Rattle.sg_editor.specs.Ask.{Readers, AreReaders}
use Rattle.sg_output.specs.Job.{Job}
use Rattle.sg_output.specs.Job.Job.{Load}

-- the verdict on the specification, and how the texts that are typed and the files that are loaded are read
pub record Reading : Type 0 where
  pub verdict : Verdict
  pub readers : Readers

-- the verdict is that on the specification that was fetched first, if one was; there is no other
abbrev pub IsVerdictIn : List Reply → Verdict → Type 0
IsVerdictIn replies v = (bytes : List ℕ) (rest : List Reply) → replies ≡ Fetched bytes ∷ rest → IsVerdict bytes v

abbrev pub IsTheVerdictIn : List Reply → Verdict → Type 0
IsTheVerdictIn replies v = (bytes : List ℕ) (rest : List Reply) → replies ≡ Fetched bytes ∷ rest → IsTheVerdict bytes v

-- the texts are read as the specification says that was accepted, if it was
abbrev pub AreReadersOf : Verdict → Readers → Type 0
AreReadersOf v readers = (spec : Spec) → v ≡ Accepted spec → AreReaders spec readers

-- a right reading of the texts that these replies brought
pub record IsRight (replies : List Reply) (r : Reading) : Type 0 where
  pub verdict : IsVerdictIn replies r.verdict
  pub readers : AreReadersOf r.verdict r.readers

-- the same, and no other verdict is right
pub record IsTheReading (replies : List Reply) (r : Reading) : Type 0 where
  pub verdict : IsTheVerdictIn replies r.verdict
  pub readers : AreReadersOf r.verdict r.readers

-- a right reading of the built-in language; the same, and no other verdict is right
pub record IsRightLines (r : Reading) : Type 0 where
  pub verdict : IsVerdict lines_text r.verdict
  pub readers : AreReadersOf r.verdict r.readers

pub record AreTheLines (r : Reading) : Type 0 where
  pub verdict : IsTheVerdict lines_text r.verdict
  pub readers : AreReadersOf r.verdict r.readers

-- a right reading for a job, and the one whose verdict is the only one
abbrev pub IsRightFor : Option Job → List Reply → Reading → Type 0
IsRightFor (Some (Load n)) replies r = IsRightLines r
IsRightFor asked replies r = IsRight replies r

abbrev pub IsTheReadingFor : Option Job → List Reply → Reading → Type 0
IsTheReadingFor (Some (Load n)) replies r = AreTheLines r
IsTheReadingFor asked replies r = IsTheReading replies r
