-- A whole run
use Rattle.std.specs.Prelude.{◌≡◌, ◌⊎◌, ◌≤◌, ℕ, ◌-◌, ◌^◌, List, Option, Some, None, length}
use Rattle.sg_kinds.specs.declared.fault.SpecFault.{SpecFault as Fault}
use Rattle.sg_kinds.specs.declared.spec.Spec.{Spec}
use Rattle.sg_load.specs.Verdict.Verdict.{Refused}
use Rattle.sg_load.specs.Only.{IsTheVerdict}
use Rattle.sg_replies.specs.declared.reply.Reply.{Reply}
use Rattle.sg_replies.specs.declared.reply.Reply.TheVariants.{Fetched}
use Rattle.sg_outside.specs.Shelf.{ShelfState}
use Rattle.sg_replies.specs.Calls.{Replied}
use Rattle.sg_editor.specs.Ask.{Readers, AreReaders}
use Rattle.sg_editor.specs.Session.{start}
use Rattle.sg_editor.specs.Steps.{IsUnanswered}
use Rattle.sg_output.specs.declared.status.Status.{Status}
use Rattle.sg_output.specs.declared.status.Status.TheVariants.{Done, Memory, Usage, ReadFault, SpecFault, SinkFault}
use Rattle.sg_output.specs.Causes.{HasNoFault}
use Rattle.sg_output.specs.OutputOf.{whole_file}
use Rattle.sg_output.specs.Session.{desk}
use Rattle.sg_console.specs.Console.{Event}
use Rattle.sg_live.specs.Outside.{Outside, outside, all_noted}
use Rattle.sg_live.specs.Texts.{usage_text}
use Rattle.sg_live.specs.Turns.{Talked}
use Rattle.sg_live.specs.Words.{Job, job}
use Rattle.sg_live.specs.Opening.{Said, Silent, IsNoneOf, Brings}

-- a session over a specification, for each right reading of its texts; or memory was wanting before it began
abbrev pub IsSession : Job → Spec → Outside → Status → Outside → Type 0
IsSession j spec old status new = ((new.shelf ≡ old.shelf) × (new.counted ≡ old.counted) × Silent old.console status new.console)
    ⊎ ((r : Readers) → AreReaders spec r → Talked (desk spec j.width j.height r) start old status new)

-- a run of a job: the specification is fetched, by the first call of the shelf, unless memory was wanting; there is no
-- session for what came, or there is one
pub data IsRunOf (j : Job) (old : Outside) (status : Status) (new : Outside) : Type 0 where
  unfetched : IsUnanswered old.shelf new.shelf → new.counted ≡ old.counted → Silent old.console status new.console
      → IsRunOf j old status new
  unopened : (reply : Reply) → Replied (whole_file j.spec) reply old.shelf new.shelf → new.counted ≡ old.counted
      → IsNoneOf reply old.console status new.console → IsRunOf j old status new
  opened : (reply : Reply) (shelf : ShelfState) (spec : Spec) → Replied (whole_file j.spec) reply old.shelf shelf
      → Brings reply spec → IsSession j spec (outside shelf old.console old.counted) status new
      → IsRunOf j old status new

-- the words are no job, and nothing is fetched
pub record IsUsage (old : Outside) (status : Status) (new : Outside) : Type 0 where
  pub shelf : new.shelf ≡ old.shelf
  pub counted : new.counted ≡ old.counted
  pub said : Said usage_text Usage old.console status new.console

-- a run of what the words ask for
abbrev pub IsRunOfWords : Option Job → Outside → Status → Outside → Type 0
IsRunOfWords None old status new = IsUsage old status new
IsRunOfWords (Some j) old status new = IsRunOf j old status new

abbrev pub Lived : List (List ℕ) → Outside → Status → Outside → Type 0
Lived words = IsRunOfWords (job words)

-- a specification was fetched first that has a fault; none can be
abbrev pub IsSpecRefused : Option Job → Outside → Type 0
IsSpecRefused None old = ⊥
IsSpecRefused (Some j) old =
    (bytes : List ℕ) × (shelf : ShelfState) × Replied (whole_file j.spec) (Fetched bytes) old.shelf shelf
    × ((f : Fault) × IsTheVerdict bytes (Refused f))

abbrev pub IsSpecAccepted : Option Job → Outside → Type 0
IsSpecAccepted None old = ⊥
IsSpecAccepted (Some j) old =
    (bytes : List ℕ) (shelf : ShelfState) → Replied (whole_file j.spec) (Fetched bytes) old.shelf shelf → HasNoFault bytes

-- nothing was read or written; or so much was that no more is counted
abbrev pub HasNotBegunOrWornOut : Outside → Outside → Type 0
HasNotBegunOrWornOut old new = (new.console ≡ old.console) ⊎ ((events : List Event) × (2 ^ 64 - 1 ≤ length events)
    × (new.console.history ≡ all_noted events old.console.history))

-- how a run may end
abbrev pub IsLiveStatus : Status → Type 0
IsLiveStatus status = (status ≡ Done) ⊎ (status ≡ Memory) ⊎ (status ≡ Usage) ⊎ (status ≡ ReadFault) ⊎ (status ≡ SpecFault)
    ⊎ (status ≡ SinkFault)
