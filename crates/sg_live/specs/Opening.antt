-- What comes of a specification before a session begins
use Rattle.std.specs.Prelude.{◌≡◌, ◌⊎◌, ◌≤◌, List, ℕ}
use Rattle.sg_kinds.specs.declared.fault.SpecFault.{SpecFault as Fault}
use Rattle.sg_kinds.specs.declared.spec.Spec.{Spec}
use Rattle.sg_outside.specs.Count.{Rose}
use Rattle.sg_faults.specs.FaultLine.{fault_line}
use Rattle.sg_load.specs.Verdict.Verdict.{Refused, Accepted}
use Rattle.sg_load.specs.Only.{IsTheVerdict}
use Rattle.sg_replies.specs.declared.reply.Reply.{Reply}
use Rattle.sg_replies.specs.declared.reply.Reply.TheVariants.{Fetched}
use Rattle.sg_editor.specs.Ask.{Readers, AreReaders}
use Rattle.sg_output.specs.declared.status.Status.{Status}
use Rattle.sg_output.specs.declared.status.Status.TheVariants.{Memory, ReadFault, SpecFault, SinkFault}
use Rattle.sg_output.specs.OutputOf.{read_fault_text}
use Rattle.sg_console.specs.Console.{ConsoleState, noted}
use Rattle.sg_console.specs.Console.Event.{Put}

-- a text ends the run: it was put, or the put failed, and nothing is noted of it
pub record Said (text : List ℕ) (meant : Status) (old : ConsoleState) (status : Status) (new : ConsoleState) : Type 0 where
  pub either : ((status ≡ meant) × (new.history ≡ noted (Put text) old.history))
      ⊎ ((status ≡ SinkFault) × (new.history ≡ old.history) × Rose old.faults new.faults)
  pub left : new.left ≡ old.left
  pub later : old.faults ≤ new.faults

-- memory was wanting, and nothing was read or written
pub record Silent (old : ConsoleState) (status : Status) (new : ConsoleState) : Type 0 where
  pub memory : status ≡ Memory
  pub same : new ≡ old

-- a specification without a fault, of whose texts there are right readings
pub record IsAccepted (bytes : List ℕ) (spec : Spec) : Type 0 where
  pub verdict : IsTheVerdict bytes (Accepted spec)
  pub readers : (r : Readers) × AreReaders spec r

-- there is no session for these bytes: memory was wanting, or they have this fault
abbrev pub IsNone : List ℕ → ConsoleState → Status → ConsoleState → Type 0
IsNone bytes old status new = Silent old status new
    ⊎ ((f : Fault) × IsTheVerdict bytes (Refused f) × Said (fault_line f) SpecFault old status new)

-- there is none for what was fetched
abbrev pub IsNoneOf : Reply → ConsoleState → Status → ConsoleState → Type 0
IsNoneOf (Fetched bytes) old status new = IsNone bytes old status new
IsNoneOf reply old status new = Said read_fault_text ReadFault old status new

-- what was fetched is accepted
abbrev pub Brings : Reply → Spec → Type 0
Brings (Fetched bytes) spec = IsAccepted bytes spec
Brings reply spec = ⊥
