-- What is known once the specification was fetched
use Rattle.std.specs.Prelude.{◌≡◌, ◌⊎◌, ◌≤◌, List, [], ◌∷◌, ◌++◌, length, ℕ, Ok}
use Rattle.sg_kinds.specs.declared.fault.SpecFault.{SpecFault}
use Rattle.sg_kinds.specs.declared.spec.Spec.{Spec}
use Rattle.sg_replies.specs.declared.reply.Reply.{Reply}
use Rattle.sg_replies.specs.declared.reply.Reply.TheVariants.{Fetched}
use Rattle.sg_replies.specs.Requests.{Request}
use Rattle.sg_outside.specs.Shelf.{ShelfState}
use Rattle.sg_replies.specs.Calls.{Replied}
use Rattle.sg_script.specs.declared.command.Command.{Command}
use Rattle.sg_script.specs.Script.{script_of}
use Rattle.sg_load.specs.Verdict.{Verdict, IsVerdict}
use Rattle.sg_load.specs.Verdict.Verdict.{Refused, Accepted}
use Rattle.sg_load.specs.Only.{IsTheVerdict}
use Rattle.sg_editor.specs.Ask.{Readers, AreReaders}
use Rattle.sg_output.specs.declared.status.Status.{Status}
use Rattle.sg_output.specs.declared.status.Status.TheVariants.{Memory}
use Rattle.sg_output.specs.OutputOf.{whole_file}
use Rattle.sg_output.specs.Output.{Output}
use Rattle.sg_outside.specs.Sink.{SinkState}

-- a file was fetched by this request, and one reply came to those before
pub record IsFetched (q : Request) (before after : List Reply) (old new : ShelfState) : Type 0 where
  pub reply : Reply
  pub last : after ≡ before ++ reply ∷ []
  pub replied : Replied q reply old new

-- the verdict is that on what the reply brought, if it brought bytes; there is no other
abbrev pub IsVerdictOf : Reply → Verdict → Type 0
IsVerdictOf reply v = (bytes : List ℕ) → reply ≡ Fetched bytes → IsVerdict bytes v

abbrev pub IsTheVerdictOf : Reply → Verdict → Type 0
IsTheVerdictOf reply v = (bytes : List ℕ) → reply ≡ Fetched bytes → IsTheVerdict bytes v

-- the reply brought a specification without a fault, whose texts can be read
pub record IsAdmitted (reply : Reply) (spec : Spec) : Type 0 where
  pub bytes : List ℕ
  pub brought : reply ≡ Fetched bytes
  pub verdict : IsTheVerdict bytes (Accepted spec)
  pub readers : Readers
  pub read : AreReaders spec readers

-- the specification of that name was fetched first, and has no fault
pub record IsOpened (name : List ℕ) (spec : Spec) (replies : List Reply) (old new : ShelfState) : Type 0 where
  pub fetched : IsFetched (whole_file name) [] replies old new
  pub admitted : IsAdmitted fetched.reply spec

-- the reply brought the script of these commands
pub record IsScriptOf (reply : Reply) (commands : List Command) : Type 0 where
  pub bytes : List ℕ
  pub brought : reply ≡ Fetched bytes
  pub spelled : script_of bytes ≡ Ok commands

-- no reply is taken, and at most one is asked for
pub record IsQuiet (t : Output) : Type 0 where
  pub taken : t.taken ≡ 0
  pub asked : length t.requests ≤ 1

-- memory was wanting, and nothing was written
pub record Silent (status : Status) (old new : SinkState) : Type 0 where
  pub memory : status ≡ Memory
  pub sink : new ≡ old

-- these bytes have a fault, or memory was wanting before there was a verdict
abbrev pub IsKnown : List ℕ → Status → SinkState → SinkState → Type 0
IsKnown bytes status old new = ((f : SpecFault) × IsTheVerdict bytes (Refused f)) ⊎ Silent status old new

-- the same of what the reply brought
abbrev pub IsKnownOf : Reply → Status → SinkState → SinkState → Type 0
IsKnownOf reply status old new = ((f : SpecFault) × IsTheVerdictOf reply (Refused f))
    ⊎ ((bytes : List ℕ) × (reply ≡ Fetched bytes) × Silent status old new)
