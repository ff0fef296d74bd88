-- A whole run.
use Rattle.std.specs.Prelude.{◌≡◌, ◌⊎◌, ◌≤◌, Bool, true, false, List, [], ◌∷◌, ◌++◌, ⊤, codes}
use Rattle.sg_kinds.specs.Values.{Bytes}
use Rattle.sg_kinds.specs.declared.fault.SpecFault.{SpecFault as Fault}
use Rattle.sg_kinds.specs.declared.spec.Spec.{Spec}
use Rattle.sg_load.specs.Verdict.{Verdict}
use Rattle.sg_load.specs.Verdict.Verdict.{Refused, Accepted}
use Rattle.sg_load.specs.Only.{IsTheVerdict}
use Rattle.sg_outside.specs.Count.{Rose, tallied}
use Rattle.sg_outside.specs.Shelf.{ShelfState}
use Rattle.sg_outside.specs.Sink.{SinkState, CutShort, appended}
use Rattle.sg_replies.specs.declared.reply.Reply.{Reply}
use Rattle.sg_replies.specs.declared.reply.Reply.TheVariants.{Fetched}
use Rattle.sg_replies.specs.Requests.Request.{Fetch}
use Rattle.sg_replies.specs.Calls.{Replied, Unanswered}
use Rattle.sg_explain.specs.declared.ending.Ending.{Ending}
use Rattle.sg_explain.specs.declared.ending.Ending.TheVariants.{Done, Memory, Usage, ReadFault, SpecFault, SinkFault}
use Rattle.sg_explain.specs.declared.explaining.Explanation.{Explanation}
use Rattle.sg_explain.specs.Endings.{IsEnd}
use Rattle.sg_explain.specs.Answers.{IsTold}

-- the words that name a file, and ask for its plan too where it is wanted
abbrev pub words_for : Bytes → Bool → List Bytes
words_for file false = file ∷ []
words_for file true = file ∷ codes "plan" ∷ []

-- the words are no such ones
abbrev pub IsNoFile : List Bytes → Type 0
IsNoFile words = (file : Bytes) (planned : Bool) → words ≡ words_for file planned → ⊥

-- what is told of them
abbrev pub usage_text : Bytes
usage_text = codes "usage: ssled_explain SPEC [plan]" ++ 10 ∷ []

-- where the specification cannot be fetched
abbrev pub read_fault_text : Bytes
read_fault_text = codes "read fault specification" ++ 10 ∷ []

-- a text with which the run is to end so was put, once, and the run ended; a fault of the sink leaves a front of it
pub record IsPut (text : Bytes) (meant : Ending) (old : SinkState) (ending : Ending) (new : SinkState) : Type 0 where
  pub ends : IsEnd ending → ending ≡ meant
  pub written : IsEnd ending → new.written ≡ appended old.written text
  pub memory : ending ≡ Memory → new.written ≡ old.written
  pub fault : ending ≡ SinkFault → CutShort old.written new.written text
  pub rose : ending ≡ SinkFault → Rose old.faults new.faults
  pub later : old.faults ≤ new.faults
  pub puts : new.puts ≡ tallied 1 old.puts

-- memory was wanting, and nothing was put
pub record IsSilent (old : SinkState) (ending : Ending) (new : SinkState) : Type 0 where
  pub memory : ending ≡ Memory
  pub same : new ≡ old

-- what a text tells was put
abbrev pub IsToldOf : Bool → Bytes → Bytes → SinkState → Ending → SinkState → Type 0
IsToldOf planned file bytes old ending new =
    (e : Explanation) × IsTold planned file bytes e × IsPut e.text e.ending old ending new

-- what the reply to the fetch of the file brought is told of, or that it brought nothing
abbrev pub IsAnswered : Bool → Bytes → Reply → SinkState → Ending → SinkState → Type 0
IsAnswered planned file (Fetched bytes) old ending new =
    IsToldOf planned file bytes old ending new ⊎ IsSilent old ending new
IsAnswered planned file reply old ending new = IsPut read_fault_text ReadFault old ending new

-- the file was fetched, to one byte over the limit, by one call of the shelf
pub record IsFetched (planned : Bool) (file : Bytes) (s s' : ShelfState) (old : SinkState) (ending : Ending)
    (new : SinkState) : Type 0 where
  pub reply : Reply
  pub replied : Replied (Fetch file 1048577) reply s s'
  pub answered : IsAnswered planned file reply old ending new

-- or the shelf had no memory
pub record IsUnfetched (s s' : ShelfState) (old : SinkState) (ending : Ending) (new : SinkState) : Type 0 where
  pub unanswered : Unanswered s s'
  pub silent : IsSilent old ending new

abbrev pub IsRun : Bool → Bytes → ShelfState → ShelfState → SinkState → Ending → SinkState → Type 0
IsRun planned file s s' old ending new = IsFetched planned file s s' old ending new ⊎ IsUnfetched s s' old ending new

-- the fetch of the file brought bytes of which this is the verdict, and there is no other
pub record IsJudged (file : Bytes) (s s' : ShelfState) (v : Verdict) : Type 0 where
  pub bytes : Bytes
  pub replied : Replied (Fetch file 1048577) (Fetched bytes) s s'
  pub verdict : IsTheVerdict bytes v

-- why a run of the name of a file ends so
abbrev pub IsCause : Bytes → ShelfState → ShelfState → SinkState → SinkState → Ending → Type 0
IsCause file s s' old new Done = (spec : Spec) × IsJudged file s s' (Accepted spec)
IsCause file s s' old new Memory = ⊤
IsCause file s s' old new Usage = ⊥
IsCause file s s' old new ReadFault = Rose s.faults s'.faults
IsCause file s s' old new SpecFault = (f : Fault) × IsJudged file s s' (Refused f)
IsCause file s s' old new SinkFault = Rose old.faults new.faults
