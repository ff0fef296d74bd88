-- What follows the fetches of the specification and of the script
use Rattle.std.proofs.Common.{◌≡◌, ◌≢◌, ℕ, List, [], ◌∷◌, ◌++◌, Option, Some, None, Result, Ok, Err, IfOk, IfErr, inl, inr, refl, sym, ap, ◌∙◌, subst, arith}
use Rattle.sg_kinds.specs.declared.spec.Spec.{Spec}
use Rattle.sg_kinds.specs.declared.fault.SpecFault.{SpecFault as Fault}
use Rattle.sg_kinds.specs.declared.fault.SpecFault.TheVariants as fault
use Rattle.sg_outside.specs.Shelf.{ShelfState}
use Rattle.sg_replies.specs.Calls.{Served}
use Rattle.sg_replies.specs.declared.reply.Reply.{Reply}
use Rattle.sg_replies.specs.declared.reply.Reply.TheVariants.{Fetched, FetchFailed, Kept, KeepFailed}
use Rattle.sg_replies.proofs.Laws.{served_one}
use Rattle.sg_script.specs.declared.command.Command.{Command}
use Rattle.sg_script.specs.declared.fault.ScriptFault.{ScriptFault as NoScript}
use Rattle.sg_script.specs.Script.{script_of}
use Rattle.sg_load.specs.Verdict.{Verdict, IsVerdict}
use Rattle.sg_load.specs.Verdict.Verdict.{Refused, Accepted}
use Rattle.sg_load.specs.Only.{IsTheVerdict}
use Rattle.sg_editor.specs.Ask.{Readers, AreReaders}
use Rattle.sg_output.specs.declared.status.Status.{Status}
use Rattle.sg_output.specs.declared.status.Status.TheVariants.{Memory, ReadFault, ScriptFault}
use Rattle.sg_output.specs.Job.{Job, job, spec_name}
use Rattle.sg_output.specs.Output.{Output, before, text, asked}
use Rattle.sg_output.specs.OutputOf.{opened, judged, scanned, scripted, read_fault_text, script_missing_text, script_fault_text, whole_file, with_spec, with_script, job_told, output_of}
use Rattle.sg_output.specs.Reading.{Reading, IsVerdictIn, IsTheVerdictIn, AreReadersOf, IsRight, IsTheReading, IsTheReadingFor}
use Rattle.sg_output.specs.Job.Job.{Show, Check, Run, Load, Report}
use Rattle.sg_output.specs.Opening.{IsFetched, IsVerdictOf, IsTheVerdictOf, IsAdmitted, IsOpened, IsScriptOf, IsQuiet, IsKnown, IsKnownOf}
use Rattle.sg_output.specs.Causes.{Unjudged, IsUnjudged, IsReadOf, IsRead}
use Rattle.sg_outside.specs.Sink.{SinkState}
use Rattle.sg_output.specs.World.{World, world}
use Rattle.sg_output.specs.Ran.{Ends}
use Rattle.sg_output.specs.Parts.{Passed, Played, Finished}
use Rattle.sg_output.proofs.Endings.{ends_as, ends_text}
use Rattle.sg_output.proofs.Requests.{passed_fetched, played_after}

-- no reply is taken
pub judged_quiet : (v : Verdict) (next : Spec → Output) → ((spec : Spec) → IsQuiet (next spec)) → IsQuiet (judged v next)
judged_quiet (Refused f) next quiet = record { taken = refl; asked = omega arith }
judged_quiet (Accepted spec) next quiet = quiet spec

pub script_quiet : (next : List Command → List Reply → Output) (name : List ℕ) → IsQuiet (with_script next name [])
script_quiet next name = record { taken = refl; asked = omega arith }

pub scanned_quiet : (r : Result (List Command) NoScript) (next : List Command → Output) → ((commands : List Command) → IsQuiet (next commands)) → IsQuiet (scanned r next)
scanned_quiet (Ok commands) next quiet = quiet commands
scanned_quiet (Err fault) next quiet = record { taken = refl; asked = omega arith }

pub scripted_quiet : (next : List Command → List Reply → Output) (reply : Reply) → ((commands : List Command) → IsQuiet (next commands [])) → IsQuiet (scripted next reply [])
scripted_quiet next (Fetched bytes) quiet = scanned_quiet (script_of bytes) (λ commands. next commands []) quiet
scripted_quiet next FetchFailed quiet = record { taken = refl; asked = omega arith }
scripted_quiet next Kept quiet = record { taken = refl; asked = omega arith }
scripted_quiet next KeepFailed quiet = record { taken = refl; asked = omega arith }

-- the one verdict
pub told_by_verdict : (bytes : List ℕ) (v w : Verdict) (next : Spec → Output) → IsTheVerdict bytes w → IsVerdict bytes v → judged v next ≡ judged w next
told_by_verdict bytes v w next the is = ap (λ (x : Verdict). judged x next) (the.only v is)

missing : (next : Spec → List Reply → Output) (v : Verdict) (reply : Reply) → ((bytes : List ℕ) → reply ≡ Fetched bytes → ⊥) → opened next v reply [] ≡ text ReadFault read_fault_text
missing next v (Fetched bytes) other = absurd (other bytes refl)
missing next v FetchFailed other = refl
missing next v Kept other = refl
missing next v KeepFailed other = refl

-- there is no specification, and its text ends the run
pub ends_missing : (next : Spec → List Reply → Output) (v : Verdict) (reply : Reply) (shelf : ShelfState) (old new : SinkState) (n : ℕ) (ended : Status)
    → ((bytes : List ℕ) → reply ≡ Fetched bytes → ⊥) → Finished ReadFault read_fault_text old ended new
    → Ends (world shelf old n) (opened next v reply []) [] ended (world shelf new n)
ends_missing next v reply shelf old new n ended other put =
    ends_as (world shelf old n) (world shelf new n) (text ReadFault read_fault_text) (opened next v reply []) [] ended (missing next v reply other)
    (ends_text shelf old new n ReadFault ended read_fault_text put)

-- there is one, and the run ends in what follows the verdict on it
pub ends_fetched : (next : Spec → List Reply → Output) (v : Verdict) (reply : Reply) (bytes : List ℕ) (old new : World) (ended : Status) → reply ≡ Fetched bytes
    → Ends old (judged v (λ spec. next spec [])) [] ended new → Ends old (opened next v reply []) [] ended new
ends_fetched next v reply bytes old new ended is end =
    ends_as old new (judged v (λ spec. next spec [])) (opened next v reply []) [] ended (ap (λ (r : Reply). opened next v r []) is) end

-- the verdict on what was fetched, or on nothing
the_verdict_of : (reply : Reply) (bytes : List ℕ) (v : Verdict) → reply ≡ Fetched bytes → IsTheVerdict bytes v → IsTheVerdictOf reply v
the_verdict_of reply bytes v is the other there = let same : bytes ≡ other = cc in subst (λ (b : List ℕ). IsTheVerdict b v) same the

-- what is known of the bytes is known of the reply that brought them
pub known_fetched : (reply : Reply) (bytes : List ℕ) (status : Status) (old new : SinkState) → reply ≡ Fetched bytes → IsKnown bytes status old new → IsKnownOf reply status old new
known_fetched reply bytes status old new is (inl k) = inl (k.0, the_verdict_of reply bytes (Refused k.0) is k.1)
known_fetched reply bytes status old new is (inr q) = inr (bytes, is, q)

-- where there is no specification, any verdict is right
pub known_missing : (reply : Reply) (status : Status) (old new : SinkState) → ((bytes : List ℕ) → reply ≡ Fetched bytes → ⊥) → IsKnownOf reply status old new
known_missing reply status old new other = inl (fault.TooLong, λ bytes there. absurd (other bytes there))

-- there is no script; it is not in its form; it has these commands
pub script_missing : (next : List Command → List Reply → Output) (reply : Reply) → ((bytes : List ℕ) → reply ≡ Fetched bytes → ⊥) → (more : List Reply)
    → scripted next reply more ≡ text ReadFault script_missing_text
script_missing next (Fetched bytes) other more = absurd (other bytes refl)
script_missing next FetchFailed other more = refl
script_missing next Kept other more = refl
script_missing next KeepFailed other more = refl

pub script_refused : (next : List Command → List Reply → Output) (reply : Reply) (bytes : List ℕ) (f : NoScript) → reply ≡ Fetched bytes → script_of bytes ≡ Err f → (more : List Reply)
    → scripted next reply more ≡ text ScriptFault (script_fault_text f)
script_refused next reply bytes f e is more =
    ap (λ (r : Reply). scripted next r more) e ∙ ap (λ (o : Result (List Command) NoScript). scanned o (λ commands. next commands more)) is

pub script_read : (next : List Command → List Reply → Output) (reply : Reply) (bytes : List ℕ) (commands : List Command) → reply ≡ Fetched bytes → script_of bytes ≡ Ok commands → (more : List Reply)
    → scripted next reply more ≡ next commands more
script_read next reply bytes commands e is more =
    ap (λ (r : Reply). scripted next r more) e ∙ ap (λ (o : Result (List Command) NoScript). scanned o (λ cs. next cs more)) is

-- the run goes on as another function that tells the same
pub passed_into : (f g h : List Reply → Output) (rb ra : List Reply) (old new : World) → ((more : List Reply) → g more ≡ h more) → Passed f g rb ra old new → Passed f h rb ra old new
passed_into f g h rb ra old new same p = record {
  got = p.got;
  so_far = p.so_far;
  replies = p.replies;
  goes = p.goes;
  law = λ more. p.law more ∙ ap (λ (t : Output). before p.so_far t) (same more);
  none_past = p.none_past;
}

-- the commands of the script that was fetched
pub opening_ok : (next : List Command → List Reply → Output) (name : List ℕ) (rb ra : List Reply) (shelf shelf' : ShelfState) (old new : SinkState) (n : ℕ) (commands : List Command)
    (f : IsFetched (whole_file name) rb ra shelf shelf') → (bytes : List ℕ) → f.reply ≡ Fetched bytes → script_of bytes ≡ Ok commands → new ≡ old
    → Passed (with_script next name) (next commands) rb ra (world shelf old n) (world shelf' new n)
opening_ok next name rb ra shelf shelf' old new n commands f bytes e is same =
    passed_into (with_script next name) (scripted next f.reply) (next commands) rb ra (world shelf old n) (world shelf' new n) (script_read next f.reply bytes commands e is)
    (passed_fetched (whole_file name) (scripted next) rb ra shelf shelf' old new n f same)

-- the readers of a specification with a fault, of which none is asked
pub no_readers : (f : Fault) (readers : Readers) → AreReadersOf (Refused f) readers
no_readers f readers spec is = absurd (cc)

-- the one verdict among the replies
the_verdict_in : (replies more : List Reply) (reply : Reply) (v : Verdict) → replies ≡ reply ∷ more → IsTheVerdictOf reply v → IsTheVerdictIn replies v
the_verdict_in replies more reply v e the bytes rest is = let same : reply ≡ Fetched bytes = cc in the bytes same

-- the verdict on the one reply
pub verdict_of : (replies : List Reply) (reply : Reply) (v : Verdict) → replies ≡ reply ∷ [] → IsVerdictIn replies v → IsVerdictOf reply v
verdict_of replies reply v alone right bytes is = right bytes [] (alone ∙ ap (λ (r : Reply). r ∷ []) is)

-- what is known of the one reply to the fetch of the specification, where the run ended by it
pub read_of : (name : List ℕ) (rb ra : List Reply) (shelf shelf' : ShelfState) (old new : SinkState) (n : ℕ) (status : Status) (readers : Readers) → rb ≡ []
    → (f : IsFetched (whole_file name) rb ra shelf shelf') → IsKnownOf f.reply status old new → IsReadOf name (world shelf old n) ra status (world shelf' new n)
read_of name rb ra shelf shelf' old new n status readers none f (inl k) =
    let alone : ra ≡ f.reply ∷ [] = f.last ∙ ap (λ (rs : List Reply). rs ++ f.reply ∷ []) none in
    inl (
      record { verdict = Refused k.0; readers = readers },
      record {
        verdict = the_verdict_in ra [] f.reply (Refused k.0) alone k.1;
        readers = no_readers k.0 readers;
      },
    )
read_of name rb ra shelf shelf' old new n status readers none f (inr q) =
    let alone : ra ≡ f.reply ∷ [] = f.last ∙ ap (λ (rs : List Reply). rs ++ f.reply ∷ []) none in
    inr (record {
      memory = q.2.memory;
      bytes = q.0;
      fetched = alone ∙ ap (λ (r : Reply). r ∷ []) q.1;
      served = subst (λ (rs : List Reply). Served shelf (whole_file name ∷ []) rs shelf') (sym alone) (served_one (whole_file name) f.reply shelf shelf' f.replied);
      sink = q.2.sink;
      counted = refl;
    })

-- where nothing was fetched, any reading is right
pub the_reading_of_nothing : (replies : List Reply) (readers : Readers) → replies ≡ [] → IsTheReading replies (record { verdict = Refused fault.TooLong; readers = readers })
the_reading_of_nothing replies readers none = record {
  verdict = λ bytes rest is. absurd (cc);
  readers = no_readers fault.TooLong readers;
}

-- the specification is accepted, and the run ends in what follows: there is a reading
pub read_admitted : (name : List ℕ) (rb rm ra : List Reply) (shelf shelf' : ShelfState) (spec : Spec) (g : List Reply → Output) (old between new : World) (status : Status) → rb ≡ []
    → (f : IsFetched (whole_file name) rb rm shelf shelf') → (a : IsAdmitted f.reply spec) → Played g rm ra status between new → IsReadOf name old ra status new
read_admitted name rb rm ra shelf shelf' spec g old between new status none f a p =
    let all : ra ≡ f.reply ∷ p.got = p.replies ∙ ap (λ (rs : List Reply). rs ++ p.got) (f.last ∙ ap (λ (rs : List Reply). rs ++ f.reply ∷ []) none) in
    inl (
      record { verdict = Accepted spec; readers = a.readers },
      record {
        verdict = the_verdict_in ra p.got f.reply (Accepted spec) all (the_verdict_of f.reply a.bytes (Accepted spec) a.brought a.verdict);
        readers = λ other is. let same : spec ≡ other = cc in subst (λ (s : Spec). AreReaders s a.readers) same a.read;
      },
    )

-- and each right reading is of it
pub reads_admitted : (name : List ℕ) (rb rm ra : List Reply) (shelf shelf' : ShelfState) (spec : Spec) (g : List Reply → Output) (between new : World) (status : Status) (r : Reading) → rb ≡ []
    → (f : IsFetched (whole_file name) rb rm shelf shelf') → (a : IsAdmitted f.reply spec) → Played g rm ra status between new → IsRight ra r → r.verdict ≡ Accepted spec
reads_admitted name rb rm ra shelf shelf' spec g between new status r none f a p right =
    let all : ra ≡ f.reply ∷ p.got = p.replies ∙ ap (λ (rs : List Reply). rs ++ p.got) (f.last ∙ ap (λ (rs : List Reply). rs ++ f.reply ∷ []) none) in
    a.verdict.only r.verdict (right.verdict a.bytes p.got (all ∙ ap (λ (x : Reply). x ∷ p.got) a.brought))

-- the run went on past the fetch, and ends in what follows
pub played_admitted : (name : List ℕ) (rb rm ra : List Reply) (shelf shelf' : ShelfState) (sink sink' : SinkState) (n : ℕ) (spec : Spec) (follow : Readers → Spec → List Reply → Output) (new : World) (status : Status)
    → rb ≡ [] → (f : IsFetched (whole_file name) rb rm shelf shelf') → (a : IsAdmitted f.reply spec) → sink' ≡ sink
    → ((readers : Readers) → AreReaders spec readers → Played (follow readers spec) rm ra status (world shelf' sink' n) new)
    → (r : Reading) → IsRight ra r → Played (with_spec (follow r.readers) name r.verdict) rb ra status (world shelf sink n) new
played_admitted name rb rm ra shelf shelf' sink sink' n spec follow new status none f a same p r right =
    let accepted : r.verdict ≡ Accepted spec = reads_admitted name rb rm ra shelf shelf' spec (follow a.readers spec) (world shelf' sink' n) new status r none f a (p a.readers a.read) right in
    let is : (more : List Reply) → opened (follow r.readers) r.verdict f.reply more ≡ follow r.readers spec more = λ more.
    ap (λ (v : Verdict). opened (follow r.readers) v f.reply more) accepted
    ∙ ap (λ (x : Reply). opened (follow r.readers) (Accepted spec) x more) a.brought in
    let passed : Passed (with_spec (follow r.readers) name r.verdict) (follow r.readers spec) rb rm (world shelf sink n) (world shelf' sink' n) =
    passed_into (with_spec (follow r.readers) name r.verdict) (opened (follow r.readers) r.verdict f.reply) (follow r.readers spec) rb rm (world shelf sink n) (world shelf' sink' n) is
    (passed_fetched (whole_file name) (opened (follow r.readers) r.verdict) rb rm shelf shelf' sink sink' n f same) in
    played_after (with_spec (follow r.readers) name r.verdict) (follow r.readers spec) rb rm ra (world shelf sink n) (world shelf' sink' n) new status passed (p r.readers (right.readers spec accepted))

-- a job whose specification is fetched
abbrev pub Fetches : Job → Type 0
Fetches (Load n) = ⊥
Fetches job = Unit {0}

fetched_reading : (job : Job) (replies : List Reply) (r : Reading) → Fetches job → IsTheReading replies r → IsTheReadingFor (Some job) replies r
fetched_reading (Load n) replies r fetches the = absurd fetches
fetched_reading (Show name) replies r is the = the
fetched_reading (Check name) replies r is the = the
fetched_reading (Run name script w h) replies r is the = the
fetched_reading (Report name file word) replies r is the = the

fetched_unjudged : (job : Job) (old : World) (replies : List Reply) (status : Status) (new : World) → Fetches job → Unjudged (spec_name job) old replies status new → IsUnjudged job old replies status new
fetched_unjudged (Load n) old replies status new fetches u = absurd fetches
fetched_unjudged (Show name) old replies status new is u = u
fetched_unjudged (Check name) old replies status new is u = u
fetched_unjudged (Run name script w h) old replies status new is u = u
fetched_unjudged (Report name file word) old replies status new is u = u

pub read_job : (asked : Option Job) (job : Job) (name : List ℕ) (old new : World) (replies : List Reply) (status : Status) → Fetches job → asked ≡ Some job → spec_name job ≡ name
    → IsReadOf name old replies status new → IsRead asked old replies status new
read_job asked job name old new replies status fetches e is (inl k) =
    inl (k.0, subst (λ (j : Option Job). IsTheReadingFor j replies k.0) (sym e) (fetched_reading job replies k.0 fetches k.1))
read_job asked job name old new replies status fetches e is (inr u) =
    inr (job, e, fetched_unjudged job old replies status new fetches (subst (λ (x : List ℕ). Unjudged x old replies status new) (sym is) u))

-- the same, with the status that it ended with; with the words of the job
pub read_with : (asked : Option Job) (old new : World) (replies : List Reply) (status other : Status) → IsRead asked old replies status new → other ≡ status → IsRead asked old replies other new
read_with asked old new replies status other k e = subst (λ (s : Status). IsRead asked old replies s new) (sym e) k

pub told_by : (j : Option Job) (r : Reading) (words : List (List ℕ)) (rb ra : List Reply) (status : Status) (old new : World) → j ≡ job words → Played (job_told j r) rb ra status old new
    → Played (output_of words r) rb ra status old new
told_by j r words rb ra status old new e p = subst (λ (x : Option Job). Played (job_told x r) rb ra status old new) e p

-- where memory was not wanting, there is a reading
pub reading_of : (asked : Option Job) (old new : World) (replies : List Reply) (status : Status) → IsRead asked old replies status new → status ≢ Memory → (r : Reading) × IsTheReadingFor asked replies r
reading_of asked old new replies status (inl k) other = k
reading_of asked old new replies status (inr q) other = absurd (other (unjudged_memory q.0 old replies status new q.2))
  where
    unjudged_memory : (job : Job) (old : World) (replies : List Reply) (status : Status) (new : World) → IsUnjudged job old replies status new → status ≡ Memory
    unjudged_memory (Load n) old replies status new u = u.memory
    unjudged_memory (Show name) old replies status new u = u.memory
    unjudged_memory (Check name) old replies status new u = u.memory
    unjudged_memory (Run name script w h) old replies status new u = u.memory
    unjudged_memory (Report name file word) old replies status new u = u.memory

-- the only reading is right
pub the_reading_is_right : (replies : List Reply) (r : Reading) → IsTheReading replies r → IsRight replies r
the_reading_is_right replies r the = record { verdict = λ bytes rest is. (the.verdict bytes rest is).is; readers = the.readers }

-- what follows an accepted specification, as what it was opened by tells
pub read_opened : (name : List ℕ) (spec : Spec) (rm ra : List Reply) (shelf shelf' : ShelfState) (g : Readers → List Reply → Output) (old between new : World) (status : Status)
    → (o : IsOpened name spec rm shelf shelf') → ((readers : Readers) → AreReaders spec readers → Played (g readers) rm ra status between new) → IsReadOf name old ra status new
read_opened name spec rm ra shelf shelf' g old between new status o p =
    read_admitted name [] rm ra shelf shelf' spec (g o.admitted.readers) old between new status refl o.fetched o.admitted (p o.admitted.readers o.admitted.read)

pub played_opened : (name : List ℕ) (spec : Spec) (rm ra : List Reply) (shelf shelf' : ShelfState) (sink sink' : SinkState) (n : ℕ) (follow : Readers → Spec → List Reply → Output) (new : World) (status : Status)
    → (o : IsOpened name spec rm shelf shelf') → sink' ≡ sink
    → ((readers : Readers) → AreReaders spec readers → Played (follow readers spec) rm ra status (world shelf' sink' n) new)
    → (r : Reading) → IsRight ra r → Played (with_spec (follow r.readers) name r.verdict) [] ra status (world shelf sink n) new
played_opened name spec rm ra shelf shelf' sink sink' n follow new status o same p r right =
    played_admitted name [] rm ra shelf shelf' sink sink' n spec follow new status refl o.fetched o.admitted same p r right

-- the same of what a part of the run answered
pub admitted_by : {T : Type 0} (spec : T → Spec) (reply : Reply) (bytes : List ℕ) (r : Result T Status) → reply ≡ Fetched bytes → IfOk r (λ x. IsTheVerdict bytes (Accepted (spec x)))
    → IfOk r (λ x. (readers : Readers) × AreReaders (spec x) readers) → IfOk r (λ x. IsAdmitted reply (spec x))
admitted_by spec reply bytes (Ok x) is the read = record { bytes = bytes; brought = is; verdict = the; readers = read.0; read = read.1 }
admitted_by spec reply bytes (Err s) is the read = tt

pub fetched_known : {T : Type 0} (reply : Reply) (bytes : List ℕ) (old new : SinkState) (r : Result T Status) → reply ≡ Fetched bytes → IfErr r (λ status. IsKnown bytes status old new)
    → IfErr r (λ status. IsKnownOf reply status old new)
fetched_known reply bytes old new (Ok x) is known = tt
fetched_known reply bytes old new (Err s) is known = known_fetched reply bytes s old new is known

pub fetched_ended : {T : Type 0} (reply : Reply) (bytes : List ℕ) (old new : SinkState) (r : Result T Status) → reply ≡ Fetched bytes
    → IfErr r (λ status. (v : Verdict) → IsVerdict bytes v → (next : Spec → Output) → ((spec : Spec) → IsQuiet (next spec)) → (at : ShelfState) (n : ℕ) → Ends (world at old n) (judged v next) [] status (world at new n))
    → IfErr r (λ status. (v : Verdict) → IsVerdictOf reply v → (next : Spec → List Reply → Output) → ((spec : Spec) → IsQuiet (next spec [])) → (at : ShelfState) (n : ℕ)
    → Ends (world at old n) (opened next v reply []) [] status (world at new n))
fetched_ended reply bytes old new (Ok x) is ended = tt
fetched_ended reply bytes old new (Err s) is ended = λ v right next quiet at n.
    ends_fetched next v reply bytes (world at old n) (world at new n) s is (ended v (right bytes is) (λ spec. next spec []) quiet at n)

pub scanned_err : (bytes : List ℕ) (f : NoScript) (next : List Command → Output) → script_of bytes ≡ Err f → scanned (script_of bytes) next ≡ text ScriptFault (script_fault_text f)
scanned_err bytes f next is = ap (λ (o : Result (List Command) NoScript). scanned o next) is

pub script_by : {T : Type 0} (commands : T → List Command) (reply : Reply) (bytes : List ℕ) (r : Result T Status) → reply ≡ Fetched bytes → IfOk r (λ x. script_of bytes ≡ Ok (commands x)) → IfOk r (λ x. IsScriptOf reply (commands x))
script_by commands reply bytes (Ok x) is read = record { bytes = bytes; brought = is; spelled = read }
script_by commands reply bytes (Err s) is read = tt

pub script_ended : {T : Type 0} (reply : Reply) (bytes : List ℕ) (old new : SinkState) (r : Result T Status) → reply ≡ Fetched bytes
    → IfErr r (λ status. (next : List Command → Output) → ((commands : List Command) → IsQuiet (next commands)) → (at : ShelfState) (n : ℕ) → Ends (world at old n) (scanned (script_of bytes) next) [] status (world at new n))
    → IfErr r (λ status. (next : List Command → List Reply → Output) → ((commands : List Command) → IsQuiet (next commands [])) → (at : ShelfState) (n : ℕ) → Ends (world at old n) (scripted next reply []) [] status (world at new n))
script_ended reply bytes old new (Ok x) is ended = tt
script_ended reply bytes old new (Err s) is ended = λ next quiet at n.
    ends_as (world at old n) (world at new n) (scanned (script_of bytes) (λ cs. next cs [])) (scripted next reply []) [] s (ap (λ (r : Reply). scripted next r []) is) (ended (λ cs. next cs []) quiet at n)

-- nothing was fetched
pub read_nothing : (name : List ℕ) (old new : World) (replies : List Reply) (status : Status) (readers : Readers) → replies ≡ [] → IsReadOf name old replies status new
read_nothing name old new replies status readers none = inl (record { verdict = Refused fault.TooLong; readers = readers }, the_reading_of_nothing replies readers none)

pub read_none : (asked : Option Job) (old new : World) (replies : List Reply) (status : Status) (readers : Readers) → None ≡ asked → replies ≡ [] → IsRead asked old replies status new
read_none asked old new replies status readers is none =
    let r : Reading = record { verdict = Refused fault.TooLong; readers = readers } in
    inl (r, subst (λ (j : Option Job). IsTheReadingFor j replies r) is (the_reading_of_nothing replies readers none))

-- the same, with the status that it ended with
pub read_as : (name : List ℕ) (old new : World) (replies : List Reply) (status other : Status) → other ≡ status → IsReadOf name old replies status new → IsReadOf name old replies other new
read_as name old new replies status other e k = subst (λ (s : Status). IsReadOf name old replies s new) (sym e) k
