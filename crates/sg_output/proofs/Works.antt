-- How the job of a workload ends
use Rattle.std.proofs.Common.{◌≡◌, ◌⊎◌, inl, inr, ◌≤◌, ℕ, ◌+◌, List, [], take, sum, Option, Some, refl, sym, ap, subst, arith}
use Rattle.sg_kinds.specs.declared.spec.Spec.{Spec}
use Rattle.sg_kinds.specs.declared.fault.SpecFault.{SpecFault as Fault}
use Rattle.sg_load.specs.Only.{IsTheVerdict}
use Rattle.sg_load.specs.Verdict.{Verdict, IsVerdict}
use Rattle.sg_load.specs.Verdict.Verdict.{Refused, Accepted}
use Rattle.sg_outside.proofs.Tally.{answered_by-zero}
use Rattle.sg_outside.specs.Shelf.{ShelfState}
use Rattle.sg_replies.proofs.Laws.{none_or_one_more}
use Rattle.sg_workload.specs.Lines.{lines_text}
use Rattle.sg_editor.specs.Ask.{Readers, AreReaders}
use Rattle.sg_workload.specs.Loads.{worked, work, work_line}
use Rattle.sg_workload.specs.Performed.{AreCut, IsLinesAccepted}
use Rattle.sg_output.specs.declared.status.Status.{Status}
use Rattle.sg_output.specs.declared.status.Status.TheVariants.{Done, Memory}
use Rattle.sg_output.specs.Opening.{IsQuiet}
use Rattle.sg_output.specs.Judged.{judged, fault_told}
use Rattle.sg_replies.specs.declared.reply.Reply.{Reply}
use Rattle.sg_output.specs.Job.{Job}
use Rattle.sg_output.specs.Job.Job.{Load}
use Rattle.sg_output.specs.Causes.{IsRead}
use Rattle.sg_output.specs.Reading.{Reading, AreReadersOf, IsRightLines, AreTheLines, IsRightFor, IsTheReadingFor}
use Rattle.sg_output.specs.Work.{told_once, work_told, AreKnownLines}
use Rattle.sg_outside.specs.Sink.{SinkState}
use Rattle.sg_output.specs.World.{world}
use Rattle.sg_output.specs.Ran.{Ends}
use Rattle.sg_output.specs.Parts.{Finished}
use Rattle.sg_output.proofs.Blank.{blank_readers}
use Rattle.sg_output.proofs.Endings.{one_block, refused_whole, first_front, ends_memory, ends_as, finished_as}
use Rattle.sg_output.proofs.Opened.{judged_quiet, no_readers, told_by_verdict}

-- the one block was put, and the journal rose by its number
pub ends_once : (shelf : ShelfState) (old new : SinkState) (n m ev : ℕ) (ended : Status) (block : List ℕ) → Finished Done block old ended new → m ≡ n + ev
    → Ends (world shelf old n) (told_once block ev) [] ended (world shelf new m)
ends_once shelf old new n m ev ended block put counts = record {
  output = λ is. one_block old.written new.written block (put.output is);
  puts = λ _. put.puts;
  evaluated = λ _. omega (arith, counts);
  finished = λ is. ap (λ (s : Status). Some s) (sym (put.status_is is));
  cut = λ _. record {
    k = 0;
    within = omega arith;
    memory = λ is. refused_whole old new block [] (put.memory is) put.puts;
    fault = λ is. first_front old new block [] (put.fault is) put.puts;
    least = omega (arith, counts);
    most = omega (arith, counts);
  };
  taken = refl;
  served = none_or_one_more [] shelf (omega arith);
  calls = λ _. sym (answered_by-zero shelf.calls);
  sink_later = put.later;
  sink_fault = put.rose;
}

-- the job takes no reply, and asks for none
pub work_quiet : (n : ℕ) (r : Readers) (spec : Spec) → IsQuiet (told_once (work_line spec r n) (work spec r n))
work_quiet n r spec = record { taken = refl; asked = omega arith }

-- the accepted record is the one of each right reading
pub lines_told : (n : ℕ) (a : IsLinesAccepted) (r : Reading) → IsRightLines r → work_told n r ≡ told_once (work_line a.spec r.readers n) (work a.spec r.readers n)
lines_told n a r right =
    ap (λ (v : Verdict). judged v (λ spec. told_once (work_line spec r.readers n) (work spec r.readers n))) (a.verdict.only r.verdict right.verdict)

pub lines_read : (a : IsLinesAccepted) (r : Reading) → IsRightLines r → AreReaders a.spec r.readers
lines_read a r right = right.readers a.spec (a.verdict.only r.verdict right.verdict)

pub the_lines : IsLinesAccepted → (r : Reading) × AreTheLines r
the_lines a = (record { verdict = Accepted a.spec; readers = a.readers }, record { verdict = a.verdict; readers = λ spec is. subst (λ s. AreReaders s a.readers) (same spec is) a.read })
  where
    same : (spec : Spec) → Accepted a.spec ≡ Accepted spec → a.spec ≡ spec
    same spec is = ap (λ (v : Verdict). elim v [ Refused f ↦ a.spec | Accepted s ↦ s ]) is

-- what is known of the built-in language where its workload was not told: it is accepted, or nothing was evaluated
abbrev pub IsLinesKnown : (before now : ℕ) → Type 0
IsLinesKnown before now = IsLinesAccepted ⊎ (now ≡ before)

-- no more was evaluated than the workload evaluates
abbrev pub AreWithin : (n before now : ℕ) → Type 0
AreWithin n before now = (spec : Spec) (r : Readers) → IsVerdict lines_text (Accepted spec) → AreReaders spec r → AreCut (worked spec r n) before now

later : (n before now : ℕ) → IsLinesKnown before now → AreWithin n before now → before ≤ now
later n before now (inl a) cut = (cut a.spec a.readers a.verdict.is a.read).least
later n before now (inr same) cut = omega (arith, same)

rose : (n before now : ℕ) (v : Verdict) (r : Readers) → IsVerdict lines_text v → AreReadersOf v r → IsLinesKnown before now → AreWithin n before now
    → now ≤ before + sum (take 1 (judged v (λ spec. told_once (work_line spec r n) (work spec r n))).evs)
rose n before now (Accepted spec) r is read known cut = let m = (cut spec r is (read spec refl)).most in omega (arith, m)
rose n before now (Refused f) r is read (inl a) cut = let no = a.verdict.only (Refused f) is in absurd (cc)
rose n before now (Refused f) r is read (inr same) cut = omega (arith, same)

-- memory was wanting in its midst
pub ends_cut : (shelf : ShelfState) (sink : SinkState) (n before now : ℕ) (r : Reading) → IsRightLines r → IsLinesKnown before now → AreWithin n before now
    → Ends (world shelf sink before) (work_told n r) [] Memory (world shelf sink now)
ends_cut shelf sink n before now r right known cut =
    let quiet : IsQuiet (work_told n r) = judged_quiet r.verdict (λ spec. told_once (work_line spec r.readers n) (work spec r.readers n)) (work_quiet n r.readers) in
    ends_memory shelf shelf sink before now (work_told n r) [] quiet.taken (none_or_one_more (work_told n r).requests shelf quiet.asked) (later n before now known cut)
    (rose n before now r.verdict r.readers right.verdict right.readers known cut)

pub known_cut : (sink : SinkState) (before now : ℕ) → IsLinesKnown before now → AreKnownLines Memory sink sink before now
known_cut sink before now (inl a) = inl (the_lines a)
known_cut sink before now (inr same) = inr (record { memory = refl; sink = refl; counted = same })

-- the built-in language has a fault
pub known_fault : (f : Fault) (status : Status) (old new : SinkState) (before now : ℕ) → IsTheVerdict lines_text (Refused f) → AreKnownLines status old new before now
known_fault f status old new before now the =
    inl (record { verdict = Refused f; readers = blank_readers }, record { verdict = the; readers = no_readers f blank_readers })

pub ends_fault : (f : Fault) (shelf : ShelfState) (old new : SinkState) (n before now : ℕ) (status : Status) (r : Reading) → IsTheVerdict lines_text (Refused f) → IsRightLines r → now ≡ before
    → Ends (world shelf old before) (fault_told f) [] status (world shelf new before)
    → Ends (world shelf old before) (work_told n r) [] status (world shelf new now)
ends_fault f shelf old new n before now status r the right same end =
    subst (λ (k : ℕ). Ends (world shelf old before) (work_told n r) [] status (world shelf new k)) (sym same)
    (ends_as (world shelf old before) (world shelf new before) (fault_told f) (work_told n r) [] status
    (told_by_verdict lines_text r.verdict (Refused f) (λ spec. told_once (work_line spec r.readers n) (work spec r.readers n)) the right.verdict) end)

-- the line was put
pub ends_told : (a : IsLinesAccepted) (shelf : ShelfState) (old new : SinkState) (n before now : ℕ) (ended : Status) (block : List ℕ) (r : Reading) → IsRightLines r
    → Finished Done block old ended new → block ≡ work_line a.spec r.readers n → now ≡ before + work a.spec r.readers n
    → Ends (world shelf old before) (work_told n r) [] ended (world shelf new now)
ends_told a shelf old new n before now ended block r right put line counts =
    ends_as (world shelf old before) (world shelf new now) (told_once (work_line a.spec r.readers n) (work a.spec r.readers n)) (work_told n r) [] ended (lines_told n a r right)
    (ends_once shelf old new before now (work a.spec r.readers n) ended (work_line a.spec r.readers n)
    (finished_as old new block (work_line a.spec r.readers n) Done ended line put) counts)

-- what is known of the built-in language, as what is known of the job
pub known_lines : (asked : Option Job) (n : ℕ) (shelf : ShelfState) (old new : SinkState) (before now : ℕ) (replies : List Reply) (status : Status) → Some (Load n) ≡ asked → replies ≡ []
    → AreKnownLines status old new before now → IsRead asked (world shelf old before) replies status (world shelf new now)
known_lines asked n shelf old new before now replies status is none (inl k) = inl (k.0, subst (λ (j : Option Job). IsTheReadingFor j replies k.0) is k.1)
known_lines asked n shelf old new before now replies status is none (inr u) =
    inr (Load n, sym is, record { memory = u.memory; none = none; shelf = refl; sink = u.sink; counted = u.counted })

-- a reading that is right for the job of the words
pub right_by : (j asked : Option Job) (replies : List Reply) (r : Reading) → j ≡ asked → IsRightFor asked replies r → IsRightFor j replies r
right_by j asked replies r is right = subst (λ (x : Option Job). IsRightFor x replies r) (sym is) right
