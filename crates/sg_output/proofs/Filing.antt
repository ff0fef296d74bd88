-- How the job of a report ends
use Rattle.std.proofs.Common.{◌≡◌, ◌≤◌, ℕ, ◌+◌, List, [], take, sum, Option, Some, None, IsSome, Result, Ok, Err, refl, sym, ap, ◌∙◌, subst, arith}
use Rattle.std.proofs.lemmas.Bool.{false≢true}
use Rattle.std.specs.Option.{option_map_or}
use Rattle.sg_kinds.specs.declared.spec.Spec.{Spec}
use Rattle.sg_replies.specs.declared.reply.Reply.{Reply}
use Rattle.sg_replies.specs.declared.reply.Reply.TheVariants.{Fetched, FetchFailed, Kept, KeepFailed}
use Rattle.sg_outside.specs.Shelf.{ShelfState}
use Rattle.sg_outside.specs.Sink.{SinkState}
use Rattle.sg_replies.proofs.Laws.{none_or_one_more}
use Rattle.sg_report.specs.Answers.{evaluated_by}
use Rattle.sg_report.specs.Attrs.{attr_in, attr_of}
use Rattle.sg_report.specs.Reports.{report_of}
use Rattle.sg_report.specs.declared.attrs.Named.{Named}
use Rattle.sg_report.specs.declared.answers.Report.{Report}
use Rattle.sg_report.specs.declared.answers.ReportFault.{ReportFault as NoReport}
use Rattle.sg_report.specs.declared.answers.ReportFault.TheVariants.{NoAttribute}
use Rattle.sg_editor.specs.Ask.{Readers}
use Rattle.sg_output.specs.declared.status.Status.{Status}
use Rattle.sg_output.specs.declared.status.Status.TheVariants.{Done, Memory, ReadFault}
use Rattle.sg_output.specs.Opening.{IsQuiet}
use Rattle.sg_output.specs.Output.{Output, text, asked}
use Rattle.sg_output.specs.Work.{told_once}
use Rattle.sg_output.specs.Filed.{report_file, file_missing_text, refusal, report_end, filed, reported}
use Rattle.sg_output.specs.World.{World, world}
use Rattle.sg_output.specs.Ran.{Ends}
use Rattle.sg_output.specs.Parts.{Finished, Played}
use Rattle.sg_output.proofs.Endings.{ends_memory, ends_as, finished_as}
use Rattle.sg_output.proofs.Requests.{played_at}
use Rattle.sg_output.proofs.Works.{ends_once}

-- no reply is taken
end_quiet : (x : Result Report NoReport) → IsQuiet (report_end x)
end_quiet (Ok r) = record { taken = refl; asked = omega arith }
end_quiet (Err f) = record { taken = refl; asked = omega arith }

pub report_quiet : (file word : List ℕ) (readers : Readers) (spec : Spec) → IsQuiet (reported file word readers spec [])
report_quiet file word readers spec = by (attr_of spec word)
  where
    by : (o : Option Named) → IsQuiet (option_map_or (λ a. asked (report_file file) (filed readers spec a) []) o (refusal NoAttribute))
    by None = record { taken = refl; asked = omega arith }
    by (Some a) = record { taken = refl; asked = omega arith }

-- how many equations are evaluated for its block
end_evs : (x : Result Report NoReport) → sum (take 1 (report_end x).evs) ≡ evaluated_by x
end_evs (Ok r) = omega arith
end_evs (Err f) = refl

module _ (shelf : ShelfState) where
  -- the report was put
  pub ends_reported : (old new : SinkState) (n m : ℕ) (ended : Status) (r : Report) (x : Result Report NoReport) (block : List ℕ) → Ok r ≡ x → block ≡ r.lines → Finished Done block old ended new → m ≡ n + r.evaluated
      → Ends (world shelf old n) (report_end x) [] ended (world shelf new m)
  ends_reported old new n m ended r x block same lines put counts =
      ends_as (world shelf old n) (world shelf new m) (told_once r.lines r.evaluated) (report_end x) [] ended (ap report_end (sym same))
      (ends_once shelf old new n m r.evaluated ended r.lines (finished_as old new block r.lines Done ended lines put) counts)

  -- memory was wanting in its midst
  pub ends_unreported : (sink : SinkState) (n m : ℕ) (x : Result Report NoReport) → n ≤ m → m ≤ n + evaluated_by x → Ends (world shelf sink n) (report_end x) [] Memory (world shelf sink m)
  ends_unreported sink n m x least most =
      let quiet = end_quiet x in
      let evs = end_evs x in
      ends_memory shelf shelf sink n m (report_end x) [] quiet.taken (none_or_one_more (report_end x).requests shelf quiet.asked) least (omega (arith, most, evs))

  -- there is none, and the line of the refusal was put
  pub ends_refused : (old new : SinkState) (n m : ℕ) (ended : Status) (f : NoReport) (x : Result Report NoReport) → Err f ≡ x → m ≡ n → Ends (world shelf old n) (refusal f) [] ended (world shelf new n)
      → Ends (world shelf old n) (report_end x) [] ended (world shelf new m)
  ends_refused old new n m ended f x same counts end =
      subst (λ (k : ℕ). Ends (world shelf old n) (report_end x) [] ended (world shelf new k)) (sym counts)
      (ends_as (world shelf old n) (world shelf new n) (refusal f) (report_end x) [] ended (ap report_end (sym same)) end)

module _ (readers : Readers) (spec : Spec) (a : Named) (reply : Reply) (more : List Reply) where
  -- there is no file; there is one
  pub file_missing : ((bytes : List ℕ) → reply ≡ Fetched bytes → ⊥) → filed readers spec a reply more ≡ text ReadFault file_missing_text
  file_missing other = by reply other
    where
      by : (r : Reply) → ((bytes : List ℕ) → r ≡ Fetched bytes → ⊥) → filed readers spec a r more ≡ text ReadFault file_missing_text
      by (Fetched bytes) other = absurd (other bytes refl)
      by FetchFailed other = refl
      by Kept other = refl
      by KeepFailed other = refl

  pub file_there : (bytes : List ℕ) → reply ≡ Fetched bytes → filed readers spec a reply more ≡ report_end (report_of spec readers.text readers.file a bytes)
  file_there bytes is = ap (λ (r : Reply). filed readers spec a r more) is

-- where the word names an attribute, the run goes on with its file; where it names none, its refusal ends it
pub played_named : (readers : Readers) (spec : Spec) (file word : List ℕ) (phylum name : List ℕ) (rb ra : List Reply) (status : Status) (old new : World) → attr_of spec word ≡ attr_in spec phylum name → IsSome (attr_in spec phylum name)
    → ((a : Named) → attr_in spec phylum name ≡ Some a → Played (asked (report_file file) (filed readers spec a)) rb ra status old new) → Played (reported file word readers spec) rb ra status old new
played_named readers spec file word phylum name rb ra status old new same some played = by (attr_in spec phylum name) refl some
  where
    by : (o : Option Named) → attr_in spec phylum name ≡ o → IsSome o → Played (reported file word readers spec) rb ra status old new
    by None e some = absurd (false≢true some)
    by (Some a) e some =
        let is : (λ (replies : List Reply). asked (report_file file) (filed readers spec a) replies) ≡ reported file word readers spec =
        sym (ap (λ (o : Option Named). λ (replies : List Reply). option_map_or (λ b. asked (report_file file) (filed readers spec b) replies) o (refusal NoAttribute)) (same ∙ e)) in
        subst (λ (f : List Reply → Output). Played f rb ra status old new) is (played a e)

pub played_unnamed : (readers : Readers) (spec : Spec) (file word : List ℕ) (rs : List Reply) (status : Status) (old new : World) → attr_of spec word ≡ None → Ends old (refusal NoAttribute) [] status new → new.shelf ≡ old.shelf
    → Played (reported file word readers spec) rs rs status old new
played_unnamed readers spec file word rs status old new none end same =
    let is : (λ (replies : List Reply). refusal NoAttribute) ≡ reported file word readers spec =
    sym (ap (λ (o : Option Named). λ (replies : List Reply). option_map_or (λ b. asked (report_file file) (filed readers spec b) replies) o (refusal NoAttribute)) none) in
    subst (λ (f : List Reply → Output). Played f rs rs status old new) is (played_at (λ replies. refusal NoAttribute) rs status old new end same)
