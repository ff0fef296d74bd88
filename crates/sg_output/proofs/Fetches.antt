-- A fetch of the specification or of the script, as what was made of its reply tells
use Rattle.std.proofs.Common.{◌≡◌, ℕ, List, [], ◌∷◌, ◌++◌, Result, Ok, Err, IfOk, IfErr, ap, ◌∙◌}
use Rattle.sg_kinds.specs.declared.spec.Spec.{Spec}
use Rattle.sg_replies.specs.declared.reply.Reply.{Reply}
use Rattle.sg_replies.specs.Requests.{Request}
use Rattle.sg_outside.specs.Shelf.{ShelfState}
use Rattle.sg_replies.specs.Calls.{Replied}
use Rattle.sg_script.specs.declared.command.Command.{Command}
use Rattle.sg_load.specs.Verdict.{Verdict}
use Rattle.sg_editor.specs.Ask.{Readers}
use Rattle.sg_output.specs.declared.status.Status.{Status}
use Rattle.sg_output.specs.Output.{Output}
use Rattle.sg_output.specs.OutputOf.{opened, scripted, whole_file, with_spec, with_script}
use Rattle.sg_output.specs.Reading.{IsVerdictIn}
use Rattle.sg_output.specs.Opening.{IsFetched, IsVerdictOf, IsAdmitted, IsOpened, IsScriptOf, IsQuiet, IsKnownOf}
use Rattle.sg_output.specs.Causes.{IsReadOf}
use Rattle.sg_outside.specs.Sink.{SinkState}
use Rattle.sg_output.specs.World.{world}
use Rattle.sg_output.specs.Ran.{Ends}
use Rattle.sg_output.specs.Parts.{Passed, Played}
use Rattle.sg_output.proofs.Requests.{played_fetched}
use Rattle.sg_output.proofs.Opened.{opening_ok, read_of, verdict_of}

-- the reply stands last
abbrev pub fetched_last : (q : Request) (reply : Reply) (rb rm ra : List Reply) (shelf shelf' : ShelfState) → Replied q reply shelf shelf' → rm ≡ rb → ra ≡ rm ++ reply ∷ [] → IsFetched q rb ra shelf shelf'
fetched_last q reply rb rm ra shelf shelf' replied same last = record {
  reply = reply;
  last = last ∙ ap (λ (rs : List Reply). rs ++ reply ∷ []) same;
  replied = replied;
}

-- the reply to the fetch of the specification, by which the run goes on
pub opened_ok : {T : Type 0} (spec : T → Spec) (name : List ℕ) (reply : Reply) (rb rm ra : List Reply) (shelf shelf' : ShelfState) (r : Result T Status)
    → rb ≡ [] → Replied (whole_file name) reply shelf shelf' → rm ≡ rb → ra ≡ rm ++ reply ∷ [] → IfOk r (λ x. IsAdmitted reply (spec x)) → IfOk r (λ x. IsOpened name (spec x) ra shelf shelf')
opened_ok spec name reply rb rm ra shelf shelf' (Ok x) none replied same last admitted = record {
  fetched = fetched_last (whole_file name) reply [] rm ra shelf shelf' replied (same ∙ none) last;
  admitted = admitted;
}
opened_ok spec name reply rb rm ra shelf shelf' (Err s) none replied same last admitted = tt

-- and by which it ended
pub opened_known : {T : Type 0} (readers : Readers) (name : List ℕ) (reply : Reply) (rb rm ra : List Reply) (shelf shelf' : ShelfState) (old new : SinkState) (r : Result T Status)
    → rb ≡ [] → Replied (whole_file name) reply shelf shelf' → rm ≡ rb → ra ≡ rm ++ reply ∷ [] → IfErr r (λ status. IsKnownOf reply status old new)
    → IfErr r (λ status. (n : ℕ) → IsReadOf name (world shelf old n) ra status (world shelf' new n))
opened_known readers name reply rb rm ra shelf shelf' old new (Ok x) none replied same last known = tt
opened_known readers name reply rb rm ra shelf shelf' old new (Err s) none replied same last known =
    λ n. read_of name rb ra shelf shelf' old new n s readers none (fetched_last (whole_file name) reply rb rm ra shelf shelf' replied same last) known

pub opened_played : {T : Type 0} (name : List ℕ) (reply : Reply) (rb rm ra : List Reply) (shelf shelf' : ShelfState) (old new : SinkState) (r : Result T Status)
    → rb ≡ [] → Replied (whole_file name) reply shelf shelf' → rm ≡ rb → ra ≡ rm ++ reply ∷ []
    → IfErr r (λ status. (v : Verdict) → IsVerdictOf reply v → (next : Spec → List Reply → Output) → ((spec : Spec) → IsQuiet (next spec [])) → (at : ShelfState) (n : ℕ)
    → Ends (world at old n) (opened next v reply []) [] status (world at new n))
    → IfErr r (λ status. (v : Verdict) → IsVerdictIn ra v → (next : Spec → List Reply → Output) → ((spec : Spec) → IsQuiet (next spec [])) → (n : ℕ)
    → Played (with_spec next name v) [] ra status (world shelf old n) (world shelf' new n))
opened_played name reply rb rm ra shelf shelf' old new (Ok x) none replied same last ended = tt
opened_played name reply rb rm ra shelf shelf' old new (Err s) none replied same last ended = λ v right next quiet n.
    let f : IsFetched (whole_file name) [] ra shelf shelf' = fetched_last (whole_file name) reply [] rm ra shelf shelf' replied (same ∙ none) last in
    played_fetched (whole_file name) (opened next v) [] ra shelf shelf' old new n n s f (ended v (verdict_of ra reply v f.last right) next quiet shelf' n)

-- the reply to the fetch of the script, by which the run goes on, and by which it ended
pub script_ok : {T : Type 0} (commands : T → List Command) (name : List ℕ) (reply : Reply) (rb rm ra : List Reply) (shelf shelf' : ShelfState) (old new : SinkState) (r : Result T Status)
    → Replied (whole_file name) reply shelf shelf' → rm ≡ rb → ra ≡ rm ++ reply ∷ [] → IfOk r (λ x. IsScriptOf reply (commands x)) → IfOk r (λ _. new ≡ old)
    → IfOk r (λ x. (next : List Command → List Reply → Output) (n : ℕ) → Passed (with_script next name) (next (commands x)) rb ra (world shelf old n) (world shelf' new n))
script_ok commands name reply rb rm ra shelf shelf' old new (Ok x) replied same last script quiet =
    λ next n. opening_ok next name rb ra shelf shelf' old new n (commands x) (fetched_last (whole_file name) reply rb rm ra shelf shelf' replied same last) script.bytes script.brought script.spelled quiet
script_ok commands name reply rb rm ra shelf shelf' old new (Err s) replied same last script quiet = tt

pub script_err : {T : Type 0} (name : List ℕ) (reply : Reply) (rb rm ra : List Reply) (shelf shelf' : ShelfState) (old new : SinkState) (r : Result T Status)
    → Replied (whole_file name) reply shelf shelf' → rm ≡ rb → ra ≡ rm ++ reply ∷ []
    → IfErr r (λ status. (next : List Command → List Reply → Output) → ((commands : List Command) → IsQuiet (next commands [])) → (at : ShelfState) (n : ℕ) → Ends (world at old n) (scripted next reply []) [] status (world at new n))
    → IfErr r (λ status. (next : List Command → List Reply → Output) → ((commands : List Command) → IsQuiet (next commands [])) → (n : ℕ) → Played (with_script next name) rb ra status (world shelf old n) (world shelf' new n))
script_err name reply rb rm ra shelf shelf' old new (Ok x) replied same last ended = tt
script_err name reply rb rm ra shelf shelf' old new (Err s) replied same last ended =
    λ next quiet n. played_fetched (whole_file name) (scripted next) rb ra shelf shelf' old new n n s (fetched_last (whole_file name) reply rb rm ra shelf shelf' replied same last) (ended next quiet shelf' n)
