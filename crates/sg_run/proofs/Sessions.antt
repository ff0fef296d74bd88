-- A run that is done is the session of its commands.
use Rattle.std.specs.Prelude.{◌≡◌, refl, ◌+◌, ℕ, Bool, true, false, if◌then◌else◌, List, [], ◌∷◌, ◌++◌, flat_map, length, map, sum, Some, Result, Ok, Err}
use Rattle.std.proofs.Common.{sym, ap, ◌∙◌, subst, arith}
use Rattle.std.proofs.lemmas.Option.{none-some, same_Some}
use Rattle.sg_kinds.specs.declared.spec.Spec.{Spec}
use Rattle.sg_load.specs.Verdict.{Verdict, IsVerdict}
use Rattle.sg_load.specs.Verdict.Verdict.{Accepted, Refused}
use Rattle.sg_outside.specs.Count.{tallied}
use Rattle.sg_outside.specs.Sink.{appended}
use Rattle.sg_replies.specs.Calls.{Served}
use Rattle.sg_replies.specs.Requests.{Request, fits}
use Rattle.sg_replies.specs.declared.reply.Reply.{Reply}
use Rattle.sg_replies.specs.declared.reply.Reply.TheVariants.{Fetched, FetchFailed, Kept, KeepFailed}
use Rattle.sg_script.specs.Script.{script_of}
use Rattle.sg_script.specs.declared.command.Command.{Command}
use Rattle.sg_script.specs.declared.fault.ScriptFault.{ScriptFault as NoScript}
use Rattle.sg_editor.specs.Ask.{Ask, Step, Tells, Asks}
use Rattle.sg_editor.specs.Session.{Session, start}
use Rattle.sg_editor.specs.Steps.{Comes, requests_of}
use Rattle.sg_output.specs.Output.{Output, before, joined, taking, unfinished}
use Rattle.sg_output.specs.OutputOf.{first_command, judged, performed, scanned, shown, whole_file, with_spec}
use Rattle.sg_output.specs.Ran.{IsWhole}
use Rattle.sg_output.specs.Reading.{IsRight, Reading}
use Rattle.sg_output.specs.Session.{Desk, asks, desk, session, telling, turn}
use Rattle.sg_output.specs.Statuses.{number_of}
use Rattle.sg_output.specs.World.{World}
use Rattle.sg_output.specs.declared.status.Status.{Status}
use Rattle.sg_output.specs.declared.status.Status.TheVariants.{Done, ReadFault, ScriptFault, SpecFault}
use Rattle.sg_run.specs.Sessions.{Act, AreActs, Did, IsFetchedSpec, IsFirstScreen, IsSession, evaluations, replies_in, requests_in, screen_after}

-- what a session that is finished tells, as acts
pub record Told (d : Desk) (s : Session) (commands : List Command) (replies : List Reply) (t : Output) : Type 0 where
  pub acts : List Act
  pub names : map (λ (a : Act). a.command) acts ≡ commands
  pub follow : AreActs d s acts
  pub written : joined t.blocks ≡ flat_map (screen_after d) acts
  pub count : length t.blocks ≡ length acts
  pub got : replies ≡ replies_in acts
  pub asked : t.requests ≡ requests_in d s acts
  pub evaluated : t.evs ≡ map evaluations acts

-- the same, of which the first command asked so
record First (d : Desk) (c : Command) (a : Ask) (commands : List Command) (replies : List Reply) (t : Output) : Type 0 where
  act : Act
  named : act.command ≡ c
  comes : Comes a act.got act.step
  rest : List Act
  names : map (λ (b : Act). b.command) rest ≡ commands
  follow : AreActs d act.step.session rest
  written : joined t.blocks ≡ screen_after d act ++ flat_map (screen_after d) rest
  count : length t.blocks ≡ length (act ∷ rest)
  got : replies ≡ act.got ++ replies_in rest
  asked : t.requests ≡ requests_of a ++ requests_in d act.step.session rest
  evaluated : t.evs ≡ evaluations act ∷ map evaluations rest

abbrev IsTold : Desk → List Command → Type 0
IsTold d commands = (s : Session) (replies : List Reply) → (session d s commands replies).status ≡ Some Done
    → (session d s commands replies).taken ≡ length replies → Told d s commands replies (session d s commands replies)

module _ (d : Desk) (c : Command) (commands : List Command) (told : IsTold d commands) where
  abbrev next : Session → List Reply → Output
  next after more = session d after commands more

  abbrev answered : Request → (Reply → Step) → Reply → List Reply → Output
  answered request answer reply more = before (taking request) (before (telling d (answer reply)) (next (answer reply).session more))

  stepped : (step : Step) (replies : List Reply) → (next step.session replies).status ≡ Some Done → (next step.session replies).taken ≡ length replies
      → First d c (Tells step) commands replies (before (telling d step) (next step.session replies))
  stepped step replies status taken =
      let it = told step.session replies status taken in
      let act : Act = record { command = c; got = []; step = step } in
      record {
        act = act;
        named = refl;
        comes = (refl, refl);
        rest = it.acts;
        names = it.names;
        follow = it.follow;
        written = ap (λ w. screen_after d act ++ w) it.written;
        count = let e = it.count in omega (arith, e);
        got = it.got;
        asked = it.asked;
        evaluated = ap (λ ns. length step.set ∷ ns) it.evaluated;
      }

  replied : (request : Request) (answer : Reply → Step) (reply : Reply) (more : List Reply) → fits request reply ≡ true → (next (answer reply).session more).status ≡ Some Done
      → (next (answer reply).session more).taken ≡ length more
      → First d c (Asks request answer) commands (reply ∷ more) (answered request answer reply more)
  replied request answer reply more fit status taken =
      let it = told (answer reply).session more status taken in
      let act : Act = record { command = c; got = reply ∷ []; step = answer reply } in
      record {
        act = act;
        named = refl;
        comes = (reply, refl, fit, refl);
        rest = it.acts;
        names = it.names;
        follow = it.follow;
        written = ap (λ w. screen_after d act ++ w) it.written;
        count = let e = it.count in omega (arith, e);
        got = ap (λ rs. reply ∷ rs) it.got;
        asked = ap (λ qs. request ∷ qs) it.asked;
        evaluated = ap (λ ns. length (answer reply).set ∷ ns) it.evaluated;
      }

  first : (a : Ask) (replies : List Reply) → (turn d next a replies).status ≡ Some Done → (turn d next a replies).taken ≡ length replies → First d c a commands replies (turn d next a replies)
  first (Tells step) replies status taken = stepped step replies status (omega (arith, taken))
  first (Asks request answer) [] status taken = absurd (none-some Done status)
  first (Asks request answer) (reply ∷ more) status taken = by (fits request reply) refl status taken
    where
      by : (b : Bool) → fits request reply ≡ b → (if b then answered request answer reply more else unfinished request).status ≡ Some Done
          → (if b then answered request answer reply more else unfinished request).taken ≡ length (reply ∷ more)
          → First d c (Asks request answer) commands (reply ∷ more) (if b then answered request answer reply more else unfinished request)
      by true fit done took = replied request answer reply more fit done (omega (arith, took))
      by false fit done took = absurd (none-some Done done)

-- each session that is finished is told so
pub acts_told : (d : Desk) (commands : List Command) → IsTold d commands
acts_told d [] s [] status taken = record { acts = []; names = refl; follow = tt; written = refl; count = refl; got = refl; asked = refl; evaluated = refl }
acts_told d [] s (reply ∷ replies) status taken = absurd (omega (arith, taken))
acts_told d (c ∷ commands) s replies status taken =
    let it = first d c commands (acts_told d commands) (asks d s c) replies status taken in
    let same : asks d s it.act.command ≡ asks d s c = ap (asks d s) it.named in
    record {
      acts = it.act ∷ it.rest;
      names = ap (λ x. x ∷ map (λ (b : Act). b.command) it.rest) it.named ∙ ap (λ xs. c ∷ xs) it.names;
      follow = (subst (λ a. Comes a it.act.got it.act.step) (sym same) it.comes, it.follow);
      written = it.written;
      count = it.count;
      got = it.got;
      asked = it.asked ∙ ap (λ a. requests_of a ++ requests_in d it.act.step.session it.rest) (sym same);
      evaluated = it.evaluated;
    }

-- the status of a run that is done is no other
pub other_status : (status : Status) (n : ℕ) → number_of status ≡ n + 1 → Some status ≡ Some Done → ⊥
other_status status n is done = let zero = ap number_of (same_Some status Done done) in omega (arith, zero, is)

module _ (r : Reading) (old new : World) where
  -- a session that is all that a run tells behind these requests, whose replies come first
  did : (d : Desk) (commands : List Command) (requests : List Request) (replies more : List Reply) (t : Output) → (it : Told d start commands more t)
      → new.sink.written ≡ appended old.sink.written (joined t.blocks) → new.sink.puts ≡ tallied (length t.blocks) old.sink.puts
      → Served old.shelf (requests ++ t.requests) (replies ++ more) new.shelf → new.counted ≡ old.counted + sum t.evs
      → Did d it.acts requests replies old (replies ++ more) new
  did d commands requests replies more t it bytes puts served evaluated = record {
    written = bytes ∙ ap (appended old.sink.written) it.written;
    puts = puts ∙ ap (λ n. tallied n old.sink.puts) it.count;
    replied = ap (λ rs. replies ++ rs) it.got;
    served = subst (λ qs. Served old.shelf (requests ++ qs) (replies ++ more) new.shelf) it.asked served;
    evaluated = evaluated ∙ ap (λ ns. old.counted + sum ns) it.evaluated;
  }

  abbrev pub fetched_spec : (bytes : List ℕ) (more : List Reply) (spec : Spec) → IsRight (Fetched bytes ∷ more) r → r.verdict ≡ Accepted spec → IsFetchedSpec bytes r
  fetched_spec bytes more spec right is = record { spec = spec; verdict = is; right = subst (IsVerdict bytes) is (right.verdict bytes more refl) }

  -- a run of a script
  module _ (name script : List ℕ) (width height : ℕ) where
    abbrev follow : Spec → List Reply → Output
    follow spec = performed script width height r.readers spec

    by_script : (bytes text : List ℕ) (more : List Reply) (spec : Spec) → IsRight (Fetched bytes ∷ Fetched text ∷ more) r → r.verdict ≡ Accepted spec → (x : Result (List Command) NoScript) → script_of text ≡ x
        → IsWhole (before (taking (whole_file name)) (before (taking (whole_file script)) (scanned x (λ commands. session (desk spec width height r.readers) start commands more)))) old (Fetched bytes ∷ Fetched text ∷ more) Done new
        → IsSession name script width height r old (Fetched bytes ∷ Fetched text ∷ more) new
    by_script bytes text more spec right is (Err f) form whole = absurd (other_status ScriptFault 4 refl whole.finished)
    by_script bytes text more spec right is (Ok commands) form whole =
        let d = desk spec width height r.readers in
        let taken = whole.replies in
        let it = acts_told d commands start more whole.finished (omega (arith, taken)) in
        record {
          bytes = bytes;
          fetched = fetched_spec bytes (Fetched text ∷ more) spec right is;
          text = text;
          commands = commands;
          in_form = form;
          acts = it.acts;
          performed = record { named = it.names; follow = it.follow };
          did = did d commands (whole_file name ∷ whole_file script ∷ []) (Fetched bytes ∷ Fetched text ∷ []) more (session d start commands more) it whole.bytes whole.puts whole.requests whole.evaluated;
        }

    by_spec : (bytes : List ℕ) (more : List Reply) → IsRight (Fetched bytes ∷ more) r → (v : Verdict) → r.verdict ≡ v
        → IsWhole (before (taking (whole_file name)) (judged v (λ spec. follow spec more))) old (Fetched bytes ∷ more) Done new
        → IsSession name script width height r old (Fetched bytes ∷ more) new
    by_spec bytes more right (Refused f) is whole = absurd (other_status SpecFault 3 refl whole.finished)
    by_spec bytes [] right (Accepted spec) is whole = absurd (none-some Done whole.finished)
    by_spec bytes (Fetched text ∷ more) right (Accepted spec) is whole = by_script bytes text more spec right is (script_of text) refl whole
    by_spec bytes (FetchFailed ∷ more) right (Accepted spec) is whole = absurd (other_status ReadFault 2 refl whole.finished)
    by_spec bytes (Kept ∷ more) right (Accepted spec) is whole = absurd (none-some Done whole.finished)
    by_spec bytes (KeepFailed ∷ more) right (Accepted spec) is whole = absurd (none-some Done whole.finished)

    pub session_done : (got : List Reply) → IsRight got r → IsWhole (with_spec follow name r.verdict got) old got Done new → IsSession name script width height r old got new
    session_done [] right whole = absurd (none-some Done whole.finished)
    session_done (Fetched bytes ∷ more) right whole = by_spec bytes more right r.verdict refl whole
    session_done (FetchFailed ∷ more) right whole = absurd (other_status ReadFault 2 refl whole.finished)
    session_done (Kept ∷ more) right whole = absurd (none-some Done whole.finished)
    session_done (KeepFailed ∷ more) right whole = absurd (none-some Done whole.finished)

  -- the first screen
  module _ (name : List ℕ) where
    by_first : (bytes : List ℕ) (more : List Reply) → IsRight (Fetched bytes ∷ more) r → (v : Verdict) → r.verdict ≡ v
        → IsWhole (before (taking (whole_file name)) (judged v (λ spec. shown r.readers spec more))) old (Fetched bytes ∷ more) Done new
        → IsFirstScreen name r old (Fetched bytes ∷ more) new
    by_first bytes more right (Refused f) is whole = absurd (other_status SpecFault 3 refl whole.finished)
    by_first bytes more right (Accepted spec) is whole =
        let d = desk spec 80 24 r.readers in
        let taken = whole.replies in
        let it = acts_told d first_command start more whole.finished (omega (arith, taken)) in
        record {
          bytes = bytes;
          fetched = fetched_spec bytes more spec right is;
          acts = it.acts;
          performed = record { named = it.names; follow = it.follow };
          did = did d first_command (whole_file name ∷ []) (Fetched bytes ∷ []) more (session d start first_command more) it whole.bytes whole.puts whole.requests whole.evaluated;
        }

    pub first_done : (got : List Reply) → IsRight got r → IsWhole (with_spec (shown r.readers) name r.verdict got) old got Done new → IsFirstScreen name r old got new
    first_done [] right whole = absurd (none-some Done whole.finished)
    first_done (Fetched bytes ∷ more) right whole = by_first bytes more right r.verdict refl whole
    first_done (FetchFailed ∷ more) right whole = absurd (other_status ReadFault 2 refl whole.finished)
    first_done (Kept ∷ more) right whole = absurd (none-some Done whole.finished)
    first_done (KeepFailed ∷ more) right whole = absurd (none-some Done whole.finished)
