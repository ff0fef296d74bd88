-- One line: what was done for it, what was written, and how the session may end there
use Rattle.std.proofs.Common.{◌≡◌, ◌≢◌, ◌≤◌, ◌⊎◌, inl, inr, ℕ, ◌+◌, List, [], ◌∷◌, length, Option, Some, None, Result, Ok, Err, OnOk, OnErr, IfErr, true, false, refl, sym, ap, subst, ◌∙◌, append-nil, arith}
use Rattle.std.specs.Str.Lines.{lines}
use Rattle.sg_outside.specs.Count.{Rose}
use Rattle.sg_eval.specs.declared.journal.Instance.{Instance}
use Rattle.sg_replies.specs.declared.reply.Reply.{Reply}
use Rattle.sg_outside.specs.Shelf.{ShelfState}
use Rattle.sg_script.specs.declared.message.Message.{Message}
use Rattle.sg_script.specs.declared.command.Command.{Command}
use Rattle.sg_script.specs.declared.fault.ScriptFault.{ScriptFault}
use Rattle.sg_script.specs.declared.fault.ScriptFault.TheVariants.{NoMemory}
use Rattle.sg_script.specs.Script.{script_of}
use Rattle.sg_editor.specs.Editing.{Editing, Setting, spec_in, width_in, height_in, session_of}
use Rattle.sg_live.specs.Offers.{offers}
use Rattle.sg_editor.specs.Screen.{screen}
use Rattle.sg_editor.specs.Session.{Session}
use Rattle.sg_editor.specs.Steps.{Stepped, Interrupted}
use Rattle.sg_output.specs.declared.status.Status.{Status}
use Rattle.sg_output.specs.declared.status.Status.TheVariants.{Done, ReadFault, SinkFault}
use Rattle.sg_output.specs.Session.{Desk, asks}
use Rattle.sg_console.specs.declared.console.Taken.{Taken}
use Rattle.sg_console.specs.declared.console.Taken.TheVariants.{Line, Long, End}
use Rattle.sg_console.specs.Console.{Event, ConsoleState, IsTaken, noted, event_of}
use Rattle.sg_console.specs.Console.Event.{Took, Passed, Ended, Put}
use Rattle.sg_live.specs.declared.answers.Answer.{Answer}
use Rattle.sg_live.specs.declared.answers.Answer.TheVariants.{Nothing, Text, Bytes}
use Rattle.sg_live.specs.Answers.{Answered, IsOffer, IsRefusal, events_of}
use Rattle.sg_live.specs.Opening.{Said}
use Rattle.sg_live.specs.Outside.{outside, IsRead, WasRead, all_noted, most_bytes}
use Rattle.sg_live.specs.Texts.{is_question, no_memory_text, not_shown_text, long_line_text, read_fault_input_text}
use Rattle.sg_live.specs.Turned.{Turned, Over}
use Rattle.sg_live.specs.Turns.{IsTurn, silent, refused, passed, offered, done, unseen, unread, undone, IsEnding, lost_input, lost_both, unput, ended, block_of}
use Rattle.sg_live.proofs.Inputs.{all_noted-append, read_then, read_nothing, was_read, was_put, read_took, read_passed, read_ended}

-- the block that an editor showed after a step, in the window before it
pub shown_at : (a b : Editing) (m : Message) (ev count : ℕ) (bytes : List ℕ) → bytes ≡ screen (spec_in b) (width_in b) (height_in b) (session_of b) m ev → b.setting ≡ a.setting → ev ≡ count
    → bytes ≡ screen (spec_in a) (width_in a) (height_in a) (session_of b) m count
shown_at a b m ev count bytes is same n =
    is ∙ ap (λ (x : Setting). screen x.contents.spec x.width x.height (session_of b) m ev) same ∙ ap (λ (k : ℕ). screen (spec_in a) (width_in a) (height_in a) (session_of b) m k) n

module _ (d : Desk) (s : Session) (at : ShelfState) (line : List ℕ) (n : ℕ) where
  -- nothing was done
  pub answered_silent : script_of line ≡ Ok [] → Answered d s at (Took line) s at [] n n
  answered_silent nothing = record { evaluated = 0; turn = silent line nothing; counted = omega arith }

  pub answered_refused : (f : ScriptFault) (said : List Event) → is_question line ≡ false → (f ≢ NoMemory → script_of line ≡ Err f) → IsRefusal f said → Answered d s at (Took line) s at said n n
  answered_refused f said other fault (inl (some, is)) =
      record { evaluated = 0; turn = subst (λ (es : List Event). IsTurn d s at (Took line) s at es 0) (sym is) (refused line f other (fault some)); counted = omega arith }
  answered_refused f said other fault (inr is) =
      record { evaluated = 0; turn = subst (λ (es : List Event). IsTurn d s at (Took line) s at es 0) (sym is) (unread line); counted = omega arith }

  pub answered_offer : (said : List Event) → is_question line ≡ true → IsOffer (offers d.spec s) said → Answered d s at (Took line) s at said n n
  answered_offer said asked (inl is) = record { evaluated = 0; turn = subst (λ (es : List Event). IsTurn d s at (Took line) s at es 0) (sym is) (offered line asked); counted = omega arith }
  answered_offer said asked (inr is) = record { evaluated = 0; turn = subst (λ (es : List Event). IsTurn d s at (Took line) s at es 0) (sym is) (unread line); counted = omega arith }

  pub answered_unread : (text : List ℕ) → text ≡ no_memory_text → Answered d s at (Took line) s at (Put text ∷ []) n n
  answered_unread text is =
      record { evaluated = 0; turn = subst (λ (x : List ℕ). IsTurn d s at (Took line) s at (Put x ∷ []) 0) (sym is) (unread line); counted = omega arith }

  module _ (c : Command) (e : Editing) (now : List Instance) (before after : List Reply) (to : ShelfState) (k : ℕ) where
    -- a command was done
    pub answered_done : (m : Message) (bytes : List ℕ) → script_of line ≡ Ok (c ∷ []) → Stepped (asks d s c) e m now before after at to
        → bytes ≡ screen d.spec d.width d.height (session_of e) m (length now) → k ≡ n + length now → Answered d s at (Took line) (session_of e) to (Put bytes ∷ []) n k
    answered_done m bytes spelled h is count =
        let block : bytes ≡ block_of d h.step = is ∙ (λ i. screen d.spec d.width d.height (h.session i) (h.message i) (h.counted i)) in
        let told : IsTurn d s at (Took line) h.step.session to (Put (block_of d h.step) ∷ []) (length h.step.set) = done line c h.got h.step to spelled h.comes h.served in
        let shown : IsTurn d s at (Took line) h.step.session to (Put bytes ∷ []) (length h.step.set) = subst (λ (x : List ℕ). IsTurn d s at (Took line) h.step.session to (Put x ∷ []) (length h.step.set)) (sym block) told in
        record {
          evaluated = length h.step.set;
          turn = subst (λ (x : Session). IsTurn d s at (Took line) x to (Put bytes ∷ []) (length h.step.set)) (sym h.session) shown;
          counted = count ∙ ap (λ (x : ℕ). n + x) h.counted;
        }

    pub answered_unseen : (m : Message) (text : List ℕ) → script_of line ≡ Ok (c ∷ []) → Stepped (asks d s c) e m now before after at to
        → text ≡ not_shown_text → k ≡ n + length now → Answered d s at (Took line) (session_of e) to (Put text ∷ []) n k
    answered_unseen m text spelled h is count =
        let told : IsTurn d s at (Took line) h.step.session to (Put not_shown_text ∷ []) (length h.step.set) = unseen line c h.got h.step to spelled h.comes h.served in
        let said : IsTurn d s at (Took line) h.step.session to (Put text ∷ []) (length h.step.set) = subst (λ (x : List ℕ). IsTurn d s at (Took line) h.step.session to (Put x ∷ []) (length h.step.set)) (sym is) told in
        record {
          evaluated = length h.step.set;
          turn = subst (λ (x : Session). IsTurn d s at (Took line) x to (Put text ∷ []) (length h.step.set)) (sym h.session) said;
          counted = count ∙ ap (λ (x : ℕ). n + x) h.counted;
        }

    -- memory was wanting to do it
    pub answered_undone : (text : List ℕ) → script_of line ≡ Ok (c ∷ []) → Interrupted d.spec (asks d s c) now before after at to → session_of e ≡ s
        → text ≡ no_memory_text → k ≡ n + length now → Answered d s at (Took line) (session_of e) to (Put text ∷ []) n k
    answered_undone text spelled h same is count =
        let told : IsTurn d s at (Took line) s to (Put no_memory_text ∷ []) (length now) = undone line c h.got now to spelled h.cut h.served in
        let said : IsTurn d s at (Took line) s to (Put text ∷ []) (length now) = subst (λ (x : List ℕ). IsTurn d s at (Took line) s to (Put x ∷ []) (length now)) (sym is) told in
        record {
          evaluated = length now;
          turn = subst (λ (x : Session). IsTurn d s at (Took line) x to (Put text ∷ []) (length now)) (sym same) said;
          counted = count;
        }

-- what is written is no part of what is read
pub read_said : (answer : Answer) (a : Option (List ℕ)) → IsRead a (events_of answer) a
read_said Nothing a = read_nothing a
read_said (Text text) a = said a
  where
    said : (o : Option (List ℕ)) → IsRead o (Put text.now ∷ []) o
    said None = tt
    said (Some input) = (input, refl, refl)
read_said (Bytes bytes) a = said a
  where
    said : (o : Option (List ℕ)) → IsRead o (Put bytes.items ∷ []) o
    said None = tt
    said (Some input) = (input, refl, refl)

pub read_put : (piece : List ℕ) (a : Option (List ℕ)) → IsRead a (Put piece ∷ []) a
read_put piece None = tt
read_put piece (Some input) = (input, refl, refl)

-- what a call answers, by what it says of each answer
pub on_ok_to : {T E A B : Type 0} (r : Result T E) → (A → B) → OnOk r A → OnOk r B
on_ok_to (Ok x) f a = f a
on_ok_to (Err e) f a = tt

pub if_err_to : {T A B C : Type 0} {P Q : Status → Type 0} (r : Result T Status) → ((status : Status) → P status → A → B → C → Q status) → IfErr r P → OnErr r A → OnErr r B → OnErr r C → IfErr r Q
if_err_to (Ok x) f p a b c = tt
if_err_to (Err e) f p a b c = f e p a b c

module _ (d : Desk) (s t : Session) (at to : ShelfState) (e : Event) (said : List Event) (n k : ℕ) (old mid new : ConsoleState) where
  -- a line was read, what was to be said of it is settled, and it was written
  pub turned : Answered d s at e t to said n k → IsRead old.left (e ∷ []) mid.left → IsRead mid.left said mid.left → mid.history ≡ noted e old.history → new.left ≡ mid.left → old.faults ≤ mid.faults
      → mid.faults ≤ new.faults → new.history ≡ all_noted said mid.history → Turned d s t (outside at old n) (outside to new k)
  turned a read quiet heard left first then wrote = record {
    event = e;
    said = said;
    evaluated = a.evaluated;
    turn = a.turn;
    history = wrote ∙ ap (all_noted said) heard ∙ all_noted-append (e ∷ []) said old.history;
    counted = a.counted;
    input = read_then (e ∷ []) said old.left mid.left new.left read (subst (λ (o : Option (List ℕ)). IsRead mid.left said o) (sym left) quiet);
    later = omega arith;
  }

  -- or its put failed
  pub over_unput : Answered d s at e t to said n k → IsRead old.left (e ∷ []) mid.left → mid.history ≡ noted e old.history → old.faults ≤ mid.faults → (lines : ℕ) (status : Status) → status ≡ SinkFault
      → new.history ≡ mid.history → ((piece : List ℕ) × (said ≡ Put piece ∷ [])) → Rose mid.faults new.faults → Over d s lines status (outside at old n) (outside to new k)
  over_unput a read heard first lines status is kept (piece, put) rose =
      let turn : IsTurn d s at e t to (Put piece ∷ []) a.evaluated = subst (λ (es : List Event). IsTurn d s at e t to es a.evaluated) put a.turn in
      let over : IsEnding d s at lines (e ∷ []) to a.evaluated SinkFault = unput e t to piece a.evaluated turn in
      record {
        ending = e ∷ [];
        evaluated = a.evaluated;
        over = subst (λ (x : Status). IsEnding d s at lines (e ∷ []) to a.evaluated x) (sym is) over;
        history = kept ∙ heard;
        counted = a.counted;
        input = was_read (e ∷ []) old.left mid.left read;
        cause = inr (inr (omega (arith, rose)));
      }

-- what was read, where a call tells it by what was taken
module _ (old mid : ConsoleState) (line : List ℕ) (taken : Taken) (t : IsTaken most_bytes old.left mid.left line taken) (ok : mid.history ≡ noted (event_of line taken) old.history) where
  pub took_read : (bytes : List ℕ) → taken ≡ Line → bytes ≡ line → IsRead old.left (Took bytes ∷ []) mid.left
  took_read bytes is same =
      subst (λ (l : List ℕ). IsRead old.left (Took l ∷ []) mid.left) (sym same) (read_took old.left mid.left line (subst (IsTaken most_bytes old.left mid.left line) is t))

  pub took_heard : (bytes : List ℕ) → taken ≡ Line → bytes ≡ line → mid.history ≡ noted (Took bytes) old.history
  took_heard bytes is same = ok ∙ ap (λ (x : Taken). noted (event_of line x) old.history) is ∙ ap (λ (l : List ℕ). noted (Took l) old.history) (sym same)

  pub passed_read : taken ≡ Long → IsRead old.left (Passed ∷ []) mid.left
  passed_read is = read_passed old.left mid.left line (subst (IsTaken most_bytes old.left mid.left line) is t)

  pub passed_heard : taken ≡ Long → mid.history ≡ noted Passed old.history
  passed_heard is = ok ∙ ap (λ (x : Taken). noted (event_of line x) old.history) is

  pub ended_read : taken ≡ End → WasRead old.left (Ended ∷ [])
  ended_read is = read_ended old.left mid.left line (subst (IsTaken most_bytes old.left mid.left line) is t)

  pub ended_heard : taken ≡ End → mid.history ≡ noted Ended old.history
  ended_heard is = ok ∙ ap (λ (x : Taken). noted (event_of line x) old.history) is

-- a line that is too long
pub answered_long : (d : Desk) (s : Session) (at : ShelfState) (n : ℕ) → Answered d s at Passed s at (Put long_line_text ∷ []) n n
answered_long d s at n = record { evaluated = 0; turn = passed; counted = omega arith }

-- nothing more was noted
nothing_noted : (h : Option (List Event)) → all_noted [] h ≡ h
nothing_noted None = refl
nothing_noted (Some h) = ap (λ (l : List Event). Some l) (append-nil h)

-- the input ended
pub over_ended : (d : Desk) (s : Session) (at : ShelfState) (n : ℕ) (old new : ConsoleState) → new.history ≡ noted Ended old.history → WasRead old.left (Ended ∷ [])
    → (lines : ℕ) → Over d s lines Done (outside at old n) (outside at new n)
over_ended d s at n old new heard read lines = record { ending = Ended ∷ []; evaluated = 0; over = ended; history = heard; counted = omega arith; input = read; cause = inl refl }

-- a read failed
pub over_lost : (d : Desk) (s : Session) (at : ShelfState) (n : ℕ) (old mid new : ConsoleState) (text : List ℕ) (status : Status) → mid.history ≡ old.history → Rose old.faults mid.faults → text ≡ read_fault_input_text
    → Said text ReadFault mid status new → (lines : ℕ) → Over d s lines status (outside at old n) (outside at new n)
over_lost d s at n old mid new text status same rose is said lines = by said.either
  where
    failed : Rose old.faults new.faults
    failed = omega (arith, rose, said.later)

    by : ((status ≡ ReadFault) × (new.history ≡ noted (Put text) mid.history)) ⊎ ((status ≡ SinkFault) × (new.history ≡ mid.history) × Rose mid.faults new.faults)
        → Over d s lines status (outside at old n) (outside at new n)
    by (inl (wrote, put)) = record {
      ending = Put read_fault_input_text ∷ [];
      evaluated = 0;
      over = subst (λ (x : Status). IsEnding d s at lines (Put read_fault_input_text ∷ []) at 0 x) (sym wrote) lost_input;
      history = put ∙ ap (noted (Put text)) same ∙ ap (λ (x : List ℕ). noted (Put x) old.history) is;
      counted = omega arith;
      input = was_put read_fault_input_text old.left;
      cause = inr (inr failed);
    }
    by (inr (lost, kept, again)) = record {
      ending = [];
      evaluated = 0;
      over = subst (λ (x : Status). IsEnding d s at lines [] at 0 x) (sym lost) lost_both;
      history = kept ∙ same ∙ sym (nothing_noted old.history);
      counted = omega arith;
      input = was_read [] old.left old.left (read_nothing old.left);
      cause = inr (inr failed);
    }
