-- What a command comes to.
use Rattle.std.specs.Prelude.{◌≡◌, refl, List, [], ◌∷◌, ◌++◌, IfOk, OnErr, Result, Ok, Err}
use Rattle.std.proofs.Common.{sym, ◌∙◌, subst, arith, inl, inr, append-nil}
use Rattle.sg_kinds.specs.Values.{Bytes}
use Rattle.sg_kinds.specs.declared.spec.Spec.{Spec}
use Rattle.sg_eval.specs.declared.journal.Instance.{Instance}
use Rattle.sg_outside.specs.Shelf.{ShelfState}
use Rattle.sg_replies.specs.Calls.{Replied, Served, ServedOrOneMore}
use Rattle.sg_replies.specs.Requests.{Request, Keep}
use Rattle.sg_replies.specs.declared.reply.Reply.{Reply}
use Rattle.sg_replies.proofs.Laws.{served_one, none_or_one_more, unanswered_one_more}
use Rattle.sg_outside.proofs.Tally.{answered_by-zero}
use Rattle.sg_script.specs.declared.message.Message.{Message}
use Rattle.sg_editor.specs.Ask.{Ask, Step, Tells, Asks, says, keeps, said_of_keep}
use Rattle.sg_editor.specs.Editing.{Editing, session_in, session_of}
use Rattle.sg_editor.specs.Steps.{Answered, AreSome, Interrupted, IsUnanswered, Stepped, Took}
use Rattle.sg_editor.proofs.Taken.{none_some, said}

-- no call was made
not_served : (s : ShelfState) → Served s [] [] s
not_served s = record { files = refl; faults = omega arith; later = omega arith; calls = sym (answered_by-zero s.calls) }

pub of_kept : (e : Editing) → session_of e ≡ session_in e.kept
unfolding session_of
of_kept e = refl

module _ (e : Editing) (step : Step) (m : Message) (now : List Instance) (took : Took step e.kept m now) where
  -- a step that asks nothing
  pub told_step : (replies : List Reply) (shelf : ShelfState) → Stepped (Tells step) e m now replies replies shelf shelf
  told_step replies shelf = record {
    got = [];
    step = step;
    replies = sym (append-nil replies);
    comes = (refl, refl);
    session = of_kept e ∙ took.session;
    message = took.message;
    counted = took.counted;
    noted = took.noted;
    served = not_served shelf;
  }

pub told_steps : {E : Type 0} (e : Editing) (step : Step) (now : List Instance) (replies : List Reply) (shelf : ShelfState) (res : Result Message E) → IfOk res (λ m. Took step e.kept m now)
    → IfOk res (λ m. Stepped (Tells step) e m now replies replies shelf shelf)
told_steps e step now replies shelf (Ok m) took = told_step e step m now took replies shelf
told_steps e step now replies shelf (Err x) took = tt

-- a step by a reply
pub asked_step : (e : Editing) (request : Request) (next : Reply → Step) (reply : Reply) (m : Message) (now : List Instance) (before after : List Reply) (old new : ShelfState)
    → Took (next reply) e.kept m now → after ≡ before ++ reply ∷ [] → Replied request reply old new → Stepped (Asks request next) e m now before after old new
asked_step e request next reply m now before after old new took replies replied = record {
  got = reply ∷ [];
  step = next reply;
  replies = replies;
  comes = (reply, refl, replied.kind, refl);
  session = of_kept e ∙ took.session;
  message = took.message;
  counted = took.counted;
  noted = took.noted;
  served = served_one request reply old new replied;
}

module _ (spec : Spec) where
  -- cut short where nothing is asked
  pub told_cut : (step : Step) (now : List Instance) (replies : List Reply) (shelf : ShelfState) → AreSome spec step now → Interrupted spec (Tells step) now replies replies shelf shelf
  told_cut step now replies shelf some = record {
    got = [];
    replies = sym (append-nil replies);
    cut = (refl, some);
    served = none_or_one_more [] shelf (omega arith);
  }

  pub told_cuts : {E : Type 0} (step : Step) (now : List Instance) (replies : List Reply) (shelf : ShelfState) (res : Result Message E) → OnErr res (AreSome spec step now)
      → OnErr res (Interrupted spec (Tells step) now replies replies shelf shelf)
  told_cuts step now replies shelf (Ok m) some = tt
  told_cuts step now replies shelf (Err x) some = told_cut step now replies shelf some

  -- before anything was asked, and without a reply
  unanswered : (request : Request) (old new : ShelfState) → IsUnanswered old new → ServedOrOneMore old (request ∷ []) [] new
  unanswered request old new (inl same) = subst (λ (s : ShelfState). ServedOrOneMore old (request ∷ []) [] s) (sym same) (none_or_one_more (request ∷ []) old (omega arith))
  unanswered request old new (inr called) = unanswered_one_more request old new called

  pub asked_cut : (request : Request) (next : Reply → Step) (now : List Instance) (before after : List Reply) (old new : ShelfState) → now ≡ [] → after ≡ before → IsUnanswered old new
      → Interrupted spec (Asks request next) now before after old new
  asked_cut request next now before after old new none same un = record {
    got = [];
    replies = same ∙ sym (append-nil before);
    cut = inl (refl, none);
    served = unanswered request old new un;
  }

  -- and behind the reply
  replied_or_one_more : (request : Request) (reply : Reply) (old new : ShelfState) → Served old (request ∷ []) (reply ∷ []) new → ServedOrOneMore old (request ∷ []) (reply ∷ []) new
  replied_or_one_more request reply old new s = record { files = s.files; faults = s.faults; later = s.later; calls = inl s.calls }

  pub replied_cut : (request : Request) (next : Reply → Step) (reply : Reply) (now : List Instance) (before after : List Reply) (old new : ShelfState) → AreSome spec (next reply) now
      → after ≡ before ++ reply ∷ [] → Replied request reply old new → Interrupted spec (Asks request next) now before after old new
  replied_cut request next reply now before after old new some replies replied = record {
    got = reply ∷ [];
    replies = replies;
    cut = inr (reply, refl, replied.kind, some);
    served = replied_or_one_more request reply old new (served_one request reply old new replied);
  }

  -- before it is known whether anything is asked
  pub early_cut : (asked : Ask) (now : List Instance) (replies : List Reply) (shelf : ShelfState) → now ≡ [] → Interrupted spec asked now replies replies shelf shelf
  early_cut (Tells step) now replies shelf none = told_cut step now replies shelf (none_some spec step now none)
  early_cut (Asks request next) now replies shelf none = asked_cut request next now replies replies shelf shelf none refl (inl refl)

-- bytes that are kept
module _ (e : Editing) (file : Bytes) (before after : List Reply) (old new : ShelfState) where
  pub kept_step : (bytes : Bytes) (r : Result Bytes Message) (m : Message) (now : List Instance) → r ≡ Ok bytes → now ≡ [] → Answered (Keep file bytes) said_of_keep m before after old new
      → Stepped (keeps file (session_in e.kept) r) e m now before after old new
  kept_step bytes r m now ok none a =
      subst (λ (r : Result Bytes Message). Stepped (keeps file (session_in e.kept) r) e m now before after old new) (sym ok)
      (asked_step e (Keep file bytes) (λ reply. says (session_in e.kept) (said_of_keep reply)) a.reply m now before after old new
      (subst (λ (n : Message). Took (says (session_in e.kept) (said_of_keep a.reply)) e.kept n now) (sym a.message)
      (said e.kept (session_in e.kept) (said_of_keep a.reply) now refl none)) a.replies a.replied)

  pub unkept_step : (r : Result Bytes Message) (m : Message) (now : List Instance) → r ≡ Err m → now ≡ [] → after ≡ before → new ≡ old
      → Stepped (keeps file (session_in e.kept) r) e m now before after old new
  unkept_step r m now err none same still =
      subst (λ (r : Result Bytes Message). Stepped (keeps file (session_in e.kept) r) e m now before after old new) (sym err)
      (subst (λ (rs : List Reply). Stepped (Tells (says (session_in e.kept) m)) e m now before rs old new) (sym same)
      (subst (λ (s : ShelfState). Stepped (Tells (says (session_in e.kept) m)) e m now before before old s) (sym still)
      (told_step e (says (session_in e.kept) m) m now (said e.kept (session_in e.kept) m now refl none) before old)))

  pub kept_cut : (spec : Spec) (bytes : Bytes) (r : Result Bytes Message) (now : List Instance) → r ≡ Ok bytes → now ≡ [] → after ≡ before → IsUnanswered old new
      → Interrupted spec (keeps file (session_in e.kept) r) now before after old new
  kept_cut spec bytes r now ok none same un =
      subst (λ (r : Result Bytes Message). Interrupted spec (keeps file (session_in e.kept) r) now before after old new) (sym ok)
      (asked_cut spec (Keep file bytes) (λ reply. says (session_in e.kept) (said_of_keep reply)) now before after old new none same un)

  -- the answers of a keep, and of a refusal to keep
  pub kept_steps : {E : Type 0} (bytes : Bytes) (r : Result Bytes Message) (res : Result Message E) → r ≡ Ok bytes → IfOk res (λ m. Answered (Keep file bytes) said_of_keep m before after old new)
      → IfOk res (λ m. Stepped (keeps file (session_in e.kept) r) e m [] before after old new)
  kept_steps bytes r (Ok m) ok a = kept_step bytes r m [] ok refl a
  kept_steps bytes r (Err x) ok a = tt

  pub kept_cuts : {E : Type 0} (spec : Spec) (bytes : Bytes) (r : Result Bytes Message) (res : Result Message E) → r ≡ Ok bytes → OnErr res (after ≡ before) → OnErr res (IsUnanswered old new)
      → OnErr res (Interrupted spec (keeps file (session_in e.kept) r) [] before after old new)
  kept_cuts spec bytes r (Ok m) ok same un = tt
  kept_cuts spec bytes r (Err x) ok same un = kept_cut spec bytes r [] ok refl same un

-- the answers of a load, behind its reply
module _ {E : Type 0} (spec : Spec) (e : Editing) (request : Request) (next : Reply → Step) (reply : Reply) (now : List Instance) (before after : List Reply) (old new : ShelfState) (res : Result Message E)
    (replies : after ≡ before ++ reply ∷ []) (replied : Replied request reply old new) where
  pub asked_steps : IfOk res (λ m. Took (next reply) e.kept m now) → IfOk res (λ m. Stepped (Asks request next) e m now before after old new)
  asked_steps = by res
    where
      by : (res : Result Message E) → IfOk res (λ m. Took (next reply) e.kept m now) → IfOk res (λ m. Stepped (Asks request next) e m now before after old new)
      by (Ok m) took = asked_step e request next reply m now before after old new took replies replied
      by (Err x) took = tt

  pub replied_cuts : OnErr res (AreSome spec (next reply) now) → OnErr res (Interrupted spec (Asks request next) now before after old new)
  replied_cuts = by res
    where
      by : (res : Result Message E) → OnErr res (AreSome spec (next reply) now) → OnErr res (Interrupted spec (Asks request next) now before after old new)
      by (Ok m) some = tt
      by (Err x) some = replied_cut spec request next reply now before after old new some replies replied
