-- What a command did: the step that was taken, the replies of the shelf, and what was evaluated.
use Rattle.std.specs.Prelude.{◌≡◌, ◌⊎◌, ◌≤◌, ◌++◌, Bool, true, false, List, [], ◌∷◌, length, Contains, IsTrue, MatchOption}
use Rattle.sg_kinds.specs.Places.{Place}
use Rattle.sg_kinds.specs.Nets.{Reference}
use Rattle.sg_kinds.specs.declared.spec.Spec.{Spec}
use Rattle.sg_eval.specs.declared.journal.Instance.{Instance}
use Rattle.sg_terms.specs.Entries.{GainedAll}
use Rattle.sg_exchanges.specs.Noted.{Noted}
use Rattle.sg_buffer.specs.Held.{term_in}
use Rattle.sg_outside.specs.Shelf.{ShelfState}
use Rattle.sg_replies.specs.Calls.{Replied, Unanswered, Served, ServedOrOneMore}
use Rattle.sg_replies.specs.Requests.{Request, fits}
use Rattle.sg_replies.specs.declared.reply.Reply.{Reply}
use Rattle.sg_script.specs.declared.command.Command.{Command}
use Rattle.sg_script.specs.declared.command.Command.TheVariants as command
use Rattle.sg_script.specs.declared.message.Message.{Message}
use Rattle.sg_commands.specs.Did.{NotedOf, turn_of}
use Rattle.sg_editor.specs.Session.{current_of}
use Rattle.sg_editor.specs.Ask.{Ask, Readers, Step, Tells, Asks}
use Rattle.sg_editor.specs.Editing.{Editing, Kept, session_in, session_of, current_in}

-- the request of a command, if it has one
abbrev pub requests_of : Ask → List Request
requests_of (Tells step) = []
requests_of (Asks request next) = request ∷ []

-- a command comes to a step by these replies
abbrev pub Comes : Ask → List Reply → Step → Type 0
Comes (Tells told) got step = (got ≡ []) × (step ≡ told)
Comes (Asks request next) got step =
    (reply : Reply) × (got ≡ reply ∷ []) × IsTrue (fits request reply) × (step ≡ next reply)

-- the entries of these references, each once, at the nodes of the current buffer
abbrev pub AreNoted : Kept → List (Reference Place) → List Instance → Type 0
AreNoted k set now = MatchOption (current_in k) (now ≡ [])
    (λ b. GainedAll b.buffer.grove b.buffer.root (term_in b.buffer) (Contains set) [] now)

-- a step was taken: what is kept stands for its session, this was said, and these are the entries of its set
pub record Took (step : Step) (k : Kept) (said : Message) (now : List Instance) : Type 0 where
  pub session : session_in k ≡ step.session
  pub message : said ≡ step.message
  pub counted : length now ≡ length step.set
  pub noted : AreNoted k step.set now

-- the entries of some references of a step, none twice, at the nodes of some tree of its current term
pub record AreSome (spec : Spec) (step : Step) (now : List Instance) : Type 0 where
  pub few : length now ≤ length step.set
  pub noted : MatchOption (current_of step.session) (now ≡ []) (λ b. Noted spec b.1.term (Contains step.set) [] now)

-- whether a command is done in the current buffer
abbrev pub is_turn : Command → Bool
is_turn (command.New name) = false
is_turn (command.Load name file) = false
is_turn (command.Switch name) = false
is_turn command.Show = false
is_turn (command.Save file) = false
is_turn (command.SaveText file) = false
is_turn c = true

-- without memory for it nothing was noted, or some of what it evaluates, at the nodes of the buffer's tree and, where a
-- subterm comes, at those of the tree that comes
abbrev pub NotedHere : Readers → Kept → Command → List Instance → Type 0
NotedHere r k c now = MatchOption (current_in k) (now ≡ []) (λ b. (now ≡ []) ⊎ NotedOf b.buffer.grove.spec b.buffer
    (turn_of b.buffer r.text k.clip c).state (turn_of b.buffer r.text k.clip c).set [] now)

-- a request was replied to, the reply came behind the others, and this is said of it
pub record Answered (request : Request) (said_of : Reply → Message) (said : Message) (before after : List Reply)
    (old new : ShelfState) : Type 0 where
  pub reply : Reply
  pub replies : after ≡ before ++ reply ∷ []
  pub replied : Replied request reply old new
  pub message : said ≡ said_of reply

-- the shelf is as it was, or was called and had no memory
abbrev pub IsUnanswered : ShelfState → ShelfState → Type 0
IsUnanswered old new = (new ≡ old) ⊎ Unanswered old new

-- a command was cut short behind these replies: nothing was asked yet, or a part of the step's set was evaluated
abbrev pub IsCutShort : Spec → Ask → List Reply → List Instance → Type 0
IsCutShort spec (Tells told) got now = (got ≡ []) × AreSome spec told now
IsCutShort spec (Asks request next) got now = ((got ≡ []) × (now ≡ []))
    ⊎ ((reply : Reply) × (got ≡ reply ∷ []) × IsTrue (fits request reply) × AreSome spec (next reply) now)

-- a command was done: the replies behind those before it, the step by them, which the editor has taken, what was said,
-- the entries of what was evaluated, and what the shelf did
pub record Stepped (asked : Ask) (e : Editing) (said : Message) (now : List Instance) (before after : List Reply)
    (old new : ShelfState) : Type 0 where
  pub got : List Reply
  pub step : Step
  pub replies : after ≡ before ++ got
  pub comes : Comes asked got step
  pub session : session_of e ≡ step.session
  pub message : said ≡ step.message
  pub counted : length now ≡ length step.set
  pub noted : AreNoted e.kept step.set now
  pub served : Served old (requests_of asked) got new

-- there was no memory for it: the shelf may have been called without a reply
pub record Interrupted (spec : Spec) (asked : Ask) (now : List Instance) (before after : List Reply)
    (old new : ShelfState) : Type 0 where
  pub got : List Reply
  pub replies : after ≡ before ++ got
  pub cut : IsCutShort spec asked got now
  pub served : ServedOrOneMore old (requests_of asked) got new
