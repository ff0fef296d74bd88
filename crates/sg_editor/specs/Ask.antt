-- One command of a session: what it says and leaves, or what it first asks of the shelf.
use Rattle.std.specs.Prelude.{ℕ, suc, Bool, true, false, nat_lt, nat_le, if◌then◌else◌, List, [], length, slice_get, Option, Some, None, is_some, Result, Ok, Err}
use Rattle.std.specs.Option.{option_map_or}
use Rattle.sg_kinds.specs.Values.{Bytes}
use Rattle.sg_kinds.specs.Terms.{Term}
use Rattle.sg_kinds.specs.Places.{Place}
use Rattle.sg_kinds.specs.Nets.{Reference}
use Rattle.sg_kinds.specs.Completing.{completing}
use Rattle.sg_kinds.specs.Instances.{instances}
use Rattle.sg_kinds.specs.Plain.{plain}
use Rattle.sg_kinds.specs.Specification.{rules_of}
use Rattle.sg_kinds.specs.ValueOf.{value_of}
use Rattle.sg_kinds.specs.declared.spec.Spec.{Spec}
use Rattle.sg_replies.specs.Requests.{Request, Fetch, Keep}
use Rattle.sg_replies.specs.declared.reply.Reply.{Reply}
use Rattle.sg_replies.specs.declared.reply.Reply.TheVariants as reply
use Rattle.sg_script.specs.declared.command.Command.{Command}
use Rattle.sg_script.specs.declared.command.Command.TheVariants as command
use Rattle.sg_script.specs.declared.message.Message.{Message}
use Rattle.sg_script.specs.declared.message.Message.TheVariants as message
use Rattle.sg_unparse.specs.Cells.{Mark}
use Rattle.sg_unparse.specs.Sheet.{Sheet}
use Rattle.sg_unparse.specs.Page.{cells_of, is_cut, bytes_of}
use Rattle.sg_states.specs.Seen.{nothing_typed, marks_seen}
use Rattle.sg_states.specs.States.{State}
use Rattle.sg_saved.specs.Read.{Opened, FormAt, PhylumAt, TooLarge, Holds, IsOpened}
use Rattle.sg_saved.specs.Spelling.{saved}
use Rattle.sg_commands.specs.Turn.{Reads, AreReads, Turn}
use Rattle.sg_commands.specs.Turns.{turn}
use Rattle.sg_editor.specs.Session.{Session, buffer_named, current_of, with_buffer, with_state, with_load}

-- how the entries of a language read texts, and how files are read
pub record Readers : Type 0 where
  pub text : Reads
  pub file : Bytes → Opened

-- they read each text and each file as it is
abbrev pub AreReaders : Spec → Readers → Type 0
AreReaders spec r = AreReads spec r.text × ((b : Bytes) → IsOpened spec b (r.file b))

-- what a command leaves and says, and what it evaluates, each reference once
pub record Step : Type 0 where
  pub session : Session
  pub message : Message
  pub set : List (Reference Place)

-- a step, or a request to the shelf and the step by its reply
pub data Ask : Type 0 where
  Tells : Step → Ask
  Asks : Request → (Reply → Step) → Ask

-- nothing is evaluated, and this is said
abbrev pub says : Session → Message → Step
says s m = record { session = s; message = m; set = [] }

-- why there can be no new buffer of a name, and why none can be loaded
abbrev pub most_buffers : ℕ
most_buffers = 64

abbrev pub most_loads : ℕ
most_loads = 64

abbrev pub taken : Bytes → Session → Option Message
taken name s =
    if is_some (buffer_named name s) then Some message.NameInUse
    else (if nat_le most_buffers (length s.buffers) then Some message.TooManyBuffers else None)

abbrev pub barred_by : Session → Option Message → Option Message
barred_by s (Some m) = Some m
barred_by s None = if nat_le most_loads s.loads then Some message.TooManyFiles else None

abbrev pub barred : Bytes → Session → Option Message
barred name s = barred_by s (taken name s)

-- a file may have so many bytes; it is fetched to one byte more
abbrev pub longest_file : ℕ
longest_file = 4194304

-- of the current buffer, where no text is typed in it
abbrev pub resting : {A : Type 0} → Option (Bytes × State) → (State → Result A Message) → Result A Message
resting None make = Err message.NoBuffer
resting (Some b) make = if is_some b.1.capture then Err message.InText else make b.1

-- the bytes of a page, where it was not cut
abbrev pub page_text : List Mark → Result Bytes Message
page_text marks = if is_cut marks then Err message.Size else Ok (bytes_of (cells_of marks))

abbrev pub whole_text : Sheet → Result Bytes Message
whole_text page = if page.more then Err message.Size else Ok (bytes_of page.cells)

-- what is said of the reply to a request that keeps bytes, and bytes that are to be kept, or why there are none
abbrev pub said_of_keep : Reply → Message
said_of_keep reply.Kept = message.Fine
said_of_keep reply = message.WriteFault

abbrev pub keeps : Bytes → Session → Result Bytes Message → Ask
keeps file s (Err m) = Tells (says s m)
keeps file s (Ok bytes) = Asks (Keep file bytes) (λ reply. says s (said_of_keep reply))

module _ (spec : Spec) where
  -- a new buffer of a term, all of whose instances are evaluated
  abbrev pub opens : Bytes → Term → Session → Step
  opens name t s = record {
    session = with_buffer name t s;
    message = message.Fine;
    set = instances (rules_of spec) t;
  }

  abbrev pub news : Bytes → Session → Step
  news name s = option_map_or (says s) (taken name s) (opens name (completing spec spec.root) s)

  -- what is kept of the current buffer: its saved form, and its page
  abbrev pub saved_form : Session → Result Bytes Message
  saved_form s = resting (current_of s) (λ st. Ok (saved spec (value_of st.term)))

  abbrev pub saved_text : Session → Result Bytes Message
  saved_text s = resting (current_of s) (λ st. page_text (marks_seen spec st.spot.view st.term nothing_typed))

  -- a file that was fetched, opened
  abbrev pub opened : Bytes → Session → Opened → Step
  opened name s (FormAt k) = says s (message.FormAt k)
  opened name s (PhylumAt k) = says s message.Phylum
  opened name s (TooLarge nodes depth) = says s message.Size
  opened name s (Holds v) = opens name (plain spec v spec.root) s

-- what a turn makes of the buffer at a place, and of what was copied
abbrev pub turned_to : ℕ → Bytes → Session → Turn → Step
turned_to k name s t = record {
  session = record (with_state k name t.state s) { clip = t.clip };
  message = t.message;
  set = t.set;
}

-- another buffer becomes current
abbrev pub switches : Bytes → Session → Step
switches name s = option_map_or (λ k. says (record s { current = Some k }) message.Fine) (buffer_named name s) (says s message.NoBuffer)

abbrev pub shows : Session → Step
shows s = says s (if is_some (current_of s) then message.Fine else message.NoBuffer)

module _ (spec : Spec) (height : ℕ) (readers : Readers) where
  abbrev pub read_in : Bytes → Session → Bytes → Step
  read_in name s bytes =
      if nat_lt longest_file (length bytes) then says s message.LongFile else opened spec name s (readers.file bytes)

  -- the reply to the request of a load
  abbrev pub fetched : Bytes → Session → Reply → Step
  fetched name s (reply.Fetched bytes) = read_in name s bytes
  fetched name s reply = says s message.ReadFault

  abbrev pub loads : Bytes → Bytes → Session → Option Message → Ask
  loads name file s (Some m) = Tells (says s m)
  loads name file s None = Asks (Fetch file (suc longest_file)) (fetched name (with_load s))

  -- a command in the current buffer
  abbrev pub turned_at : Session → Command → ℕ → Option (Bytes × State) → Step
  turned_at s c k None = says s message.NoBuffer
  turned_at s c k (Some b) = turned_to k b.0 s (turn spec height readers.text s.clip b.1 c)

  abbrev pub in_current : Session → Command → Option ℕ → Step
  in_current s c None = says s message.NoBuffer
  in_current s c (Some k) = turned_at s c k (slice_get s.buffers k)

  -- the table of commands; those of files ask the shelf
  abbrev pub tells : Session → Command → Step
  tells s (command.New name) = news spec name s
  tells s (command.Switch name) = switches name s
  tells s command.Show = shows s
  tells s c = in_current s c s.current

  unfoldable pub ask : Session → Command → Ask
  ask s (command.Load name file) = loads name file s (barred name s)
  ask s (command.Save file) = keeps file s (saved_form spec s)
  ask s (command.SaveText file) = keeps file s (saved_text spec s)
  ask s c = Tells (tells s c)

-- whether a command never asks anything of the shelf
abbrev pub asks_nothing : Command → Bool
asks_nothing (command.Load name file) = false
asks_nothing (command.Save file) = false
asks_nothing (command.SaveText file) = false
asks_nothing c = true
