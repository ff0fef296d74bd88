-- A session whose lines are a script, as the run of that script
use Rattle.std.proofs.Common.{◌≡◌, ℕ, ◌+◌, List, [], ◌∷◌, ◌++◌, Ok, refl, sym, ap, subst, ◌∙◌, length, append-nil, append_assoc, length-append, arith}
use Rattle.std.proofs.lemmas.Grind.{flat_map-append}
use Rattle.std.specs.List.{flat_map}
use Rattle.std.specs.Str.Lines.{lines}
use Rattle.sg_replies.specs.declared.reply.Reply.{Reply}
use Rattle.sg_outside.specs.Shelf.{ShelfState}
use Rattle.sg_outside.proofs.Tally.{answered_by-zero}
use Rattle.sg_replies.specs.Calls.{Served}
use Rattle.sg_replies.specs.Requests.{Request}
use Rattle.sg_replies.proofs.Laws.{served_then}
use Rattle.sg_script.specs.declared.command.Command.{Command}
use Rattle.sg_script.specs.Script.{script_of, commands_in, commands_said, meaning_of}
use Rattle.sg_editor.specs.Ask.{Step, Ask}
use Rattle.sg_editor.specs.Ask.Ask.{Tells, Asks}
use Rattle.sg_editor.specs.Steps.{Comes, requests_of}
use Rattle.sg_editor.specs.Session.{Session}
use Rattle.sg_output.specs.Session.{Desk, asks, session}
use Rattle.sg_output.specs.Output.{Output, before as and_then, finished}
use Rattle.sg_output.proofs.Laws.{before-before, before_nothing, nothing}
use Rattle.sg_output.proofs.Turns.{one, turn_law}
use Rattle.sg_console.specs.Console.{Event}
use Rattle.sg_console.specs.Console.Event.{Took, Passed, Ended, Put}
use Rattle.sg_live.specs.Outside.{AreRead}
use Rattle.sg_live.specs.Turns.{AreTurns, none, more, IsTurn, silent, refused, passed, offered, done, unseen, unread, undone}
use Rattle.sg_live.specs.Laws.{AreBlocks, AreBlocksOf, pieces_in}
use Rattle.sg_live.proofs.Scripts.{commands_of}
use Rattle.sg_live.proofs.Whole.{taken_in, AreWhole, all_lines}

-- the commands of the lines that were read
abbrev commands_taken : List Event → List Command
commands_taken events = flat_map (λ line. commands_in (lines line)) (taken_in events)

-- events as what a session tells by these commands and replies
record Ran (d : Desk) (s t : Session) (at to : ShelfState) (commands : List Command) (replies : List Reply) (events : List Event) : Type 0 where
  told : Output
  answered : length told.requests ≡ length replies
  served : Served at told.requests replies to
  law : (cs : List Command) (rs : List Reply) → session d s (commands ++ cs) (replies ++ rs) ≡ and_then told (session d t cs rs)
  blocks : told.blocks ≡ pieces_in events

record IsRan (d : Desk) (s t : Session) (at to : ShelfState) (events : List Event) : Type 0 where
  commands : List Command
  replies : List Reply
  ran : Ran d s t at to commands replies events
  taken : commands ≡ commands_taken events
  whole : AreWhole events

pieces_in-append : (es fs : List Event) → pieces_in (es ++ fs) ≡ pieces_in es ++ pieces_in fs
pieces_in-append [] fs = refl
pieces_in-append (Took line ∷ es) fs = pieces_in-append es fs
pieces_in-append (Passed ∷ es) fs = pieces_in-append es fs
pieces_in-append (Ended ∷ es) fs = pieces_in-append es fs
pieces_in-append (Put piece ∷ es) fs = ap (λ l. piece ∷ l) (pieces_in-append es fs)

taken_in-append : (es fs : List Event) → taken_in (es ++ fs) ≡ taken_in es ++ taken_in fs
taken_in-append [] fs = refl
taken_in-append (Took line ∷ es) fs = ap (λ l. line ∷ l) (taken_in-append es fs)
taken_in-append (Passed ∷ es) fs = taken_in-append es fs
taken_in-append (Ended ∷ es) fs = taken_in-append es fs
taken_in-append (Put piece ∷ es) fs = taken_in-append es fs

AreWhole-append : (es fs : List Event) → AreWhole es → AreWhole fs → AreWhole (es ++ fs)
AreWhole-append [] fs h k = k
AreWhole-append (Took line ∷ es) fs h k = AreWhole-append es fs h k
AreWhole-append (Passed ∷ es) fs h k = absurd h
AreWhole-append (Ended ∷ es) fs h k = AreWhole-append es fs h k
AreWhole-append (Put piece ∷ es) fs h k = AreWhole-append es fs h k

-- both parts
AreBlocks-parts : (es fs : List Event) → AreBlocks (es ++ fs) → AreBlocks es × AreBlocks fs
AreBlocks-parts [] fs h = (tt, h)
AreBlocks-parts (Took line ∷ es) fs h = AreBlocks-parts es fs h
AreBlocks-parts (Passed ∷ es) fs h = AreBlocks-parts es fs h
AreBlocks-parts (Ended ∷ es) fs h = AreBlocks-parts es fs h
AreBlocks-parts (Put piece ∷ es) fs h = let p = AreBlocks-parts es fs h.1 in ((h.0, p.0), p.1)

commands_taken-append : (es fs : List Event) → commands_taken (es ++ fs) ≡ commands_taken es ++ commands_taken fs
commands_taken-append es fs =
    ap (flat_map (λ line. commands_in (lines line))) (taken_in-append es fs) ∙ flat_map-append (λ line. commands_in (lines line)) (taken_in es) (taken_in fs)

served_none : (at : ShelfState) → Served at [] [] at
served_none at = record { files = refl; faults = omega arith; later = omega arith; calls = sym (answered_by-zero at.calls) }

comes_length : (a : Ask) (got : List Reply) (step : Step) → Comes a got step → length (requests_of a) ≡ length got
comes_length (Tells told) got step (empty, is) = ap length (sym empty)
comes_length (Asks request answer) got step (reply, one_reply, kind, is) = ap length (sym one_reply)

ran_none : (d : Desk) (s : Session) (at : ShelfState) → IsRan d s s at at []
ran_none d s at = record {
  commands = [];
  replies = [];
  ran = record { told = nothing; answered = refl; served = served_none at; law = λ cs rs. sym (before_nothing (session d s cs rs)); blocks = refl };
  taken = refl;
  whole = tt;
}

ran_then : (d : Desk) (s t u : Session) (at by to : ShelfState) (es fs : List Event) → IsRan d s t at by es → IsRan d t u by to fs → IsRan d s u at to (es ++ fs)
ran_then d s t u at by to es fs a b = record {
  commands = a.commands ++ b.commands;
  replies = a.replies ++ b.replies;
  ran = record {
    told = and_then a.ran.told b.ran.told;
    answered = length-append a.ran.told.requests b.ran.told.requests ∙ ap (λ (n : ℕ). n + length b.ran.told.requests) a.ran.answered ∙ ap (λ (n : ℕ). length a.replies + n) b.ran.answered ∙ sym (length-append a.replies b.replies);
    served = served_then at by to a.ran.told.requests b.ran.told.requests a.replies b.replies a.ran.answered a.ran.served b.ran.served;
    law = λ cs rs.
        ap (λ (l : List Command). session d s l ((a.replies ++ b.replies) ++ rs)) (append_assoc a.commands b.commands cs)
        ∙ ap (λ (l : List Reply). session d s (a.commands ++ (b.commands ++ cs)) l) (append_assoc a.replies b.replies rs)
        ∙ a.ran.law (b.commands ++ cs) (b.replies ++ rs)
        ∙ ap (λ (x : Output). and_then a.ran.told x) (b.ran.law cs rs)
        ∙ before-before a.ran.told b.ran.told (session d u cs rs);
    blocks = ap (λ l. l ++ b.ran.told.blocks) a.ran.blocks ∙ ap (λ l. pieces_in es ++ l) b.ran.blocks ∙ sym (pieces_in-append es fs);
  };
  taken = ap (λ (l : List Command). l ++ b.commands) a.taken ∙ ap (λ (l : List Command). commands_taken es ++ l) b.taken ∙ sym (commands_taken-append es fs);
  whole = AreWhole-append es fs a.whole b.whole;
}

-- one line
ran_turn : (d : Desk) (s : Session) (at : ShelfState) (e : Event) (t : Session) (to : ShelfState) (said : List Event) (n : ℕ) → IsTurn d s at e t to said n → AreBlocks said → IsRan d s t at to (e ∷ said)
ran_turn d s at e t to said n (silent line empty) blocks = record {
  commands = [];
  replies = [];
  ran = record { told = nothing; answered = refl; served = served_none at; law = λ cs rs. sym (before_nothing (session d s cs rs)); blocks = refl };
  taken = sym (append-nil (commands_in (lines line)) ∙ commands_of line [] empty);
  whole = tt;
}
ran_turn d s at e t to said n (refused line f other fault) blocks = absurd (blocks.0 refl)
ran_turn d s at e t to said n passed blocks = absurd (blocks.0 refl)
ran_turn d s at e t to said n (offered line asked) blocks = absurd (blocks.0 refl)
ran_turn d s at e t to said n (done line c got step there spelled comes served) blocks = record {
  commands = c ∷ [];
  replies = got;
  ran = record { told = one d (asks d s c) got step; answered = comes_length (asks d s c) got step comes; served = served; law = λ cs rs. turn_law d (λ after others. session d after cs others) (asks d s c) got step comes rs; blocks = refl };
  taken = sym (append-nil (commands_in (lines line)) ∙ commands_of line (c ∷ []) spelled);
  whole = tt;
}
ran_turn d s at e t to said n (unseen line c got step there spelled comes served) blocks = absurd (blocks.0 refl)
ran_turn d s at e t to said n (unread line) blocks = absurd (blocks.0 refl)
ran_turn d s at e t to said n (undone line c got now there spelled cut served) blocks = absurd (blocks.0 refl)

ran_of : (d : Desk) (s : Session) (at : ShelfState) (k : ℕ) (t : Session) (to : ShelfState) (events : List Event) (n : ℕ) → AreTurns d s at k t to events n → AreBlocks events → IsRan d s t at to events
ran_of d s at k t to events n none blocks = ran_none d s at
ran_of d s at k t to events n (more i u v by there before after e x y first last) blocks =
    let parts = AreBlocks-parts before (e ∷ after) blocks in
    ran_then d s u v at by there before (e ∷ after) (ran_of d s at i u by before x first parts.0) (ran_turn d u by e v there after y last (said_blocks e after parts.1))
  where
    said_blocks : (e : Event) (after : List Event) → AreBlocks (e ∷ after) → AreBlocks after
    said_blocks (Took line) after h = h
    said_blocks Passed after h = h
    said_blocks Ended after h = h
    said_blocks (Put piece) after h = h.1

-- what was read before the end
before_end : (events : List Event) (input left : List ℕ) → AreRead input (events ++ Ended ∷ []) left → AreRead input events []
before_end [] input left h = sym h.0
before_end (Took line ∷ es) input left h = (h.0, before_end es _ left h.1)
before_end (Passed ∷ es) input left h = (h.0, before_end es _ left h.1)
before_end (Ended ∷ es) input left h = (h.0, before_end es input left h.1)
before_end (Put piece ∷ es) input left h = before_end es input left h

flat_flat : (ls : List (List ℕ)) → flat_map (λ line. commands_in (lines line)) ls ≡ commands_in (flat_map lines ls)
flat_flat [] = refl
flat_flat (l ∷ ls) =
    ap (λ (m : List Command). commands_in (lines l) ++ m) (flat_flat ls) ∙ sym (flat_map-append (λ line. commands_said (meaning_of line)) (lines l) (flat_map lines ls))

pub blocks_of_run : (d : Desk) (s : Session) (at : ShelfState) (k : ℕ) (t : Session) (to : ShelfState) (events : List Event) (n : ℕ) (input left : List ℕ) (commands : List Command)
    → AreTurns d s at k t to events n → AreRead input (events ++ Ended ∷ []) left → script_of input ≡ Ok commands → AreBlocks events → AreBlocksOf d s at commands (pieces_in events) to
blocks_of_run d s at k t to events n input left commands turns read spelled blocks =
    let r = ran_of d s at k t to events n turns blocks in
    let same : r.commands ≡ commands =
    r.taken ∙ flat_flat (taken_in events) ∙ ap commands_in (all_lines events input (before_end events input left read) r.whole) ∙ commands_of input commands spelled in
    let all : session d s commands r.replies ≡ and_then r.ran.told finished =
    ap (λ (l : List Command). session d s l r.replies) (sym same ∙ sym (append-nil r.commands)) ∙ ap (λ (l : List Reply). session d s (r.commands ++ []) l) (sym (append-nil r.replies)) ∙ r.ran.law [] [] in
    record {
      replies = r.replies;
      served = subst (λ (qs : List Request). Served at qs r.replies to) (sym (ap (λ (x : Output). x.requests) all ∙ append-nil r.ran.told.requests)) r.ran.served;
      blocks = ap (λ (x : Output). x.blocks) all ∙ append-nil r.ran.told.blocks ∙ r.ran.blocks;
      status = ap (λ (x : Output). x.status) all;
    }
