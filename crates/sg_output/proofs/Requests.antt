-- One part of a run after another, and a request to the shelf within a run
use Rattle.std.proofs.Common.{◌≡◌, ℕ, List, [], ◌∷◌, ◌++◌, length, Bool, Option, ◌≤◌, inl, inr, refl, sym, ap, ◌∙◌, subst, arith, if◌then◌else◌, append-nil, append_assoc, length-append}
use Rattle.sg_outside.specs.Count.{Calls, unanswered_once}
use Rattle.sg_outside.proofs.Tally.{answered_by-zero, tallied-zero}
use Rattle.sg_replies.specs.declared.reply.Reply.{Reply}
use Rattle.sg_replies.specs.Requests.{Request}
use Rattle.sg_outside.specs.Shelf.{ShelfState}
use Rattle.sg_replies.specs.Calls.{Replied, Unanswered}
use Rattle.sg_replies.specs.Counts.{CallsOrOneMore}
use Rattle.sg_replies.proofs.Laws.{served_one, none_or_one_more, unanswered_one_more}
use Rattle.sg_output.specs.declared.status.Status.{Status}
use Rattle.sg_output.specs.declared.status.Status.TheVariants.{Memory}
use Rattle.sg_output.specs.Output.{Output, before, unfinished, taking, asked}
use Rattle.sg_output.specs.Opening.{IsFetched}
use Rattle.sg_outside.specs.Sink.{SinkState}
use Rattle.sg_output.specs.World.{World, world}
use Rattle.sg_output.specs.Ran.{Ends, NonePast, Ran}
use Rattle.sg_output.specs.Parts.{Passed, Played}
use Rattle.sg_output.proofs.Laws.{appended-nil, goes_on, goes_and_ends, wrote_counted_after, before-before, before_nothing, nothing}
use Rattle.sg_output.proofs.Past.{past_nothing, past_one, past_after, calls_after, stopped_as}
use Rattle.sg_output.proofs.Endings.{ends_memory}

-- no reply
played_unanswered : (f : List Reply → Output) (rb ra : List Reply) (status : Status) (old new : World) → ra ≡ rb → Ends old (f []) [] status new
    → ((k : ℕ) → CallsOrOneMore (length (f []).blocks ≤ k) 0 old.shelf.calls new.shelf.calls) → Played f rb ra status old new
played_unanswered f rb ra status old new none e calls = record {
  got = [];
  replies = none ∙ sym (append-nil rb);
  ends = e;
  stopped = λ is. record { counted = e.cut is; none_past = past_nothing (e.cut is).k f; calls = calls (e.cut is).k };
}

-- no reply, and no call
pub played_nothing : (f : List Reply → Output) (rb ra : List Reply) (status : Status) (old new : World) → ra ≡ rb → Ends old (f []) [] status new → new.shelf ≡ old.shelf
    → Played f rb ra status old new
played_nothing f rb ra status old new none e same =
    played_unanswered f rb ra status old new none e (λ k. inl (ap (λ (s : ShelfState). s.calls) same ∙ sym (answered_by-zero old.shelf.calls)))

pub played_at : (f : List Reply → Output) (rs : List Reply) (status : Status) (old new : World) → Ends old (f []) [] status new → new.shelf ≡ old.shelf → Played f rs rs status old new
played_at f rs status old new e same = played_nothing f rs rs status old new refl e same

-- the run goes on as next, and ends there
pub played_after : (f next : List Reply → Output) (rb rm ra : List Reply) (old between new : World) (status : Status)
    → Passed f next rb rm old between → Played next rm ra status between new → Played f rb ra status old new
played_after f next rb rm ra old between new status p q = record {
  got = p.got ++ q.got;
  replies = q.replies ∙ ap (λ (rs : List Reply). rs ++ q.got) p.replies ∙ append_assoc rb p.got q.got;
  ends = let ends = goes_and_ends old between new p.so_far (next q.got) p.got q.got status p.goes q.ends in
      subst (λ (t : Output). Ends old t (p.got ++ q.got) status new) (sym (p.law q.got)) ends;
  stopped = λ is.
      let s = q.stopped is in
      let w = wrote_counted_after old between new p.so_far (next q.got) p.got status p.goes s.counted in
      stopped_as status old new (before p.so_far (next q.got)) f (p.got ++ q.got) (p.law q.got) w.0
      (subst (λ (k : ℕ). NonePast k f (p.got ++ q.got)) (sym w.1) (past_after f next p.so_far s.counted.k p.got q.got p.none_past p.law s.none_past))
      (subst (λ (k : ℕ). CallsOrOneMore (length (before p.so_far (next q.got)).blocks ≤ k) (length (p.got ++ q.got)) old.shelf.calls new.shelf.calls) (sym w.1)
      (calls_after old between new p.so_far (next q.got) s.counted.k p.got q.got p.goes.served.calls s.calls));
}

-- the run goes on as g, and then as h
pub passed_after : (f g h : List Reply → Output) (rb rm ra : List Reply) (old between new : World)
    → Passed f g rb rm old between → Passed g h rm ra between new → Passed f h rb ra old new
passed_after f g h rb rm ra old between new p q = record {
  got = p.got ++ q.got;
  so_far = before p.so_far q.so_far;
  replies = q.replies ∙ ap (λ (rs : List Reply). rs ++ q.got) p.replies ∙ append_assoc rb p.got q.got;
  goes = goes_on old between new p.so_far q.so_far p.got q.got p.goes q.goes;
  law = λ more. ap f (append_assoc p.got q.got more) ∙ p.law (q.got ++ more) ∙ ap (λ (v : Output). before p.so_far v) (q.law more) ∙ before-before p.so_far q.so_far (h more);
  none_past = subst (λ (k : ℕ). NonePast k f (p.got ++ q.got)) (sym (length-append p.so_far.blocks q.so_far.blocks))
      (past_after f g p.so_far (length q.so_far.blocks) p.got q.got p.none_past p.law q.none_past);
}

-- nothing has happened yet
pub passed_start : (f : List Reply → Output) (rs : List Reply) (w : World) → Passed f f rs rs w w
passed_start f rs w = record {
  got = [];
  so_far = nothing;
  replies = sym (append-nil rs);
  goes = record {
    output = sym (appended-nil w.sink.written);
    puts = sym (tallied-zero w.sink.puts);
    evaluated = omega arith;
    each = refl;
    taken = refl;
    answered = refl;
    served = record { files = refl; faults = omega arith; later = omega arith; calls = sym (answered_by-zero w.shelf.calls) };
    sink_later = omega arith;
  };
  law = λ more. sym (before_nothing (f more));
  none_past = past_nothing (length nothing.blocks) f;
}

-- the shelf replied
pub passed_reply : (q : Request) (next : Reply → List Reply → Output) (reply : Reply) (rb ra : List Reply) (shelf shelf' : ShelfState) (sink : SinkState) (n : ℕ)
    → Replied q reply shelf shelf' → ra ≡ rb ++ reply ∷ [] → Passed (asked q next) (next reply) rb ra (world shelf sink n) (world shelf' sink n)
passed_reply q next reply rb ra shelf shelf' sink n r e = record {
  got = reply ∷ [];
  so_far = taking q;
  replies = e;
  goes = record {
    output = sym (appended-nil sink.written);
    puts = sym (tallied-zero sink.puts);
    evaluated = omega arith;
    each = refl;
    taken = refl;
    answered = refl;
    served = served_one q reply shelf shelf' r;
    sink_later = omega arith;
  };
  law = λ more. ap (λ (b : Bool). if b then before (taking q) (next reply more) else unfinished q) r.kind;
  none_past = past_one (length (taking q).blocks) (asked q next) reply (omega arith);
}

-- the shelf had no memory
pub no_reply : (q : Request) (next : Reply → List Reply → Output) (rb ra : List Reply) (shelf shelf' : ShelfState) (sink : SinkState) (n : ℕ)
    → ra ≡ rb → Unanswered shelf shelf' → Played (asked q next) rb ra Memory (world shelf sink n) (world shelf' sink n)
no_reply q next rb ra shelf shelf' sink n e u =
    played_unanswered (asked q next) rb ra Memory (world shelf sink n) (world shelf' sink n) e
    (ends_memory shelf shelf' sink n n (unfinished q) [] refl (unanswered_one_more q shelf shelf' u) (omega arith) (omega arith))
    (λ k. inr (omega arith, u.calls ∙ ap (λ (c : Option Calls). unanswered_once c) (sym (answered_by-zero shelf.calls))))

-- there was no memory to ask
pub not_asked : (q : Request) (next : Reply → List Reply → Output) (rb ra : List Reply) (shelf : ShelfState) (sink : SinkState) (n : ℕ) → ra ≡ rb
    → Played (asked q next) rb ra Memory (world shelf sink n) (world shelf sink n)
not_asked q next rb ra shelf sink n e =
    played_nothing (asked q next) rb ra Memory (world shelf sink n) (world shelf sink n) e
    (ends_memory shelf shelf sink n n (unfinished q) [] refl (none_or_one_more (q ∷ []) shelf (omega arith)) (omega arith) (omega arith)) refl

-- the one reply more to the fetch of a file, and what follows it
pub passed_fetched : (q : Request) (next : Reply → List Reply → Output) (rb ra : List Reply) (shelf shelf' : ShelfState) (sink sink' : SinkState) (n : ℕ) (f : IsFetched q rb ra shelf shelf')
    → sink' ≡ sink → Passed (asked q next) (next f.reply) rb ra (world shelf sink n) (world shelf' sink' n)
passed_fetched q next rb ra shelf shelf' sink sink' n f same =
    subst (λ (s : SinkState). Passed (asked q next) (next f.reply) rb ra (world shelf sink n) (world shelf' s n)) (sym same)
    (passed_reply q next f.reply rb ra shelf shelf' sink n f.replied f.last)

pub played_fetched : (q : Request) (next : Reply → List Reply → Output) (rb ra : List Reply) (shelf shelf' : ShelfState) (old new : SinkState) (n m : ℕ) (status : Status)
    (f : IsFetched q rb ra shelf shelf') → Ends (world shelf' old n) (next f.reply []) [] status (world shelf' new m)
    → Played (asked q next) rb ra status (world shelf old n) (world shelf' new m)
played_fetched q next rb ra shelf shelf' old new n m status f ends =
    played_after (asked q next) (next f.reply) rb ra ra (world shelf old n) (world shelf' old n) (world shelf' new m) status
    (passed_fetched q next rb ra shelf shelf' old old n f refl)
    (played_at (next f.reply) ra status (world shelf' old n) (world shelf' new m) ends refl)

-- the same, with the status that it ended with; as what is told
pub played_as : (f : List Reply → Output) (rb ra : List Reply) (status other : Status) (old new : World) → other ≡ status → Played f rb ra status old new → Played f rb ra other old new
played_as f rb ra status other old new e p = subst (λ (s : Status). Played f rb ra s old new) (sym e) p

-- all replies
pub ran_whole : (f : List Reply → Output) (ra : List Reply) (status ended : Status) (old new : World) → Played f [] ra status old new → ended ≡ status → Ran f old ra ended new
ran_whole f ra status ended old new p is =
    let ran : Ran f old p.got status new = record { ends = p.ends; stopped = p.stopped } in
    subst (λ (s : Status). Ran f old ra s new) (sym is) (subst (λ (rs : List Reply). Ran f old rs status new) (sym p.replies) ran)

-- the same, after replies that are known
pub played_from : (f : List Reply → Output) (rb rs ra : List Reply) (status : Status) (old new : World) → rb ≡ rs → Played f rb ra status old new → Played f rs ra status old new
played_from f rb rs ra status old new e p = subst (λ (x : List Reply). Played f x ra status old new) e p
