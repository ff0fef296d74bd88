-- The commands of a session
use Rattle.std.proofs.Common.{◌≡◌, ◌≤◌, ◌<◌, ◌⊎◌, ℕ, ◌+◌, zero, suc, List, [], ◌∷◌, ◌++◌, length, take, drop, get_or, sum, None, Bool, refl, sym, ap, ◌∙◌, subst, arith, if◌then◌else◌, append-nil, inl, inr, add-one, drop-cons}
use Rattle.sg_outside.specs.Count.{Rose, tallied}
use Rattle.sg_outside.specs.Sink.{SinkState, CutShort, appended}
use Rattle.sg_replies.specs.declared.reply.Reply.{Reply}
use Rattle.sg_replies.specs.Requests.{Request}
use Rattle.sg_outside.specs.Shelf.{ShelfState}
use Rattle.sg_replies.specs.Calls.{Served, ServedOrOneMore}
use Rattle.sg_replies.specs.Counts.{CallsOrOneMore}
use Rattle.sg_replies.proofs.Laws.{none_or_one_more, served_then_or_one_more}
use Rattle.sg_script.specs.declared.command.Command.{Command}
use Rattle.sg_editor.specs.Session as editor
use Rattle.sg_editor.specs.Ask.{Step, Ask}
use Rattle.sg_editor.specs.Ask.Ask.{Tells, Asks}
use Rattle.sg_editor.specs.Editing.{Editing, session_of}
use Rattle.sg_editor.specs.Steps.{Comes, IsCutShort, Stepped, Interrupted, requests_of}
use Rattle.sg_eval.specs.declared.journal.Instance.{Instance}
use Rattle.sg_kinds.specs.declared.spec.Spec.{Spec}
use Rattle.sg_script.specs.declared.message.Message.{Message}
use Rattle.sg_editor.specs.Screen.{screen}
use Rattle.sg_output.specs.declared.status.Status.{Status}
use Rattle.sg_output.specs.declared.status.Status.TheVariants.{Done, Memory, SinkFault}
use Rattle.sg_output.specs.Statuses.{IsCut}
use Rattle.sg_output.specs.Opening.{IsQuiet}
use Rattle.sg_output.specs.Output.{Output, before, unfinished, taking}
use Rattle.sg_output.specs.Session.{Desk, telling, turn, asks, session}
use Rattle.sg_output.specs.World.{World, world}
use Rattle.sg_output.specs.Ran.{Ends, NonePast}
use Rattle.sg_output.specs.Parts.{Passed, Played}
use Rattle.sg_output.proofs.Endings.{one_block, nothing_first, refused_whole, first_front, ends_memory, ends_unput, ends_done}
use Rattle.sg_output.proofs.Past.{past_nothing, past_one, stopped_as}
use Rattle.sg_output.proofs.Requests.{played_after, played_at}

-- the block of a command
abbrev pub block_of : Desk → Step → List ℕ
block_of d step = screen d.spec d.width d.height step.session step.message (length step.set)

-- what one command tells
abbrev pub one : Desk → Ask → List Reply → Step → Output
one d a got out = record { blocks = block_of d out ∷ []; evs = length out.set ∷ []; status = None; requests = requests_of a; taken = length got }

-- without replies nothing is taken, and at most one reply is asked for
turn_quiet : (d : Desk) (next : editor.Session → List Reply → Output) (a : Ask) → ((s : editor.Session) → IsQuiet (next s [])) → IsQuiet (turn d next a [])
turn_quiet d next (Tells step) q = let e = q step.session in let taken = e.taken in let asked = e.asked in record { taken = omega (arith, taken); asked = asked }
turn_quiet d next (Asks request answer) q = record { taken = refl; asked = omega arith }

pub session_quiet : (d : Desk) (commands : List Command) (s : editor.Session) → IsQuiet (session d s commands [])
session_quiet d [] s = record { taken = refl; asked = omega arith }
session_quiet d (c ∷ commands) s = turn_quiet d (λ after more. session d after commands more) (asks d s c) (session_quiet d commands)

pub turn_law : (d : Desk) (next : editor.Session → List Reply → Output) (a : Ask) (got : List Reply) (out : Step) → Comes a got out → (more : List Reply)
    → turn d next a (got ++ more) ≡ before (one d a got out) (next out.session more)
turn_law d next (Tells step) got out (none, is) more =
    ap (λ (g : List Reply). turn d next (Tells step) (g ++ more)) none
    ∙ ap (λ (o : Step). before (telling d o) (next o.session more)) (sym is)
    ∙ ap (λ (g : List Reply). before (one d (Tells step) g out) (next out.session more)) (sym none)
turn_law d next (Asks request answer) got out (reply, is_reply, kind, is) more =
    ap (λ (g : List Reply). turn d next (Asks request answer) (g ++ more)) is_reply
    ∙ ap (λ (b : Bool). if b then before (taking request) (before (telling d (answer reply)) (next (answer reply).session more)) else unfinished request) kind
    ∙ ap (λ (o : Step). before (taking request) (before (telling d o) (next o.session more))) (sym is)
    ∙ same
    ∙ ap (λ (g : List Reply). before (one d (Asks request answer) g out) (next out.session more)) (sym is_reply)
  where
    same : before (taking request) (before (telling d out) (next out.session more)) ≡ before (one d (Asks request answer) (reply ∷ []) out) (next out.session more)
    same = let u : Output = next out.session more in
        let n : 1 + (0 + u.taken) ≡ length (reply ∷ []) + u.taken = omega arith in
        ap (λ (k : ℕ). record (before (telling d out) u) { requests = request ∷ u.requests; taken = k }) n

steps_length : (a : Ask) (got : List Reply) (out : Step) → Comes a got out → length (requests_of a) ≡ length got
steps_length (Tells step) got out (none, is) = ap length (sym none)
steps_length (Asks request answer) got out (reply, is_reply, kind, is) = ap length (sym is_reply)

-- the reply to a command's request comes before its block
comes_past : (d : Desk) (next : editor.Session → List Reply → Output) (a : Ask) (got : List Reply) (out : Step) (k : ℕ) → Comes a got out → NonePast k (turn d next a) got
comes_past d next (Tells step) got out k (none, is) = subst (λ (g : List Reply). NonePast k (turn d next (Tells step)) g) (sym none) (past_nothing k (turn d next (Tells step)))
comes_past d next (Asks request answer) got out k (reply, is_reply, kind, is) =
    subst (λ (g : List Reply). NonePast k (turn d next (Asks request answer)) g) (sym is_reply) (past_one k (turn d next (Asks request answer)) reply (omega arith))

-- the block that an editor shows is that of the step which it took
pub block_of_step : (spec : Spec) (w h : ℕ) (s t : editor.Session) (m n : Message) (ev count : ℕ) → s ≡ t → m ≡ n → ev ≡ count → screen spec w h s m ev ≡ screen spec w h t n count
block_of_step spec w h s t m n ev count a b c = λ i. screen spec w h (a i) (b i) (c i)

-- a command went through, and its block was put
pub command_passed : (d : Desk) (s : editor.Session) (c : Command) (e : Editing) (said : Message) (now : List Instance) (rb ra : List Reply) (shelf shelf' : ShelfState) (old new : SinkState) (n m : ℕ)
    → Stepped (asks d s c) e said now rb ra shelf shelf'
    → new.written ≡ appended old.written (screen d.spec d.width d.height (session_of e) said (length now)) → new.puts ≡ tallied 1 old.puts → old.faults ≤ new.faults → m ≡ n + length now
    → (commands : List Command) → Passed (session d s (c ∷ commands)) (session d (session_of e) commands) rb ra (world shelf old n) (world shelf' new m)
command_passed d s c e said now rb ra shelf shelf' old new n m stepped put puts later counts commands =
    let block : screen d.spec d.width d.height (session_of e) said (length now) ≡ block_of d stepped.step =
    block_of_step d.spec d.width d.height (session_of e) stepped.step.session said stepped.step.message (length now) (length stepped.step.set) stepped.session stepped.message stepped.counted in
    let many = stepped.counted in
    subst (λ (x : editor.Session). Passed (session d s (c ∷ commands)) (session d x commands) rb ra (world shelf old n) (world shelf' new m)) (sym stepped.session)
    (record {
      got = stepped.got;
      so_far = one d (asks d s c) stepped.got stepped.step;
      replies = stepped.replies;
      goes = record {
        output = one_block old.written new.written (block_of d stepped.step) (put ∙ ap (λ (b : List ℕ). appended old.written b) block);
        puts = puts;
        evaluated = omega (arith, counts, many);
        each = refl;
        taken = refl;
        answered = steps_length (asks d s c) stepped.got stepped.step stepped.comes;
        served = stepped.served;
        sink_later = later;
      };
      law = turn_law d (λ x more. session d x commands more) (asks d s c) stepped.got stepped.step stepped.comes;
      none_past = comes_past d (λ x more. session d x commands more) (asks d s c) stepped.got stepped.step 1 stepped.comes;
    })

-- a request more without a reply
served_more : (old new : ShelfState) (qs more : List Request) (rs : List Reply) → length qs ≡ length rs → length more ≤ 1 → Served old qs rs new → ServedOrOneMore old (qs ++ more) rs new
served_more old new qs more rs e le served =
    subst (λ (xs : List Reply). ServedOrOneMore old (qs ++ more) xs new) (append-nil rs)
    (served_then_or_one_more old new new qs more rs [] e served (none_or_one_more more new le))

-- as many replies as requests
served_exactly : (old new : ShelfState) (qs : List Request) (rs : List Reply) → length qs ≡ length rs → ServedOrOneMore old qs rs new → Served old qs rs new
served_exactly old new qs rs e served = record {
  files = served.files;
  faults = served.faults;
  later = served.later;
  calls = elim served.calls [
    | inl is ↦ is
    | inr more ↦ let one_more = more.0 in absurd (omega (arith, e, one_more))
  ];
}

-- a command went through, and its block was not put as a whole
pub command_unput : (d : Desk) (s : editor.Session) (c : Command) (e : Editing) (said : Message) (now : List Instance) (rb ra : List Reply) (shelf shelf' : ShelfState) (old new : SinkState) (n m : ℕ) (status : Status)
    → Stepped (asks d s c) e said now rb ra shelf shelf' → IsCut status
    → (status ≡ Memory → (new.written ≡ old.written) × ((new.puts ≡ old.puts) ⊎ (new.puts ≡ tallied 1 old.puts)))
    → (status ≡ SinkFault → CutShort old.written new.written (screen d.spec d.width d.height (session_of e) said (length now)) × (new.puts ≡ tallied 1 old.puts) × Rose old.faults new.faults)
    → old.faults ≤ new.faults → m ≡ n + length now
    → (commands : List Command) → Played (session d s (c ∷ commands)) rb ra status (world shelf old n) (world shelf' new m)
command_unput d s c e said now rb ra shelf shelf' old new n m status stepped is_cut memory fault later counts commands =
    let out : Step = stepped.step in
    let next : editor.Session → List Reply → Output = λ x more. session d x commands more in
    let u : Output = next out.session [] in
    let told : Output = before (one d (asks d s c) stepped.got out) u in
    let block : screen d.spec d.width d.height (session_of e) said (length now) ≡ block_of d out =
    block_of_step d.spec d.width d.height (session_of e) out.session said out.message (length now) (length out.set) stepped.session stepped.message stepped.counted in
    let law : turn d next (asks d s c) stepped.got ≡ told =
    ap (λ (g : List Reply). turn d next (asks d s c) g) (sym (append-nil stepped.got)) ∙ turn_law d next (asks d s c) stepped.got out stepped.comes [] in
    let quiet : IsQuiet u = session_quiet d commands out.session in
    let taken = quiet.taken in
    let many = stepped.counted in
    let long = steps_length (asks d s c) stepped.got out stepped.comes in
    let ends : Ends (world shelf old n) told stepped.got status (world shelf' new m) =
    ends_unput shelf shelf' old new n m (length out.set) told stepped.got status (block_of d out) u.blocks u.evs refl refl (omega (arith, taken))
    (served_more shelf shelf' (requests_of (asks d s c)) u.requests stepped.got long quiet.asked stepped.served) stepped.served.calls is_cut
    (λ is. elim (memory is).1 [
      | inl p ↦ nothing_first old new (block_of d out) u.blocks (memory is).0 p
      | inr p ↦ refused_whole old new (block_of d out) u.blocks (memory is).0 p
    ])
    (λ is. first_front old new (block_of d out) u.blocks (subst (λ (b : List ℕ). CutShort old.written new.written b) block (fault is).0) (fault is).1) (λ is. (fault is).2) later (omega (arith, counts, many)) in
    record {
      got = stepped.got;
      replies = stepped.replies;
      ends = subst (λ (t : Output). Ends (world shelf old n) t stepped.got status (world shelf' new m)) (sym law) ends;
      stopped = λ is. stopped_as status (world shelf old n) (world shelf' new m) told (turn d next (asks d s c)) stepped.got law (ends.cut is)
          (comes_past d next (asks d s c) stepped.got out (ends.cut is).k stepped.comes) (inl stepped.served.calls);
    }

-- what is left to tell where a command was cut short
record Short (shelf : ShelfState) (t : Output) (got : List Reply) (shelf' : ShelfState) (entries : ℕ) : Type 0 where
  taken : t.taken ≡ length got
  served : ServedOrOneMore shelf t.requests got shelf'
  most : entries ≤ sum (take 1 t.evs)

turn_short : (d : Desk) (next : editor.Session → List Reply → Output) (a : Ask) (got : List Reply) (now : List Instance) (shelf shelf' : ShelfState) → ((s : editor.Session) → IsQuiet (next s []))
    → IsCutShort d.spec a got now → ServedOrOneMore shelf (requests_of a) got shelf' → Short shelf (turn d next a got) got shelf' (length now)
turn_short d next (Tells step) got now shelf shelf' quiet (none, some) served =
    let q : IsQuiet (next step.session []) = quiet step.session in
    let taken = q.taken in
    let few = some.few in
    let P : List Reply → Type 0 = λ g. ServedOrOneMore shelf [] g shelf' → Short shelf (turn d next (Tells step) g) g shelf' (length now) in
    subst P (sym none) (λ h. record {
      taken = omega (arith, taken);
      served = served_more shelf shelf' [] (next step.session []).requests [] refl q.asked (served_exactly shelf shelf' [] [] refl h);
      most = omega (arith, few);
    }) served
turn_short d next (Asks request answer) got now shelf shelf' quiet (inl (none, nothing)) served =
    let P : List Reply → Type 0 = λ g. ServedOrOneMore shelf (request ∷ []) g shelf' → Short shelf (turn d next (Asks request answer) g) g shelf' (length now) in
    let few : length now ≡ 0 = ap length nothing in
    subst P (sym none) (λ h. record {
      taken = refl;
      served = h;
      most = omega (arith, few);
    }) served
turn_short d next (Asks request answer) got now shelf shelf' quiet (inr (reply, is_reply, kind, some)) served =
    let u : Output = next (answer reply).session [] in
    let q : IsQuiet u = quiet (answer reply).session in
    let taken = q.taken in
    let few = some.few in
    let P : List Reply → Type 0 = λ g. ServedOrOneMore shelf (request ∷ []) g shelf' → Short shelf (turn d next (Asks request answer) g) g shelf' (length now) in
    let Q : Bool → Type 0 = λ b. Short shelf (if b then before (taking request) (before (telling d (answer reply)) u) else unfinished request) (reply ∷ []) shelf' (length now) in
    subst P (sym is_reply) (λ h. subst Q (sym kind) (record {
      taken = omega (arith, taken);
      served = served_more shelf shelf' (request ∷ []) u.requests (reply ∷ []) refl q.asked (served_exactly shelf shelf' (request ∷ []) (reply ∷ []) refl h);
      most = omega (arith, few);
    })) served

cut_past : (d : Desk) (next : editor.Session → List Reply → Output) (a : Ask) (got : List Reply) (now : List Instance) (k : ℕ) → IsCutShort d.spec a got now
    → NonePast k (turn d next a) got
cut_past d next (Tells step) got now k (none, some) =
    subst (λ (g : List Reply). NonePast k (turn d next (Tells step)) g) (sym none) (past_nothing k (turn d next (Tells step)))
cut_past d next (Asks request answer) got now k (inl (none, nothing)) =
    subst (λ (g : List Reply). NonePast k (turn d next (Asks request answer)) g) (sym none) (past_nothing k (turn d next (Asks request answer)))
cut_past d next (Asks request answer) got now k (inr (reply, is_reply, kind, some)) =
    subst (λ (g : List Reply). NonePast k (turn d next (Asks request answer)) g) (sym is_reply) (past_one k (turn d next (Asks request answer)) reply (omega arith))

-- a call without a reply was made before anything was told
cut_calls : (d : Desk) (next : editor.Session → List Reply → Output) (a : Ask) (got : List Reply) (now : List Instance) (k : ℕ) (shelf shelf' : ShelfState) → IsCutShort d.spec a got now
    → ServedOrOneMore shelf (requests_of a) got shelf' → CallsOrOneMore (length (turn d next a got).blocks ≤ k) (length got) shelf.calls shelf'.calls
cut_calls d next (Tells step) got now k shelf shelf' (none, some) served =
    let long : length {A = Request} [] ≡ length got = ap length (sym none) in inl (served_exactly shelf shelf' [] got long served).calls
cut_calls d next (Asks request answer) got now k shelf shelf' (inl (none, nothing)) served =
    let P : List Reply → Type 0 = λ g. ServedOrOneMore shelf (request ∷ []) g shelf' → CallsOrOneMore (length (turn d next (Asks request answer) g).blocks ≤ k) (length g) shelf.calls shelf'.calls in
    subst P (sym none) (λ h. elim h.calls [
      | inl is ↦ inl is
      | inr more ↦ inr (omega arith, more.1)
    ]) served
cut_calls d next (Asks request answer) got now k shelf shelf' (inr (reply, is_reply, kind, some)) served =
    let long : length (request ∷ []) ≡ length got = ap length (sym is_reply) in inl (served_exactly shelf shelf' (request ∷ []) got long served).calls

-- a command was cut short
pub command_cut : (d : Desk) (s : editor.Session) (c : Command) (now : List Instance) (rb ra : List Reply) (shelf shelf' : ShelfState) (sink : SinkState) (n m : ℕ)
    → Interrupted d.spec (asks d s c) now rb ra shelf shelf' → m ≡ n + length now
    → (commands : List Command) → Played (session d s (c ∷ commands)) rb ra Memory (world shelf sink n) (world shelf' sink m)
command_cut d s c now rb ra shelf shelf' sink n m cut counts commands =
    let next : editor.Session → List Reply → Output = λ x more. session d x commands more in
    let short : Short shelf (turn d next (asks d s c) cut.got) cut.got shelf' (length now) =
    turn_short d next (asks d s c) cut.got now shelf shelf' (session_quiet d commands) cut.cut cut.served in
    let most = short.most in
    let ends : Ends (world shelf sink n) (turn d next (asks d s c) cut.got) cut.got Memory (world shelf' sink m) =
    ends_memory shelf shelf' sink n m (turn d next (asks d s c) cut.got) cut.got short.taken short.served (omega (arith, counts)) (omega (arith, counts, most)) in
    record {
      got = cut.got;
      replies = cut.replies;
      ends = ends;
      stopped = λ is. record {
        counted = ends.cut is;
        none_past = cut_past d next (asks d s c) cut.got now (ends.cut is).k cut.cut;
        calls = cut_calls d next (asks d s c) cut.got now (ends.cut is).k shelf shelf' cut.cut cut.served;
      };
    }

-- the next command
pub session_next : (d : Desk) (s : editor.Session) (c : Command) (commands rest : List Command) (f : List Reply → Output) (rb ra : List Reply) (old new : World)
    → rest ≡ c ∷ commands → Passed f (session d s rest) rb ra old new → Passed f (session d s (c ∷ commands)) rb ra old new
session_next d s c commands rest f rb ra old new e p = subst (λ (cs : List Command). Passed f (session d s cs) rb ra old new) e p

pub item_first : (cs : List Command) (i : ℕ) (x : Command) → i < length cs → x ≡ get_or cs i x → drop i cs ≡ x ∷ drop (i + 1) cs
item_first cs i x h e = rw (add-one) (drop-cons cs i x h ∙ ap (λ (c : Command). c ∷ drop (suc i) cs) (sym e))

none_left : (cs : List Command) (i : ℕ) → length cs ≤ i → drop i cs ≡ []
none_left [] zero h = refl
none_left [] (suc i) h = refl
none_left (c ∷ cs) zero h = absurd (omega arith)
none_left (c ∷ cs) (suc i) h = none_left cs i (omega arith)

-- no command is left
pub session_over : (f : List Reply → Output) (d : Desk) (s : editor.Session) (commands : List Command) (i : ℕ) (rb ra : List Reply) (old new : World) → length commands ≤ i
    → Passed f (session d s (drop i commands)) rb ra old new → Played f rb ra Done old new
session_over f d s commands i rb ra old new h p =
    played_after f (session d s []) rb ra ra old new new Done (subst (λ (cs : List Command). Passed f (session d s cs) rb ra old new) (none_left commands i h) p)
    (played_at (session d s []) ra Done new new (ends_done new) refl)

-- other words for the same
pub session_from : (d e : Desk) (s t : editor.Session) (cs ds : List Command) (rb ra : List Reply) (status : Status) (old new : World) → d ≡ e → s ≡ t → cs ≡ ds
    → Played (session d s cs) rb ra status old new → Played (session e t ds) rb ra status old new
session_from d e s t cs ds rb ra status old new same at the p =
    subst (λ (x : Desk). Played (session x t ds) rb ra status old new) same
    (subst (λ (x : editor.Session). Played (session d x ds) rb ra status old new) at
    (subst (λ (x : List Command). Played (session d s x) rb ra status old new) the p))
