-- Steps that are taken.
use Rattle.std.specs.Prelude.{◌≡◌, ◌⊎◌, refl, ℕ, ◌≤◌, List, [], ◌∷◌, ◌++◌, map, length, Contains, get_or, slice_get, slice_set, Result, Ok, Err, IfOk, OnErr, Option, None, Some, option_map, option_and_then, MatchOption}
use Rattle.std.proofs.Common.{sym, ap, ◌∙◌, subst, arith, inl}
use Rattle.std.proofs.lemmas.List.{map-set, map-append, length-map}
use Rattle.std.proofs.lemmas.Option.{get_or_from_slice_get, slice_get-map, slice_get_within}
use Rattle.std.proofs.Math.Seq.{map-set_same}
use Rattle.sg_kinds.specs.Values.{Bytes}
use Rattle.sg_forest.proofs.Moves.{set-same}
use Rattle.sg_kinds.specs.Terms.{Term}
use Rattle.sg_kinds.specs.Instances.{instances}
use Rattle.sg_kinds.specs.Specification.{rules_of}
use Rattle.sg_kinds.specs.declared.spec.Spec.{Spec}
use Rattle.sg_eval.specs.declared.journal.Instance.{Instance}
use Rattle.sg_terms.specs.Entries.{GainedAll}
use Rattle.sg_groves.proofs.InstancesOnce.{instances_apart}
use Rattle.sg_exchanges.specs.Noted.{Noted}
use Rattle.sg_edits.specs.declared.clip.Clip.{Clip}
use Rattle.sg_script.specs.declared.message.Message.{Message}
use Rattle.sg_script.specs.declared.message.Message.TheVariants as message
use Rattle.sg_states.specs.States.{State, begun}
use Rattle.sg_buffer.specs.Held.{Held, state_of, term_in}
use Rattle.sg_script.specs.declared.command.Command.{Command}
use Rattle.sg_commands.specs.Did.{Did, GaveUp, NotedOf, turn_of}
use Rattle.sg_commands.specs.Turn.{Turn}
use Rattle.sg_commands.specs.Turns.{turn}
use Rattle.sg_commands.proofs.Counting.{gained_count, noted_most, noted_plain}
use Rattle.sg_editor.specs.declared.desk.Named.{Named}
use Rattle.sg_editor.specs.Ask.{Step, Readers, says, opens, turned_to, turned_at, in_current}
use Rattle.sg_editor.specs.Editing.{Kept, IsOver, told, session_in, current_in}
use Rattle.sg_editor.specs.Session.{Session, current_of}
use Rattle.sg_editor.specs.Steps.{AreNoted, AreSome, NotedHere, Took}
use Rattle.sg_editor.proofs.Told.{written_there, last_there}

no_entries : (now : List Instance) → now ≡ [] → length now ≡ 0
no_entries now none = ap length none

-- nothing is noted of no references
pub none_gained : (b : Held) (now : List Instance) → now ≡ [] → GainedAll b.grove b.root (term_in b) (Contains []) [] now
none_gained b now none = record {
  gained = record {
    refs = [];
    entries = [];
    are = tt;
    appended = none;
    once = λ i j d less low. absurd (omega (arith, low));
    among = λ i d low. absurd (omega (arith, low));
  };
  every = λ a has. has;
}

pub none_noted : (k : Kept) (now : List Instance) → now ≡ [] → AreNoted k [] now
none_noted k now none = by (current_in k)
  where
    by : (o : Option Named) → MatchOption o (now ≡ []) (λ b. GainedAll b.buffer.grove b.buffer.root (term_in b.buffer) (Contains []) [] now)
    by None = none
    by (Some b) = none_gained b.buffer now none

-- nothing is some of all
pub none_some : (spec : Spec) (step : Step) (now : List Instance) → now ≡ [] → AreSome spec step now
none_some spec step now none = record {
  few = let e = no_entries now none in omega (arith, e);
  noted = by (current_of step.session);
}
  where
    by : (o : Option (Bytes × State)) → MatchOption o (now ≡ []) (λ b. Noted spec b.1.term (Contains step.set) [] now)
    by None = none
    by (Some b) = inl none

-- something is said
pub said : (k : Kept) (s : Session) (m : Message) (now : List Instance) → session_in k ≡ s → now ≡ [] → Took (says s m) k m now
said k s m now same none = record {
  session = same;
  message = refl;
  counted = no_entries now none;
  noted = none_noted k now none;
}

-- the term of what is held
pub term_of : (h : Held) → (state_of h).term ≡ term_in h
unfolding state_of
term_of h = refl

held_there : (h : Held) (st : State) → state_of h ≡ st → st.term ≡ term_in h
held_there h st state = sym (ap (λ (x : State). x.term) state) ∙ term_of h

-- a new buffer, and a buffer that was turned
abbrev pub opened : Kept → Bytes → Held → Kept
opened k name h = record k { buffers = k.buffers ++ record { name = name; buffer = h } ∷ []; current = Some (length k.buffers) }

abbrev pub after : Kept → ℕ → Named → Held → Option Clip → Kept
after k i b h clip = record k { buffers = slice_set k.buffers i (record b { buffer = h }); clip = clip }

-- a buffer that is as it was leaves what is kept
abbrev pub with_buffer : Kept → ℕ → Named → Held → Kept
with_buffer k i b h = record k { buffers = slice_set k.buffers i (record b { buffer = h }) }

pub buffer_stays : (k : Kept) (i : ℕ) (b : Named) (h : Held) → slice_get k.buffers i ≡ Some b → h ≡ b.buffer → with_buffer k i b h ≡ k
buffer_stays k i b h here same = ap (with_buffer k i b) same ∙ ap (λ (bs : List Named). let z : Kept = record k { buffers = bs } in z) (set-same k.buffers i b here)

module _ (spec : Spec) (k : Kept) (name : Bytes) (t : Term) where
  opens_session : (h : Held) → state_of h ≡ begun t → session_in (opened k name h) ≡ (opens spec name t (session_in k)).session
  opens_session h state =
      let buffers : map told (k.buffers ++ record { name = name; buffer = h } ∷ []) ≡ map told k.buffers ++ (name, begun t) ∷ [] =
      map-append told k.buffers (record { name = name; buffer = h } ∷ []) ∙ ap (λ (st : State). map told k.buffers ++ (name, st) ∷ []) state in
      let place : length k.buffers ≡ length (map told k.buffers) = sym (length-map k.buffers told) in
      λ i. record { buffers = buffers i; current = Some (place i); clip = k.clip; loads = k.loads }

  opened_current : (h : Held) → current_in (opened k name h) ≡ Some (record { name = name; buffer = h })
  opened_current h = last_there k.buffers (record { name = name; buffer = h })

  opens_took_from : (h : Held) (now : List Instance) → state_of h ≡ begun t
      → GainedAll h.grove h.root t (Contains (instances (rules_of spec) t)) [] now
      → Took (opens spec name t (session_in k)) (opened k name h) message.Fine now
  opens_took_from h now state all = record {
    session = opens_session h state;
    message = refl;
    counted = gained_count h.grove h.root t (instances (rules_of spec) t) [] now refl (instances_apart spec t) all;
    noted = subst (λ (o : Option Named). MatchOption o (now ≡ []) (λ b. GainedAll b.buffer.grove b.buffer.root (term_in b.buffer) (Contains (instances (rules_of spec) t)) [] now))
        (sym (opened_current h))
        (subst (λ (s : Term). GainedAll h.grove h.root s (Contains (instances (rules_of spec) t)) [] now) (held_there h (begun t) state) all);
  }

  pub opens_took : (h : Held) (was now : List Instance) → was ≡ [] → state_of h ≡ begun t
      → GainedAll h.grove h.root t (Contains (instances (rules_of spec) t)) was now
      → Took (opens spec name t (session_in k)) (opened k name h) message.Fine now
  opens_took h was now none state all =
      opens_took_from h now state (subst (λ (es : List Instance). GainedAll h.grove h.root t (Contains (instances (rules_of spec) t)) es now) none all)

  opens_current : current_of (opens spec name t (session_in k)).session ≡ Some (name, begun t)
  opens_current = last_there (map told k.buffers) (name, begun t)

  opens_some_from : (now : List Instance) → Noted spec t (Contains (instances (rules_of spec) t)) [] now
      → AreSome spec (opens spec name t (session_in k)) now
  opens_some_from now noted = record {
    few = noted_most spec t (instances (rules_of spec) t) [] now refl noted;
    noted = subst (λ (o : Option (Bytes × State)). MatchOption o (now ≡ []) (λ b. Noted spec b.1.term (Contains (instances (rules_of spec) t)) [] now))
        (sym opens_current) noted;
  }

  pub opens_some : (was now : List Instance) → was ≡ [] → Noted spec t (Contains (instances (rules_of spec) t)) was now
      → AreSome spec (opens spec name t (session_in k)) now
  opens_some was now none noted =
      opens_some_from now (subst (λ (es : List Instance). Noted spec t (Contains (instances (rules_of spec) t)) es now) none noted)

-- a turn of the buffer at a place
module _ (spec : Spec) (k : Kept) (i : ℕ) (b : Named) (here : slice_get k.buffers i ≡ Some b) (at : k.current ≡ Some i) where
  turned_session : (h : Held) (clip : Option Clip) (t : Turn) → state_of h ≡ t.state → clip ≡ t.clip
      → session_in (after k i b h clip) ≡ (turned_to i b.name (session_in k) t).session
  turned_session h clip t state same =
      let buffers : map told (slice_set k.buffers i (record b { buffer = h })) ≡ slice_set (map told k.buffers) i (b.name, t.state) =
      map-set told k.buffers i (record b { buffer = h }) ∙ ap (λ (st : State). slice_set (map told k.buffers) i (b.name, st)) state in
      λ j. record { buffers = buffers j; current = k.current; clip = same j; loads = k.loads }

  turned_current : (h : Held) (clip : Option Clip) → current_in (after k i b h clip) ≡ Some (record b { buffer = h })
  turned_current h clip =
      ap (λ (o : Option ℕ). option_and_then (slice_get (slice_set k.buffers i (record b { buffer = h }))) o) at
      ∙ written_there k.buffers i (record b { buffer = h }) (slice_get_within k.buffers i b here)

  pub turned_took : (h : Held) (clip : Option Clip) (t : Turn) (m : Message) (now : List Instance) → Did t m h clip [] now → length now ≡ length t.set
      → Took (turned_to i b.name (session_in k) t) (after k i b h clip) m now
  turned_took h clip t m now did counted = record {
    session = turned_session h clip t did.state did.copied;
    message = did.message;
    counted = counted;
    noted = subst (λ (o : Option Named). MatchOption o (now ≡ []) (λ b. GainedAll b.buffer.grove b.buffer.root (term_in b.buffer) (Contains t.set) [] now))
        (sym (turned_current h clip))
        (subst (λ (s : Term). GainedAll h.grove h.root s (Contains t.set) [] now) (held_there h t.state did.state) did.evaluated);
  }

  step_current : (t : Turn) → current_of (turned_to i b.name (session_in k) t).session ≡ Some (b.name, t.state)
  step_current t =
      ap (λ (o : Option ℕ). option_and_then (slice_get (slice_set (map told k.buffers) i (b.name, t.state))) o) at
      ∙ written_there (map told k.buffers) i (b.name, t.state)
      (slice_get_within (map told k.buffers) i (told b) (slice_get-map told k.buffers i ∙ ap (option_map told) here))

  pub turned_some : (t : Turn) (now : List Instance) → Noted spec t.state.term (Contains t.set) [] now → length now ≤ length t.set
      → AreSome spec (turned_to i b.name (session_in k) t) now
  turned_some t now noted few = record {
    few = few;
    noted = subst (λ (o : Option (Bytes × State)). MatchOption o (now ≡ []) (λ b. Noted spec b.1.term (Contains t.set) [] now)) (sym (step_current t)) noted;
  }

  -- what a command in the current buffer comes to
  pub current_turn : (height : ℕ) (r : Readers) (c : Command) → IsOver spec height b.buffer
      → in_current spec height r (session_in k) c k.current ≡ turned_to i b.name (session_in k) (turn_of b.buffer r.text k.clip c)
  current_turn height r c over =
      ap (in_current spec height r (session_in k) c) at
      ∙ ap (turned_at spec height r (session_in k) c i) (slice_get-map told k.buffers i ∙ ap (option_map told) here)
      ∙ (λ j. turned_to i b.name (session_in k) (turn (sym over.spec_is j) (sym over.height_is j) r.text k.clip (state_of b.buffer) c))

  -- the answers of a turn
  module _ (height : ℕ) (r : Readers) (c : Command) (over : IsOver spec height b.buffer) (h : Held) (clip : Option Clip) (was now : List Instance) (none : was ≡ []) where
    abbrev the_turn : Turn
    the_turn = turn_of b.buffer r.text k.clip c

    pub turn_took : {E : Type 0} (res : Result Message E) → IfOk res (λ m. Did the_turn m h clip was now) → IfOk res (λ m. length now ≡ length the_turn.set)
        → IfOk res (λ m. Took (in_current spec height r (session_in k) c k.current) (after k i b h clip) m now)
    turn_took (Ok m) did counted =
        subst (λ (step : Step). Took step (after k i b h clip) m now) (sym (current_turn height r c over))
        (turned_took h clip the_turn m now (subst (λ (es : List Instance). Did the_turn m h clip es now) none did) counted)
    turn_took (Err e) did counted = tt

    pub turn_some : {E : Type 0} (old : Held) (res : Result Message E) → OnErr res (GaveUp b.buffer.grove.spec the_turn old h k.clip clip was now) → OnErr res (length now ≤ length the_turn.set)
        → OnErr res (AreSome spec (in_current spec height r (session_in k) c k.current) now)
    turn_some old (Ok m) up fewer = tt
    turn_some old (Err e) up fewer =
        subst (λ (step : Step). AreSome spec step now) (sym (current_turn height r c over))
        (turned_some the_turn now (subst (λ (sp : Spec). Noted sp the_turn.state.term (Contains the_turn.set) [] now) over.spec_is
        (subst (λ (es : List Instance). Noted b.buffer.grove.spec the_turn.state.term (Contains the_turn.set) es now) none
        (noted_plain b.buffer.grove.spec old the_turn.state the_turn.set was now up.noted))) fewer)

    current_here : current_in k ≡ Some b
    current_here = ap (option_and_then (slice_get k.buffers)) at ∙ here

    pub turn_noted : {E : Type 0} (old : Held) (res : Result Message E) → old ≡ b.buffer → OnErr res (GaveUp b.buffer.grove.spec the_turn old h k.clip clip was now)
        → OnErr res (NotedHere r k c now)
    turn_noted old (Ok m) is up = tt
    turn_noted old (Err e) is up =
        subst (λ (o : Option Named). MatchOption o (now ≡ []) (λ (x : Named). (now ≡ []) ⊎ NotedOf x.buffer.grove.spec x.buffer (turn_of x.buffer r.text k.clip c).state (turn_of x.buffer r.text k.clip c).set [] now)) (sym current_here)
        (subst (λ (es : List Instance). (now ≡ es) ⊎ NotedOf b.buffer.grove.spec b.buffer the_turn.state the_turn.set es now) none
        (subst (λ (z : Held). (now ≡ was) ⊎ NotedOf b.buffer.grove.spec z the_turn.state the_turn.set was now) is up.noted))

    turned_back : state_of h ≡ state_of b.buffer → clip ≡ k.clip → session_in (after k i b h clip) ≡ session_in k
    turned_back state same =
        let read : get_or k.buffers i b ≡ b = get_or_from_slice_get k.buffers i b b here in
        let buffers : map told (slice_set k.buffers i (record b { buffer = h })) ≡ map told k.buffers =
        map-set_same told k.buffers i (record b { buffer = h }) b (ap (λ (st : State). (b.name, st)) state ∙ ap told (sym read)) in
        λ j. record { buffers = buffers j; current = k.current; clip = same j; loads = k.loads }

    pub turn_same : {E : Type 0} (old : Held) (res : Result Message E) → old ≡ b.buffer → OnErr res (GaveUp b.buffer.grove.spec the_turn old h k.clip clip was now)
        → OnErr res (session_in (after k i b h clip) ≡ session_in k)
    turn_same old (Ok m) is up = tt
    turn_same old (Err e) is up = turned_back (up.state ∙ ap state_of is) up.copied

-- a fact at an error
pub on_err : {A E : Type 0} (res : Result A E) (P : Type 0) → P → OnErr res P
on_err (Ok x) P p = tt
on_err (Err e) P p = p
