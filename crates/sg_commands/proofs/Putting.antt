-- A replacement in a buffer is the turn of its choice.
use Rattle.std.specs.Prelude.{◌≡◌, ◌⊎◌, refl, ℕ, Bool, true, false, cond, ◌&&◌, nat_eq, nat_le, List, [], ◌∷◌, Contains, Option, Some, None, Result, Ok, Err, OnErr}
use Rattle.std.proofs.Common.{sym, ap, ◌∙◌, subst, inl, inr, arith}
use Rattle.std.proofs.lemmas.Bool.{and_parts, false≢true}
use Rattle.std.proofs.lemmas.List.{append-nil}
use Rattle.sg_kinds.specs.Terms.{Term, nodes_of, height_of}
use Rattle.sg_kinds.specs.Places.{Place, put, sub}
use Rattle.sg_kinds.specs.Sound.{IsSmall, IsSound}
use Rattle.sg_kinds.specs.declared.spec.Spec.{Spec}
use Rattle.sg_kinds.proofs.Elementary.{and_true, le_is, le_true}
use Rattle.sg_eval.specs.declared.journal.Instance.{Instance}
use Rattle.sg_forest.specs.declared.node_id.NodeId.{NodeId}
use Rattle.sg_groves.specs.Grove.{Grove}
use Rattle.sg_groves.specs.Evaluated.{evaluated, IsEvaluated}
use Rattle.sg_groves.proofs.EvaluatedOnce.{evaluated_from, evaluated_to}
use Rattle.sg_terms.specs.Entries.{Gained, GainedAll}
use Rattle.sg_exchanges.specs.Noted.{NotedPut, NotedSomeAt}
use Rattle.sg_changes.specs.Changes.{Put as Putting, part_of}
use Rattle.sg_changes.specs.declared.spot.Selection.{Selection}
use Rattle.sg_select.specs.Paths.{spine_from}
use Rattle.sg_states.specs.States.{State, replaced}
use Rattle.sg_states.proofs.Selecting.{path_back}
use Rattle.sg_script.specs.declared.message.Message.{Message}
use Rattle.sg_script.specs.declared.message.Message.TheVariants as message
use Rattle.sg_build.specs.declared.limits.Counts.{Counts}
use Rattle.sg_buffer.specs.Held.{Held, state_of}
use Rattle.sg_buffer.specs.declared.fault.BufferFault.{BufferFault}
use Rattle.sg_buffer.specs.declared.fault.BufferFault.TheVariants as fault
use Rattle.sg_edits.specs.Choice.{Choice, Refused, Put, Picked, limited, one}
use Rattle.sg_edits.specs.declared.clip.Clip.{Clip}
use Rattle.sg_commands.specs.Did.{Did, GaveUp, NotedOf}
use Rattle.std.specs.Option.{option_map_or}
use Rattle.sg_kinds.specs.Completing.{completing}
use Rattle.sg_edits.specs.Edits.{at_term, completed, deleted, emptied, is_never_empty, is_only, left_at, phylum_in, rest_behind, taken, without}
use Rattle.sg_commands.specs.Turn.{Turn, says}
use Rattle.sg_commands.specs.Replaced.{picked_of}
use Rattle.sg_commands.specs.Turns.{puts, replaces, selection_of}

-- the last guard
module _ (t : Term) (u : Place) (s : Term) (v : Picked) where
  abbrev fits_limits : Bool
  fits_limits = nat_le (nodes_of (put t u s)) 65536 && nat_le (height_of (put t u s)) 1024

  small_fits : IsSmall (put t u s) → fits_limits ≡ true
  small_fits small = and_true (nat_le (nodes_of (put t u s)) 65536) (nat_le (height_of (put t u s)) 1024) (le_true (nodes_of (put t u s)) 65536 small.0) (le_true (height_of (put t u s)) 1024 small.1)

  fits_small : fits_limits ≡ true → IsSmall (put t u s)
  fits_small e = (le_is (nodes_of (put t u s)) 65536 (and_parts (nat_le (nodes_of (put t u s)) 65536) (nat_le (height_of (put t u s)) 1024) e).0, le_is (height_of (put t u s)) 1024 (and_parts (nat_le (nodes_of (put t u s)) 65536) (nat_le (height_of (put t u s)) 1024) e).1)

  pub stays : ((IsSmall (put t u s) → ⊥) → ⊥) → limited t (Put u s v) ≡ Put u s v
  stays not_large = by fits_limits refl
    where
      by : (b : Bool) → fits_limits ≡ b → cond b (Put u s v) (Refused message.Size) ≡ Put u s v
      by true e = refl
      by false e = absurd (not_large (λ small. false≢true (sym e ∙ small_fits small)))

  pub is_over : (IsSmall (put t u s) → ⊥) → limited t (Put u s v) ≡ Refused message.Size
  is_over large = by fits_limits refl
    where
      by : (b : Bool) → fits_limits ≡ b → cond b (Put u s v) (Refused message.Size) ≡ Refused message.Size
      by true e = absurd (large (fits_small e))
      by false e = refl

pub selected_back : (select : Selection) → select ≡ selection_of (picked_of select)
selected_back select =
    ap (λ p. let r : Selection = record { path = p; count = select.count } in r) (sym (path_back select.path))

-- a replacement is told as a size or as want of memory
pub no_size : (e : BufferFault) → e ≡ fault.NoMemory → (c : Counts) → e ≡ fault.Size c → ⊥
no_size e none c size = cc

-- a journal that gained nothing
pub nothing_gained : (g : Grove) (root : NodeId) (t : Term) (was now : List Instance) → now ≡ was → GainedAll g root t (Contains []) was now
nothing_gained g root t was now same = record {
  gained = record {
    refs = [];
    entries = [];
    are = tt;
    appended = same ∙ sym (append-nil was);
    once = λ i j d less low. absurd (omega (arith, low));
    among = λ i d low. absurd (omega (arith, low));
  };
  every = λ a (i, low, at). absurd (omega (arith, low));
}

-- what is evaluated as a list
module _ (spec : Spec) (sound : IsSound spec) (t : Term) (u : Place) (s : Term) (was now : List Instance) where
  pub gained_listed : (g : Grove) (root : NodeId) (w : Term) → Gained g root w (IsEvaluated spec t u s) was now → Gained g root w (Contains (evaluated spec t u s)) was now
  gained_listed g root w gained = record {
    refs = gained.refs;
    entries = gained.entries;
    are = gained.are;
    appended = gained.appended;
    once = gained.once;
    among = λ i d low. evaluated_to spec t u s sound _ (gained.among i d low);
  }

  pub all_listed : (g : Grove) (root : NodeId) (w : Term) → GainedAll g root w (IsEvaluated spec t u s) was now → GainedAll g root w (Contains (evaluated spec t u s)) was now
  unfolding gained_listed
  all_listed g root w all = record {
    gained = gained_listed g root w all.gained;
    every = λ a has. all.every a (evaluated_from spec t u s a has);
  }

  pub at_listed : (old : Grove) (top : NodeId) (from : Option NodeId) (w : Term)
      → NotedSomeAt spec old top u from w (IsEvaluated spec t u s) was now
      → NotedSomeAt spec old top u from w (Contains (evaluated spec t u s)) was now
  at_listed old top from w p = record {
    some = record {
      grove = p.some.grove;
      is = p.some.is;
      same = p.some.same;
      root = p.some.root;
      holds = p.some.holds;
      gained = gained_listed p.some.grove p.some.root w p.some.gained;
    };
    tree = p.tree;
  }

module _ (old new : Held) (clip : Option Clip) (was now : List Instance) where
  -- a message, in a state that it left
  pub says_did : (m : Message) (st : State) → state_of new ≡ st → now ≡ was → Did (says clip m st) m new clip was now
  says_did m st state none = record {
    message = refl;
    state = state;
    copied = refl;
    evaluated = nothing_gained new.grove new.root st.term was now none;
  }

  -- a refusal
  pub refused_did : (m : Message) → new ≡ old → now ≡ was → Did (says clip m (state_of old)) m new clip was now
  refused_did m same none = says_did m (state_of old) (ap state_of same) none

  module _ (u : Place) (s : Term) (select : Selection) where
    abbrev choice : Choice
    choice = Put u s (picked_of select)

    abbrev whole : Term
    whole = put (state_of old).term u s

    abbrev then : State
    then = replaced old.grove.spec old.height u s (selection_of (picked_of select)) (state_of old)

    pub size_did : (IsSmall whole → ⊥) → new ≡ old → now ≡ was → Did (puts old.grove.spec old.height clip (state_of old) choice) message.Size new clip was now
    size_did large same none =
        subst (λ c. Did (replaces old.grove.spec old.height clip (state_of old) clip c) message.Size new clip was now)
        (sym (is_over (state_of old).term u s (picked_of select) large)) (refused_did message.Size same none)

    pub put_did : IsSound old.grove.spec → ((IsSmall whole → ⊥) → ⊥) → state_of new ≡ replaced old.grove.spec old.height u s select (state_of old)
        → GainedAll new.grove new.root whole (IsEvaluated old.grove.spec (state_of old).term u s) was now
        → Did (puts old.grove.spec old.height clip (state_of old) choice) message.Fine new clip was now
    put_did sound not_large state all =
        subst (λ c. Did (replaces old.grove.spec old.height clip (state_of old) clip c) message.Fine new clip was now)
        (sym (stays (state_of old).term u s (picked_of select) not_large))
        (record {
          message = refl;
          state = state ∙ ap (λ r. replaced old.grove.spec old.height u s r (state_of old)) (selected_back select);
          copied = refl;
          evaluated = all_listed old.grove.spec sound (state_of old).term u s was now new.grove new.root whole all;
        })

    pub put_gave_up : IsSound old.grove.spec → ((IsSmall whole → ⊥) → ⊥) → state_of new ≡ state_of old
        → NotedPut old.grove old.root None (state_of old).term u s was now
        → GaveUp old.grove.spec (puts old.grove.spec old.height clip (state_of old) choice) old new clip clip was now
    put_gave_up sound not_large state noted =
        subst (λ c. GaveUp old.grove.spec (replaces old.grove.spec old.height clip (state_of old) clip c) old new clip clip was now)
        (sym (stays (state_of old).term u s (picked_of select) not_large))
        (record { state = state; copied = refl; noted = put_noted noted })
      where
        put_noted : NotedPut old.grove old.root None (state_of old).term u s was now
            → (now ≡ was) ⊎ NotedOf old.grove.spec old then (evaluated old.grove.spec (state_of old).term u s) was now
        put_noted (inl same) = inl same
        put_noted (inr p) = inr (record {
          place = u;
          from = None;
          puts = (Putting u (part_of (state_of old).term u) s (state_of old).spot then.spot, refl, refl);
          entries = at_listed old.grove.spec sound (state_of old).term u s was now old.grove old.root None whole p;
        })

  -- nothing happened
  pub gave_up_before : (turn : Turn) → new ≡ old → now ≡ was → GaveUp old.grove.spec turn old new clip clip was now
  gave_up_before turn same none = record { state = ap state_of same; copied = refl; noted = inl none }

  -- what is cut is what is deleted, with what is copied then
  module _ (spec : Spec) (height : ℕ) (st : State) (copied : Option Clip) where
    pub kept_clip : (x : Choice) (m : Message) → Did (replaces spec height clip st clip x) m new clip was now → (m ≡ message.Fine → ⊥) → Did (replaces spec height clip st copied x) m new clip was now
    kept_clip (Refused r) m did other = did
    kept_clip (Put u s v) m did other = absurd (other did.message)

    pub set_clip : (x : Choice) → ((r : Message) → x ≡ Refused r → message.Fine ≡ r → ⊥) → Did (replaces spec height clip st clip x) message.Fine new clip was now → Did (replaces spec height clip st copied x) message.Fine new copied was now
    set_clip (Refused r) none did = absurd (none r refl did.message)
    set_clip (Put u s v) none did = record { message = refl; state = did.state; copied = refl; evaluated = did.evaluated }

    pub clip_gave_up : (x : Choice) → GaveUp old.grove.spec (replaces spec height clip st clip x) old new clip clip was now → GaveUp old.grove.spec (replaces spec height clip st copied x) old new clip clip was now
    clip_gave_up (Refused r) gave_up = gave_up
    clip_gave_up (Put u s v) gave_up = record { state = gave_up.state; copied = refl; noted = gave_up.noted }

-- a deletion that is refused says why
module _ (spec : Spec) (t : Term) (r : Message) where
  abbrev Told : Choice → Type 0
  Told x = limited t x ≡ Refused r → message.Fine ≡ r → ⊥

  put_told : (u : Place) (s : Term) (v : Picked) → Told (Put u s v)
  put_told u s v = by (fits_limits t u s v)
    where
      by : (b : Bool) → cond b (Put u s v) (Refused message.Size) ≡ Refused r → message.Fine ≡ r → ⊥
      by true e fine = cc
      by false e fine = cc

  there_told : (make : Term → Choice) → ((x : Term) → Told (make x)) → (o : Option Term) → Told (option_map_or make o (Refused message.NoPlace))
  there_told make each None = λ e fine. cc
  there_told make each (Some x) = each x

  without_told : (n : ℕ) (p : Place) (x : Term) → Told (without spec t true n p x)
  without_told n p x = by (is_only spec t p (rest_behind n x) && is_never_empty spec x)
    where
      by : (b : Bool) → Told (cond b (emptied spec t true p x) (Put p (rest_behind n x) (one (left_at spec t p (rest_behind n x)))))
      by true = put_told p (completing spec (phylum_in spec x)) (one (0 ∷ p))
      by false = put_told p (rest_behind n x) (one (left_at spec t p (rest_behind n x)))

  taken_told : (n : ℕ) (o : Option Place) → Told (option_map_or (λ p. at_term t p (without spec t true n p)) o (Refused message.NotInList))
  taken_told n None = λ e fine. cc
  taken_told n (Some p) = there_told (without spec t true n p) (without_told n p) (sub t p)

pub deletes : (spec : Spec) (t : Term) (u : Place) (n : ℕ) (r : Message) → limited t (deleted spec t u n) ≡ Refused r → message.Fine ≡ r → ⊥
deletes spec t u n r = by (nat_eq n 1)
  where
    by : (b : Bool) → Told spec t r (cond b (at_term t u (completed spec false u)) (taken spec t true u n))
    by true = there_told spec t r (completed spec false u) (λ x. put_told spec t r u (completing spec (phylum_in spec x)) (one u)) (sub t u)
    by false = taken_told spec t r n (spine_from spec t u)

-- what is kept without memory gives more
pub then_on_err : {A E : Type 0} (r : Result A E) (P Q : Type 0) → OnErr r P → (P → Q) → OnErr r Q
then_on_err (Ok x) P Q p f = tt
then_on_err (Err e) P Q p f = f p
