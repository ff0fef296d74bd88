-- Changes undone and done again are turns.
use Rattle.std.specs.Prelude.{◌≡◌, ◌≢◌, ◌⊎◌, ◌↔◌, refl, Bool, true, false, List, [], ◌∷◌, Contains, Option, Some}
use Rattle.std.proofs.Common.{sym, ap, subst, inl, inr}
use Rattle.std.proofs.lemmas.Bool.{false≢true}
use Rattle.sg_kinds.specs.Terms.{Term}
use Rattle.sg_kinds.specs.Places.{put}
use Rattle.sg_kinds.specs.Sound.{IsSound}
use Rattle.sg_kinds.specs.declared.spec.Spec.{Spec}
use Rattle.sg_eval.specs.declared.journal.Instance.{Instance}
use Rattle.sg_forest.specs.declared.node_id.NodeId.{NodeId}
use Rattle.sg_groves.specs.Grove.{Grove}
use Rattle.sg_terms.specs.Entries.{GainedAll}
use Rattle.sg_changes.specs.Changes.{Change, Put, Mark, chosen, term_along}
use Rattle.sg_changes.specs.declared.direction.Direction.{Direction}
use Rattle.sg_changes.specs.declared.direction.Direction.TheVariants.{Back, Forth}
use Rattle.sg_script.specs.declared.message.Message.TheVariants as message
use Rattle.sg_states.specs.States.{State, ahead, gone, gone_by}
use Rattle.sg_buffer.specs.Gains.{Gained, NotedAlong, OfFirst, Went}
use Rattle.sg_buffer.specs.Held.{Held, state_of}
use Rattle.sg_edits.specs.declared.clip.Clip.{Clip}
use Rattle.sg_commands.specs.Did.{Did, GaveUp, NotedOf}
use Rattle.sg_commands.specs.Turns.{evaluated_along, travels}
use Rattle.sg_commands.proofs.Moved.{said_of}
use Rattle.sg_commands.proofs.Putting.{nothing_gained, refused_did, all_listed, at_listed}

no_change : (c : Change) (cs : List Change) → (c ∷ cs ≡ []) → ⊥
no_change c cs same = absurd (let e = same in cc)

module _ (spec : Spec) (sound : IsSound spec) (t : Term) (was now : List Instance) where
  -- what is evaluated where a way goes along a change, listed
  gained : (g : Grove) (root : NodeId) (d : Direction) (c : Change) → Gained d spec t was now g root c
      → GainedAll g root (term_along d t c) (Contains (evaluated_along d spec t c)) was now
  gained g root Back (Put u old new b a) all = all_listed spec sound t u old was now g root (put t u old) all
  gained g root Back (Mark u old new b a) none = nothing_gained g root (term_along Back t (Mark u old new b a)) was now none
  gained g root Forth (Put u old new b a) all = all_listed spec sound t u new was now g root (put t u new) all
  gained g root Forth (Mark u old new b a) none = nothing_gained g root (term_along Forth t (Mark u old new b a)) was now none

-- what is noted where one is refused
module _ (old : Held) (sound : IsSound old.grove.spec) (was now : List Instance) where
  abbrev st : State
  st = state_of old

  noted : (d : Direction) (c : Change) (cs : List Change) → ahead d st ≡ c ∷ cs → NotedAlong d old.grove old.root st.term was now c
      → (now ≡ was) ⊎ NotedOf old.grove.spec old (gone_by old.grove.spec old.height d (c ∷ cs) st) (evaluated_along d old.grove.spec st.term c) was now
  noted d (Mark u x s b a) cs is none = inl none
  noted d (Put u x s b a) cs is (h, inl none) = inl none
  noted Back (Put u x s b a) cs is (h, inr p) = inr (record {
    place = u;
    from = Some h;
    puts = (Put u x s b a, refl, inl is);
    entries = at_listed old.grove.spec sound st.term u x was now old.grove old.root (Some h) (put st.term u x) p;
  })
  noted Forth (Put u x s b a) cs is (h, inr p) = inr (record {
    place = u;
    from = Some h;
    puts = (Put u x s b a, refl, inr (is, refl));
    entries = at_listed old.grove.spec sound st.term u s was now old.grove old.root (Some h) (put st.term u s) p;
  })

module _ (old new : Held) (sound : IsSound old.grove.spec) (clip : Option Clip) (was now : List Instance) (d : Direction) where
  pub travelled : (r : Bool) → Went d old new was now r
      → Did (travels old.grove.spec old.height clip (state_of old) d (ahead d (state_of old))) (said_of r (chosen d message.NothingToUndo message.NothingToRedo)) new clip was now
  travelled r went = by (ahead d (state_of old)) refl r went.nothing went.refused went.done went.evaluated
    where
      by : (ps : List Change) → ahead d (state_of old) ≡ ps → (r : Bool) → (r ≡ false) ↔ (ps ≡ [])
          → (r ≡ false → (new ≡ old) × (now ≡ was))
          → (r ≡ true → state_of new ≡ gone old.grove.spec old.height d (state_of old))
          → (r ≡ true → OfFirst ps (Gained d old.grove.spec (state_of old).term was now new.grove new.root))
          → Did (travels old.grove.spec old.height clip (state_of old) d ps) (said_of r (chosen d message.NothingToUndo message.NothingToRedo)) new clip was now
      by [] is false nothing refused done evaluated =
          refused_did old new clip was now (chosen d message.NothingToUndo message.NothingToRedo) (refused refl).0 (refused refl).1
      by [] is true nothing refused done evaluated = absurd (false≢true (sym (nothing.1 refl)))
      by (c ∷ cs) is false nothing refused done evaluated = absurd (no_change c cs (nothing.0 refl))
      by (c ∷ cs) is true nothing refused done evaluated = record {
        message = refl;
        state = done refl;
        copied = refl;
        evaluated = subst (λ (st : State). GainedAll new.grove new.root st.term
            (Contains (evaluated_along d old.grove.spec (state_of old).term c)) was now)
            (sym (ap (λ ps. gone_by old.grove.spec old.height d ps (state_of old)) is))
            (gained old.grove.spec sound (state_of old).term was now new.grove new.root d c (evaluated refl));
      }

  pub travel_gave_up : state_of new ≡ state_of old → ahead d (state_of old) ≢ []
      → OfFirst (ahead d (state_of old)) (NotedAlong d old.grove old.root (state_of old).term was now)
      → GaveUp old.grove.spec (travels old.grove.spec old.height clip (state_of old) d (ahead d (state_of old))) old new clip clip was now
  travel_gave_up state some notes = by (ahead d (state_of old)) refl some notes
    where
      by : (ps : List Change) → ahead d (state_of old) ≡ ps → ps ≢ []
          → OfFirst ps (NotedAlong d old.grove old.root (state_of old).term was now)
          → GaveUp old.grove.spec (travels old.grove.spec old.height clip (state_of old) d ps) old new clip clip was now
      by [] is some notes = absurd (some refl)
      by (c ∷ cs) is some notes = record {
        state = state;
        copied = refl;
        noted = subst (λ (z : State). (now ≡ was) ⊎ NotedOf old.grove.spec old z
            (evaluated_along d old.grove.spec (state_of old).term c) was now)
            (sym (ap (λ ps. gone_by old.grove.spec old.height d ps (state_of old)) is))
            (noted old sound was now d c cs is notes);
      }
