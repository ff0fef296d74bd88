-- The next place of a transformation's name is selected.
use Rattle.std.specs.List.{find}
use Rattle.std.specs.Prelude.{◌≡◌, refl, ℕ, Bool, true, false, cond, not, List, [], ◌∷◌, filter, Option, Some, MatchOption}
use Rattle.std.proofs.Common.{ap, ◌∙◌, subst}
use Rattle.std.proofs.lemmas.Option.{none-some, same_Some}
use Rattle.sg_kinds.specs.Values.{Bytes}
use Rattle.sg_kinds.specs.Places.{Place, places_in}
use Rattle.sg_kinds.specs.declared.spec.Spec.{Spec}
use Rattle.sg_forest.specs.declared.node_id.NodeId.{NodeId}
use Rattle.sg_forest.specs.Trees.{Climbs, IsInside}
use Rattle.sg_groves.specs.Grove.{nodes}
use Rattle.sg_select.specs.Leads.{LeadsTo}
use Rattle.sg_select.specs.RestingPlaces.{behind, rests, settled}
use Rattle.sg_select.proofs.Leading.{leads_some}
use Rattle.sg_select.proofs.Settling.{settled_itself}
use Rattle.sg_search.specs.Found.{applies_at, found_behind, is_known}
use Rattle.sg_script.specs.declared.message.Message.TheVariants as message
use Rattle.sg_states.specs.States.{State, selected, selected_place, shown_spec}
use Rattle.sg_buffer.specs.Held.{Held, state_of}
use Rattle.sg_buffer.proofs.Going.{answered_some}
use Rattle.sg_edits.specs.declared.clip.Clip.{Clip}
use Rattle.sg_commands.specs.Turn.{Turn, becomes, found_or, refused_if, says}
use Rattle.sg_commands.specs.Turns.{finds, found_next}

-- what is found passes the test
found_passes : {X : Type 0} (p : X → Bool) (xs : List X) (x : X) → find p xs ≡ Some x → p x ≡ true
found_passes p [] x e = absurd (none-some x e)
found_passes p (y ∷ xs) x e = by (p y) refl (found_passes p xs x) e
  where
    by : (b : Bool) → p y ≡ b → (find p xs ≡ Some x → p x ≡ true) → cond b (Some y) (find p xs) ≡ Some x → p x ≡ true
    by true is behind h = subst (λ z. p z ≡ true) (same_Some y x h) is
    by false is behind h = behind h

module _ (b : Held) (name : Bytes) (n : NodeId) where
  abbrev here : Option Place
  here = found_behind b.grove.spec (state_of b).spot.view name (state_of b).term (selected_place (state_of b))

  module _ (leads : LeadsTo b.grove b.root here (Some n)) where
    place : (v : Place) × (here ≡ Some v) × Climbs (nodes b.grove) v n b.root
    place = leads_some b.grove b.root n here leads

    pub found_inside : IsInside (nodes b.grove) n b.root
    found_inside = record { path = place.0; climbs = place.2 }

    still : settled (shown_spec b.grove.spec (state_of b)) (state_of b).term place.0 ≡ place.0
    still =
        settled_itself (shown_spec b.grove.spec (state_of b)) (state_of b).term place.0
        (found_passes (rests (shown_spec b.grove.spec (state_of b)) (state_of b).term)
        (filter (applies_at b.grove.spec name (state_of b).term) (behind (selected_place (state_of b)) (places_in (state_of b).term))) place.0 place.1)

    pub found_answers : (new : Held)
        → ((u : Place) → Climbs (nodes b.grove) u n b.root → state_of new ≡ selected b.grove.spec b.height (settled (shown_spec b.grove.spec (state_of b)) (state_of b).term u) (state_of b))
        → MatchOption (found_next b.grove.spec b.height name (state_of b)) ((true ≡ false) × (new ≡ b)) (λ st. (true ≡ true) × (state_of new ≡ st))
    found_answers new state =
        answered_some (λ v. selected b.grove.spec b.height v (state_of b)) here place.0 ((true ≡ false) × (new ≡ b)) (λ st. (true ≡ true) × (state_of new ≡ st)) place.1
        (refl, state place.0 place.2 ∙ ap (λ v. selected b.grove.spec b.height v (state_of b)) still)

-- a name that is known, and one that is not
module _ (spec : Spec) (height : ℕ) (clip : Option Clip) (st : State) (name : Bytes) where
  abbrev pub found_or_next : Turn
  found_or_next = found_or clip st message.NoMatch (becomes clip) (found_next spec height name st)

  pub unknown_name : is_known spec name ≡ false → finds spec height clip st name ≡ says clip message.Unknown st
  unknown_name is = ap (λ b. refused_if clip st (not b) message.Unknown found_or_next) is

  pub known_name : is_known spec name ≡ true → finds spec height clip st name ≡ found_or_next
  known_name is = ap (λ b. refused_if clip st (not b) message.Unknown found_or_next) is
