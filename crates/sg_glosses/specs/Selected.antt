-- What is selected in the buffers of a session.
use Rattle.std.specs.Prelude.{◌≡◌, ℕ, ⊤, All, true, List, [], ◌∷◌}
use Rattle.sg_kinds.specs.Values.{Bytes}
use Rattle.sg_kinds.specs.Terms.{Term}
use Rattle.sg_kinds.specs.declared.spec.Spec.{Spec}
use Rattle.sg_changes.specs.Changes.{Change, opposite, spot_along, term_along}
use Rattle.sg_changes.specs.declared.direction.Direction.{Direction}
use Rattle.sg_changes.specs.declared.direction.Direction.TheVariants.{Back, Forth}
use Rattle.sg_changes.specs.declared.spot.Spot.{Spot}
use Rattle.sg_states.specs.Seen.{is_spot}
use Rattle.sg_states.specs.States.{State}
use Rattle.sg_editor.specs.Session.{Session}

-- a spot selects a resting place of a term in its view, or as many elements of a list from there on as there are, and
-- the first line of that is in the window
abbrev pub IsSelected : Spec → ℕ → Term → Spot → Type 0
IsSelected spec height t spot = is_spot spec height t spot ≡ true

-- a way that goes along changes, one after another, selects so before and after each of them, and leads back
pub record GoesSelected (spec : Spec) (height : ℕ) (d : Direction) (t : Term) (c : Change) : Type 0 where
  pub back : term_along (opposite d) (term_along d t c) c ≡ t
  pub here : IsSelected spec height t (spot_along (opposite d) c)
  pub there : IsSelected spec height (term_along d t c) (spot_along d c)

abbrev pub AllSelected : Spec → ℕ → Direction → Term → List Change → Type 0
AllSelected spec height d t [] = ⊤
AllSelected spec height d t (c ∷ cs) = GoesSelected spec height d t c × AllSelected spec height d (term_along d t c) cs

-- a state selects so, and wherever its changes lead
pub record HasSelection (spec : Spec) (height : ℕ) (st : State) : Type 0 where
  pub now : IsSelected spec height st.term st.spot
  pub past : AllSelected spec height Back st.term st.past
  pub future : AllSelected spec height Forth st.term st.future

-- so do all buffers
abbrev pub HaveSelections : Spec → ℕ → Session → Type 0
HaveSelections spec height s = All (λ (b : Bytes × State). HasSelection spec height b.1) s.buffers
