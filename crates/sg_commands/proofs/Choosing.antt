-- What is chosen at the selected node of a buffer.
use Rattle.std.specs.Prelude.{◌≡◌, ℕ, Bool, true, false, ◌&&◌, ◌||◌, not, nat_eq, nat_lt, Some, Option, Result, IfOk, unwrap_or}
use Rattle.std.proofs.Common.{refl, sym, ap, ◌∙◌, subst, arith, inl, inr}
use Rattle.std.proofs.lemmas.Bool.{and_parts, ltb-false}
use Rattle.sg_kinds.specs.Terms.{Term}
use Rattle.sg_kinds.specs.Places.{Place, sub}
use Rattle.sg_kinds.specs.Values.{Bytes, Value}
use Rattle.sg_kinds.specs.Fits.{Fits}
use Rattle.sg_kinds.specs.InView.{in_view}
use Rattle.sg_kinds.specs.Plain.{plain}
use Rattle.sg_kinds.specs.declared.spec.Spec.{Spec}
use Rattle.sg_forest.specs.declared.node_id.NodeId.{NodeId}
use Rattle.sg_forest.specs.Trees.{Climbs, IsLive}
use Rattle.sg_groves.specs.Grove.{Grove, nodes, spec_shown}
use Rattle.sg_groves.specs.Holds.{Holds, IsPlaced}
use Rattle.sg_groves.proofs.Held.{one_term, part_held}
use Rattle.sg_select.proofs.Fronts.{climber_live}
use Rattle.sg_select.specs.Leads.{LeadsTo}
use Rattle.sg_select.specs.RestingPlaces.{rests}
use Rattle.sg_search.specs.Found.{found_behind}
use Rattle.sg_states.specs.Selections.{elements_at, is_selection}
use Rattle.sg_states.specs.States.{selected_place, shown_spec}
use Rattle.sg_states.proofs.Selecting.{selection_rests}
use Rattle.sg_states.proofs.Spotted.{spot_selects}
use Rattle.sg_buffer.specs.Buffers.{StandsFor}
use Rattle.sg_buffer.specs.Held.{Held, state_of}
use Rattle.sg_edits.specs.Choice.{Choice, choice_of, limited, IsFit}
use Rattle.sg_edits.specs.Chosen.{IsRun}
use Rattle.sg_edits.specs.Edits.{clip_of, is_editable, phylum_in, IsRunAt}
use Rattle.sg_edits.specs.declared.choice.Choice as declared
use Rattle.sg_edits.specs.declared.clip.Clip.{Clip}
use Rattle.sg_edits.proofs.Behind.{run_tested}
use Rattle.sg_edits.proofs.Placed.{fits_phylum}
use Rattle.sg_commands.specs.Replaced.{chosen_in, chosen_of, FitsHere}
use Rattle.sg_commands.specs.Turns.{copied_of, count_here, is_editable_here, selected_term}

-- the buffer's grove is told by a call, and so is the selected node
module _ (b : Held) (stands : StandsFor b (state_of b)) (g : Grove) (same : g ≡ b.grove) (n : NodeId) (way : Climbs (nodes b.grove) (selected_place (state_of b)) n b.root) where
  pub placed_here : IsPlaced b.grove b.root (state_of b).term (selected_place (state_of b)) n
  placed_here = record { top = stands.whole.top; holds = stands.whole.holds; way = way }

  pub live_here : IsLive (nodes g) n
  live_here = subst (λ h. IsLive (nodes h) n) (sym same) (climber_live b.grove (selected_place (state_of b)) n b.root stands.whole.top way)

  -- what is selected
  is_selected : is_selection b.grove.spec (state_of b).spot.view (state_of b).term (selected_place (state_of b)) (count_here (state_of b)) ≡ true
  is_selected = spot_selects b.grove.spec b.height (state_of b).term (state_of b).spot stands.spot

  pub rests_here : rests (spec_shown b.grove) (state_of b).term (selected_place (state_of b)) ≡ true
  rests_here =
      subst (λ v. rests (in_view b.grove.spec v) (state_of b).term (selected_place (state_of b)) ≡ true) (sym stands.view)
      (selection_rests b.grove.spec (state_of b).spot.view (state_of b).term (selected_place (state_of b)) (count_here (state_of b)) is_selected)

  pub run_there : IsRunAt b.grove.spec (state_of b).term (selected_place (state_of b)) (count_here (state_of b))
  run_there =
      let m = count_here (state_of b) in
      run_tested b.grove.spec (state_of b).term (selected_place (state_of b)) m
      (and_parts (rests (shown_spec b.grove.spec (state_of b)) (state_of b).term (selected_place (state_of b)))
      (nat_eq m 1 || (nat_lt 1 m && not (nat_lt (elements_at b.grove.spec (state_of b).term (selected_place (state_of b))) m))) is_selected).1

  pub run_here : (count : ℕ) → count ≡ count_here (state_of b) → IsRun g n count
  run_here count is =
      subst (λ (h : Grove). IsRun h n count) (sym same)
      (subst (IsRun b.grove n) (sym is)
      (record { root = b.root; term = (state_of b).term; place = selected_place (state_of b); placed = placed_here; run = run_there }))

  -- what is found behind it
  module _ (root : NodeId) (top : root ≡ b.root) where
    pub resting_here : (t : Term) × (u : Place) × IsPlaced g root t u n × (rests (spec_shown g) t u ≡ true)
    resting_here =
        subst (λ (h : Grove). (t : Term) × (u : Place) × IsPlaced h root t u n × (rests (spec_shown h) t u ≡ true)) (sym same)
        (subst (λ r. (t : Term) × (u : Place) × IsPlaced b.grove r t u n × (rests (spec_shown b.grove) t u ≡ true)) (sym top)
        ((state_of b).term, selected_place (state_of b), placed_here, rests_here))

    pub found_told : {E : Type 0} (name : Bytes) (r : Result (Option NodeId) E)
        → ((t : Term) (u : Place) → IsPlaced g root t u n → rests (spec_shown g) t u ≡ true → IfOk r (LeadsTo g root (found_behind g.spec g.view name t u)))
        → IfOk r (LeadsTo b.grove b.root (found_behind b.grove.spec (state_of b).spot.view name (state_of b).term (selected_place (state_of b))))
    found_told name r leads =
        subst (λ v. IfOk r (LeadsTo b.grove b.root (found_behind b.grove.spec v name (state_of b).term (selected_place (state_of b))))) stands.view
        (subst (λ (h : Grove). (t : Term) (u : Place) → IsPlaced h b.root t u n → rests (spec_shown h) t u ≡ true → IfOk r (LeadsTo h b.root (found_behind h.spec h.view name t u))) same
        (subst (λ z. (t : Term) (u : Place) → IsPlaced g z t u n → rests (spec_shown g) t u ≡ true → IfOk r (LeadsTo g z (found_behind g.spec g.view name t u))) top leads)
        (state_of b).term (selected_place (state_of b)) placed_here rests_here)

  module _ (c : declared.Choice) where
    pub fits_here : ((root : NodeId) (t : Term) (u : Place) → IsPlaced g root t u n → IsFit g.spec t (choice_of c)) → IsFit b.grove.spec (state_of b).term (choice_of c)
    fits_here fits = subst (λ (h : Grove). (root : NodeId) (t : Term) (u : Place) → IsPlaced h root t u n → IsFit h.spec t (choice_of c)) same fits b.root (state_of b).term (selected_place (state_of b)) placed_here

    pub chosen_here : (choice : Spec → Term → Place → Choice) → ((root : NodeId) (t : Term) (u : Place) → IsPlaced g root t u n → choice_of c ≡ choice g.spec t u) → choice_of c ≡ chosen_in b choice
    chosen_here choice told = subst (λ (h : Grove). (root : NodeId) (t : Term) (u : Place) → IsPlaced h root t u n → choice_of c ≡ choice h.spec t u) same told b.root (state_of b).term (selected_place (state_of b)) placed_here

    -- up to the last guard
    pub limited_here : (choice : Spec → Term → Place → Choice)
        → ((root : NodeId) (t : Term) (u : Place) → IsPlaced g root t u n → limited t (choice_of c) ≡ limited t (choice g.spec t u))
        → limited (state_of b).term (choice_of c) ≡ limited (state_of b).term (chosen_in b choice)
    limited_here choice told = subst (λ (h : Grove). (root : NodeId) (t : Term) (u : Place) → IsPlaced h root t u n → limited t (choice_of c) ≡ limited t (choice h.spec t u)) same told b.root (state_of b).term (selected_place (state_of b)) placed_here

    pub run_chosen : (choice : Spec → Term → Place → ℕ → Choice) (count : ℕ) → count ≡ count_here (state_of b)
        → ((root : NodeId) (t : Term) (u : Place) → IsPlaced g root t u n → choice_of c ≡ choice g.spec t u count) → choice_of c ≡ chosen_of b choice
    run_chosen choice count is told =
        chosen_here (λ spec t u. choice spec t u count) told
        ∙ ap (choice b.grove.spec (state_of b).term (selected_place (state_of b))) is

  -- the selected term
  selected_part : (x : Term) × Holds b.grove n x × (sub (state_of b).term (selected_place (state_of b)) ≡ Some x)
  selected_part = part_held b.grove stands.grove (selected_place (state_of b)) n b.root (state_of b).term way stands.whole.holds

  selected_there : selected_term (state_of b) ≡ selected_part.0
  selected_there = ap (λ o. unwrap_or o (state_of b).term) selected_part.2

  held_here : Holds b.grove n (selected_term (state_of b))
  held_here = subst (Holds b.grove n) (sym selected_there) selected_part.1

  pub selected_held : Holds g n (selected_term (state_of b))
  selected_held = subst (λ h. Holds h n (selected_term (state_of b))) (sym same) held_here

  pub editable_told : (r : Bool) → ((t : Term) → Holds g n t → r ≡ is_editable (spec_shown g) t) → r ≡ is_editable_here b.grove.spec (state_of b)
  editable_told r told =
      told (selected_term (state_of b)) selected_held ∙ ap (λ (h : Grove). is_editable (spec_shown h) (selected_term (state_of b))) same
      ∙ ap (λ v. is_editable (in_view b.grove.spec v) (selected_term (state_of b))) stands.view

  pub copied_told : (c : Clip) (count : ℕ) → count ≡ count_here (state_of b)
      → ((root : NodeId) (t : Term) (u : Place) → IsPlaced g root t u n → c ≡ clip_of g.spec t u count) → c ≡ copied_of b.grove.spec (state_of b)
  copied_told c count is told =
      subst (λ (h : Grove). (root : NodeId) (t : Term) (u : Place) → IsPlaced h root t u n → c ≡ clip_of h.spec t u count) same told b.root (state_of b).term (selected_place (state_of b)) placed_here
      ∙ ap (clip_of b.grove.spec (state_of b).term (selected_place (state_of b))) is

  pub phylum_told : (p : ℕ) → ((t : Term) → Holds g n t → Fits g.spec t p) → phylum_in b.grove.spec (selected_term (state_of b)) ≡ p
  phylum_told p told = fits_phylum b.grove.spec (selected_term (state_of b)) p (subst (λ (h : Grove). Fits h.spec (selected_term (state_of b)) p) same (told (selected_term (state_of b)) selected_held))

  -- what fits its phylum fits each phylum that it fits
  module _ (v : Value) (fits : FitsHere b v) where
    typed_there : (t : Term) (p : ℕ) → Holds b.grove n t → Fits b.grove.spec t p → Fits b.grove.spec (plain b.grove.spec v p) p
    typed_there t p holds stood =
        let one : t ≡ selected_term (state_of b) = one_term b.grove n t (selected_term (state_of b)) holds held_here in
        let p_is : phylum_in b.grove.spec (selected_term (state_of b)) ≡ p = ap (phylum_in b.grove.spec) (sym one) ∙ fits_phylum b.grove.spec t p stood in
        subst (λ q. Fits b.grove.spec (plain b.grove.spec v q) q) p_is fits

    pub typed_fits : (t : Term) (p : ℕ) → Holds g n t → Fits g.spec t p → Fits g.spec (plain g.spec v p) p
    typed_fits = subst (λ (h : Grove). (t : Term) (p : ℕ) → Holds h n t → Fits h.spec t p → Fits h.spec (plain h.spec v p) p) (sym same) typed_there

-- one node is selected where a command that wants one is not refused
pub one_here : (b : Held) → StandsFor b (state_of b) → (wants : Bool) → (wants && nat_lt 1 (count_here (state_of b))) ≡ false → wants ≡ true → count_here (state_of b) ≡ 1
one_here b stands wants test is = by (run_there b stands b.grove refl b.selected stands.selected)
  where
    few : nat_lt 1 (count_here (state_of b)) ≡ false
    few = subst (λ w. (w && nat_lt 1 (count_here (state_of b))) ≡ false) is test

    by : IsRunAt b.grove.spec (state_of b).term (selected_place (state_of b)) (count_here (state_of b)) → count_here (state_of b) ≡ 1
    by (inl alone) = alone
    by (inr more) = let most = ltb-false 1 (count_here (state_of b)) few in absurd (omega (arith, more.0, most))
