-- The table of commands by what is being typed, and what follows from a turn that was done or given up.
use Rattle.std.specs.Prelude.{◌≡◌, ◌<◌, ◌≤◌, refl, ℕ, Bool, true, false, cond, nat_eq, unwrap_or, List, [], length, Option, None, Some, Result, Ok, Err, IfOk, OnErr}
use Rattle.std.specs.Option.{option_map_or}
use Rattle.std.proofs.Common.{sym, ap, subst, ◌∙◌, arith, inl, inr}
use Rattle.std.proofs.lemmas.Bool.{false≢true}
use Rattle.sg_kinds.specs.Terms.{Term}
use Rattle.sg_kinds.specs.Places.{Place, sub}
use Rattle.sg_kinds.specs.Fits.{Fits}
use Rattle.sg_kinds.specs.declared.spec.Spec.{Spec}
use Rattle.sg_eval.specs.declared.journal.Instance.{Instance}
use Rattle.sg_groves.proofs.Held.{held_fits, node_held}
use Rattle.sg_select.specs.Paths.{elements, spine_from}
use Rattle.sg_select.proofs.Fronts.{climber_live}
use Rattle.sg_changes.specs.Captured.{Captured}
use Rattle.sg_script.specs.declared.message.Message.{Message}
use Rattle.sg_script.specs.declared.command.Command.{Command}
use Rattle.sg_states.specs.States.{State, selected_place}
use Rattle.sg_buffer.specs.Buffers.{StandsFor}
use Rattle.sg_buffer.specs.Held.{Held, state_of}
use Rattle.sg_edits.specs.declared.clip.Clip.{Clip}
use Rattle.sg_edits.specs.Edits.{clip_of, front, run_kept, term_at, term_kept, IsRunAt}
use Rattle.sg_edits.proofs.Behind.{behind_is_list, front_fits}
use Rattle.sg_edits.proofs.Placed.{fits_phylum}
use Rattle.sg_commands.specs.Did.{Did, GaveUp}
use Rattle.sg_commands.specs.Clipped.{IsClip}
use Rattle.sg_commands.specs.Turn.{Reads, Turn}
use Rattle.sg_commands.specs.Turns.{copied_of, count_here, plain_turn, turn, typing_turn}
use Rattle.sg_commands.specs.Typing.{IsTyping}
use Rattle.sg_commands.proofs.Choosing.{run_there}
use Rattle.sg_commands.proofs.Counting.{gained_count, noted_most, noted_plain}
use Rattle.sg_commands.proofs.Keeping.{IsKept}

module _ (spec : Spec) (height : ℕ) (reads : Reads) (clip : Option Clip) (st : State) (x : Command) where
  pub turn_plain : st.capture ≡ None → turn spec height reads clip st x ≡ plain_turn spec height reads clip st x
  unfolding turn
  turn_plain none = ap (λ o. option_map_or (λ c. typing_turn spec height reads clip st c x) o
      (plain_turn spec height reads clip st x)) none

  pub turn_typing : (c : Captured) → st.capture ≡ Some c
      → turn spec height reads clip st x ≡ typing_turn spec height reads clip st c x
  unfolding turn
  turn_typing c at = ap (λ o. option_map_or (λ y. typing_turn spec height reads clip st y x) o
      (plain_turn spec height reads clip st x)) at

-- what is copied fits
module _ (b : Held) (stands : StandsFor b (state_of b)) where
  abbrev spec : Spec
  spec = b.grove.spec

  abbrev whole : Term
  whole = (state_of b).term

  part_fits : (u : Place) (x : Term) → sub whole u ≡ Some x → (p : ℕ) × Fits spec x p
  part_fits u x there =
      let m = node_held b.grove stands.grove u b.root whole x stands.whole.holds there in
      let live = climber_live b.grove u m.0 b.root stands.whole.top m.1 in
      (live.node.label.phylum, held_fits b.grove stands.grove m.0 live.node x live.found m.2)

  term_fits : (u : Place) (o : Option Term) → sub whole u ≡ o → Fits spec (term_kept spec (unwrap_or o whole)).term (term_kept spec (unwrap_or o whole)).phylum
  term_fits u None there = subst (Fits spec whole) (sym (fits_phylum spec whole b.grove.spec.root stands.fits)) stands.fits
  term_fits u (Some x) there = let fits = part_fits u x there in subst (Fits spec x) (sym (fits_phylum spec x fits.0 fits.1)) fits.1

  run_fits : (n : ℕ) → 1 < n → (u : Place) (o : Option Term) → sub whole u ≡ o → n ≤ option_map_or (elements spec) o 0
      → Fits spec (run_kept spec n (unwrap_or o whole)).term (run_kept spec n (unwrap_or o whole)).phylum
  run_fits n many u None there long = absurd (omega (arith, many, long))
  run_fits n many u (Some x) there long =
      let fits = part_fits u x there in
      let is = behind_is_list spec 0 x (omega (arith, many, long)) in
      subst (Fits spec (front spec n x)) (sym (fits_phylum spec x fits.0 fits.1))
      (front_fits spec stands.grove.sound.shapes n x fits.0 long fits.1 is)

  clip_fits : (u : Place) (n : ℕ) → IsRunAt spec whole u n → Fits spec (clip_of spec whole u n).term (clip_of spec whole u n).phylum
  clip_fits u n run = by (nat_eq n 1) refl run
    where
      by_spine : (o : Option Place) → 1 < n → n ≤ option_map_or (λ p. option_map_or (elements spec) (sub whole p) 0) o 0
          → Fits spec (option_map_or (λ p. run_kept spec n (term_at whole p)) o (term_kept spec (term_at whole u))).term
          (option_map_or (λ p. run_kept spec n (term_at whole p)) o (term_kept spec (term_at whole u))).phylum
      by_spine None many long = absurd (omega (arith, many, long))
      by_spine (Some p) many long = run_fits n many p (sub whole p) refl long

      by : (c : Bool) → nat_eq n 1 ≡ c → IsRunAt spec whole u n
          → Fits spec (cond c (term_kept spec (term_at whole u)) (option_map_or (λ p. run_kept spec n (term_at whole p)) (spine_from spec whole u) (term_kept spec (term_at whole u)))).term
          (cond c (term_kept spec (term_at whole u)) (option_map_or (λ p. run_kept spec n (term_at whole p)) (spine_from spec whole u) (term_kept spec (term_at whole u)))).phylum
      by true test at = term_fits u (sub whole u) refl
      by false test (inl alone) = absurd (false≢true (sym test ∙ ap (λ k. nat_eq k 1) alone))
      by false test (inr more) = by_spine (spine_from spec whole u) more.0 more.1

  pub copied_fits : IsClip spec (Some (copied_of spec (state_of b)))
  copied_fits =
      clip_fits (selected_place (state_of b)) (count_here (state_of b))
      (run_there b stands b.grove refl b.selected stands.selected)

module _ (t : Turn) (old new : Held) (had has : Option Clip) (was now : List Instance) (kept : IsKept old.grove.spec t)
    (same : new.grove.spec ≡ old.grove.spec) where
  pub counted_of : {E : Type 0} (r : Result Message E) → IfOk r (λ m. Did t m new has was now) → was ≡ []
      → IfOk r (λ _. length now ≡ length t.set)
  counted_of (Ok m) did none = gained_count new.grove new.root t.state.term t.set was now none kept.once did.evaluated
  counted_of (Err e) did none = tt

  pub fewer_of : {E : Type 0} (r : Result Message E) → OnErr r (GaveUp old.grove.spec t old new had has was now) → was ≡ []
      → OnErr r (length now ≤ length t.set)
  fewer_of (Ok m) gave_up none = tt
  fewer_of (Err e) gave_up none = noted_most old.grove.spec t.state.term t.set was now none (noted_plain old.grove.spec old t.state t.set was now gave_up.noted)

  pub typing_of : {E : Type 0} (r : Result Message E) → IfOk r (λ m. Did t m new has was now)
      → OnErr r (GaveUp old.grove.spec t old new had has was now) → IsTyping old.grove.spec (state_of old)
      → IsTyping new.grove.spec (state_of new)
  typing_of (Ok m) did gave_up is =
      subst (λ (s : Spec). IsTyping s (state_of new)) (sym same) (subst (IsTyping old.grove.spec) (sym did.state) kept.typing)
  typing_of (Err e) did gave_up is =
      subst (λ (s : Spec). IsTyping s (state_of new)) (sym same) (subst (IsTyping old.grove.spec) (sym gave_up.state) is)

  pub fits_of : {E : Type 0} (r : Result Message E) → IfOk r (λ m. Did t m new has was now)
      → OnErr r (GaveUp old.grove.spec t old new had has was now) → IsClip old.grove.spec had
      → IsClip new.grove.spec has
  fits_of (Ok m) did gave_up is =
      subst (λ (s : Spec). IsClip s has) (sym same) (subst (IsClip old.grove.spec) (sym did.copied) kept.clip)
  fits_of (Err e) did gave_up is =
      subst (λ (s : Spec). IsClip s has) (sym same) (subst (IsClip old.grove.spec) (sym gave_up.copied) is)
