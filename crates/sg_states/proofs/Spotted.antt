-- Spots, whose first line is seen.
use Rattle.std.specs.Prelude.{◌≡◌, ℕ, ◌+◌, ◌<◌, ◌≤◌, true, not, nat_lt}
use Rattle.std.proofs.Common.{ap, ◌∙◌, subst, arith}
use Rattle.std.proofs.lemmas.Bool.{and_parts}
use Rattle.std.proofs.lemmas.Bool.Decides.{nat_tests}
use Rattle.sg_kinds.specs.Terms.{Term}
use Rattle.sg_kinds.specs.Places.{Place}
use Rattle.sg_kinds.specs.declared.spec.Spec.{Spec}
use Rattle.sg_kinds.proofs.Elementary.{and_true}
use Rattle.sg_changes.specs.Top.{topped}
use Rattle.sg_changes.specs.declared.spot.Selection.{Selection}
use Rattle.sg_changes.specs.declared.spot.Spot.{Spot}
use Rattle.sg_changes.proofs.Showing.{topped_below, topped_shows, topped_stays}
use Rattle.sg_states.specs.Selections.{place_in, is_selection, settled_selection}
use Rattle.sg_states.specs.Seen.{first_line, seen, is_seen, is_spot, respotted, settled_spot}
use Rattle.sg_states.proofs.Selecting.{settled_selected, settled_stays}

at_most : (m n : ℕ) → m ≤ n → not (nat_lt n m) ≡ true
at_most m n h = grind (arith, nat_tests)

at_most_is : (m n : ℕ) → not (nat_lt n m) ≡ true → m ≤ n
at_most_is m n h = grind (arith, nat_tests)

below : (m n : ℕ) → m < n → nat_lt m n ≡ true
below m n h = grind (arith, nat_tests)

below_is : (m n : ℕ) → nat_lt m n ≡ true → m < n
below_is m n h = grind (arith, nat_tests)

module _ (spec : Spec) (height : ℕ) (t : Term) where
  pub seen_at : (v : ℕ) (u : Place) (top : ℕ) → 0 < height → is_seen spec height v t u (topped height (first_line spec v t u) top) ≡ true
  seen_at v u top tall =
      let line = first_line spec v t u in
      and_true (not (nat_lt line (topped height line top))) (nat_lt line (topped height line top + height))
      (at_most (topped height line top) line (topped_below height line top tall)) (below line (topped height line top + height) (topped_shows height line top tall))

  pub top_stays : (v : ℕ) (u : Place) (top : ℕ) → is_seen spec height v t u top ≡ true → topped height (first_line spec v t u) top ≡ top
  top_stays v u top is =
      let line = first_line spec v t u in
      let parts = and_parts (not (nat_lt line top)) (nat_lt line (top + height)) is in
      topped_stays height line top (at_most_is top line parts.0) (below_is line (top + height) parts.1)

  pub spot_seen : (v : ℕ) (s : Selection) (top : ℕ) → 0 < height → is_selection spec v t (place_in s) s.count ≡ true → is_spot spec height t (seen spec height v t s top) ≡ true
  spot_seen v s top tall is =
      and_true (is_selection spec v t (place_in s) s.count) (is_seen spec height v t (place_in s) (topped height (first_line spec v t (place_in s)) top)) is (seen_at v (place_in s) top tall)

  pub spot_selects : (s : Spot) → is_spot spec height t s ≡ true → is_selection spec s.view t (place_in s.selection) s.selection.count ≡ true
  spot_selects s is = (and_parts (is_selection spec s.view t (place_in s.selection) s.selection.count) (is_seen spec height s.view t (place_in s.selection) s.top) is).0

  pub spot_shows : (s : Spot) → is_spot spec height t s ≡ true → is_seen spec height s.view t (place_in s.selection) s.top ≡ true
  spot_shows s is = (and_parts (is_selection spec s.view t (place_in s.selection) s.selection.count) (is_seen spec height s.view t (place_in s.selection) s.top) is).1

  -- a spot of the term stays in its own view, settled and by the rule of the top
  pub spot_stays : (s : Spot) → is_spot spec height t s ≡ true → respotted spec height s.view t s ≡ s
  spot_stays s is =
      ap (λ z. seen spec height s.view t z s.top) (settled_stays spec s.view t s.selection (spot_selects s is))
      ∙ ap (λ n. let r : Spot = record { selection = s.selection; top = n; view = s.view } in r) (top_stays s.view (place_in s.selection) s.top (spot_shows s is))

  -- also where its view is told otherwise
  pub spot_stays_in : (s : Spot) (v : ℕ) → s.view ≡ v → is_spot spec height t s ≡ true → respotted spec height v t s ≡ s
  spot_stays_in s v same is = subst (λ v. respotted spec height v t s ≡ s) same (spot_stays s is)

  -- what is settled in a view is a spot
  pub selected_seen : (v : ℕ) (s : Selection) (top : ℕ) → 0 < height → is_spot spec height t (settled_spot spec height v t s top) ≡ true
  selected_seen v s top tall = spot_seen v (settled_selection spec v t s) top tall (settled_selected spec v t s)

  pub settled_seen : (v : ℕ) (s : Spot) → 0 < height → is_spot spec height t (respotted spec height v t s) ≡ true
  settled_seen v s tall = selected_seen v s.selection s.top tall
