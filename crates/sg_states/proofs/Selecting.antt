-- Selections that are settled.
use Rattle.std.specs.Prelude.{◌≡◌, refl, ℕ, Bool, true, false, ◌&&◌, ◌||◌, not, cond, nat_eq, nat_lt, bytes_eq, List}
use Rattle.std.proofs.Common.{sym, ap, ◌∙◌, subst}
use Rattle.std.proofs.lemmas.Bool.{and_parts}
use Rattle.std.proofs.lemmas.List.{reverse-reverse}
use Rattle.sg_kinds.specs.Terms.{Term}
use Rattle.sg_kinds.specs.Places.{Place, place_of}
use Rattle.sg_kinds.specs.InView.{in_view}
use Rattle.sg_kinds.specs.declared.spec.Spec.{Spec}
use Rattle.sg_kinds.proofs.Elementary.{and_true, bytes_itself}
use Rattle.sg_changes.specs.declared.spot.Selection.{Selection}
use Rattle.sg_select.specs.RestingPlaces.{rests, settled}
use Rattle.sg_select.proofs.Settling.{settled_rests, settled_itself}
use Rattle.sg_states.specs.Selections.{path_to, alone, place_in, elements_at, is_selection, settled_count, settled_selection}

-- a path and its place
pub path_there : (u : Place) → place_of (path_to u) ≡ u
path_there u = reverse-reverse u

pub path_back : (path : List ℕ) → path_to (place_of path) ≡ path
path_back path = reverse-reverse path

module _ (spec : Spec) (v : ℕ) (t : Term) where
  pub selection_rests : (u : Place) (n : ℕ) → is_selection spec v t u n ≡ true → rests (in_view spec v) t u ≡ true
  selection_rests u n is = (and_parts (rests (in_view spec v) t u) (nat_eq n 1 || (nat_lt 1 n && not (nat_lt (elements_at spec t u) n))) is).0

  pub one_selected : (u : Place) → rests (in_view spec v) t u ≡ true → is_selection spec v t u 1 ≡ true
  one_selected u rest = and_true (rests (in_view spec v) t u) true rest refl

  pub count_selected : (u w : Place) (n : ℕ) → rests (in_view spec v) t w ≡ true → is_selection spec v t w (settled_count spec v t u w n) ≡ true
  count_selected u w n rest = by (bytes_eq w u) (is_selection spec v t w n) refl
    where
      by : (a b : Bool) → is_selection spec v t w n ≡ b → is_selection spec v t w (cond (a && b) n 1) ≡ true
      by true true is = is
      by true false is = one_selected w rest
      by false b is = one_selected w rest

  pub count_stays : (u : Place) (n : ℕ) → is_selection spec v t u n ≡ true → settled_count spec v t u u n ≡ n
  count_stays u n is = ap (λ b. cond (b && is_selection spec v t u n) n 1) (bytes_itself u) ∙ ap (λ b. cond b n 1) is

  pub settled_selected : (s : Selection) → is_selection spec v t (place_in (settled_selection spec v t s)) (settled_selection spec v t s).count ≡ true
  settled_selected s =
      let w = settled (in_view spec v) t (place_in s) in
      let n = settled_count spec v t (place_in s) w s.count in
      subst (λ z. is_selection spec v t z n ≡ true) (sym (path_there w)) (count_selected (place_in s) w s.count (settled_rests (in_view spec v) t (place_in s)))

  pub settled_stays : (s : Selection) → is_selection spec v t (place_in s) s.count ≡ true → settled_selection spec v t s ≡ s
  settled_stays s is =
      let u = place_in s in
      let same : settled (in_view spec v) t u ≡ u = settled_itself (in_view spec v) t u (selection_rests u s.count is) in
      ap (λ w. let r : Selection = record { path = path_to w; count = settled_count spec v t u w s.count } in r) same
      ∙ ap (λ p. let r : Selection = record { path = p; count = settled_count spec v t u u s.count } in r) (path_back s.path)
      ∙ ap (λ n. let r : Selection = record { path = s.path; count = n } in r) (count_stays u s.count is)

  pub alone_selected : (u : Place) → rests (in_view spec v) t u ≡ true → is_selection spec v t (place_in (alone u)) 1 ≡ true
  alone_selected u rest = subst (λ z. is_selection spec v t z 1 ≡ true) (sym (path_there u)) (one_selected u rest)
