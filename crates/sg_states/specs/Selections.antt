-- Selections of a term in a view: a resting place there, or as many elements of a list from there on as a count says.
use Rattle.std.specs.Prelude.{ℕ, Bool, ◌&&◌, ◌||◌, not, nat_eq, nat_lt, bytes_eq, if◌then◌else◌, List, reverse}
use Rattle.std.specs.Option.{option_map_or}
use Rattle.sg_kinds.specs.Terms.{Term}
use Rattle.sg_kinds.specs.Places.{Place, place_of, sub}
use Rattle.sg_kinds.specs.InView.{in_view}
use Rattle.sg_kinds.specs.declared.spec.Spec.{Spec}
use Rattle.sg_changes.specs.declared.spot.Selection.{Selection}
use Rattle.sg_select.specs.RestingPlaces.{rests, settled}
use Rattle.sg_select.specs.Paths.{elements, spine_from}

-- the path that names a place
abbrev pub path_to : Place → List ℕ
path_to u = reverse u

-- a place alone, and the place of a selection
abbrev pub alone : Place → Selection
alone u = record { path = path_to u; count = 1 }

abbrev pub place_in : Selection → Place
place_in s = place_of s.path

-- how many elements of its list are there from an element on; 0 at another node
abbrev pub elements_at : Spec → Term → Place → ℕ
elements_at spec t u = option_map_or (λ v. option_map_or (elements spec) (sub t v) 0) (spine_from spec t u) 0

module _ (spec : Spec) (v : ℕ) (t : Term) where
  -- whether a place with a count is a selection: it rests, and is alone or begins so many elements of a list
  abbrev pub is_selection : Place → ℕ → Bool
  is_selection u n = rests (in_view spec v) t u && (nat_eq n 1 || (nat_lt 1 n && not (nat_lt (elements_at spec t u) n)))

  -- the count that a place keeps where it is settled to another one: its own where it stays and is a selection, else 1
  abbrev pub settled_count : Place → Place → ℕ → ℕ
  settled_count u w n = if bytes_eq w u && is_selection w n then n else 1

  -- the settled selection
  abbrev pub settled_selection : Selection → Selection
  settled_selection s =
      let u = place_in s in
      let w = settled (in_view spec v) t u in
      record { path = path_to w; count = settled_count u w s.count }
