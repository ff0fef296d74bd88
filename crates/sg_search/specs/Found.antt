-- Where the transformations of a name apply in a term.
use Rattle.std.specs.Prelude.{ℕ, Bool, false, not, bytes_eq, List, filter, Option, unwrap_or}
use Rattle.std.specs.List.{find, list_any}
use Rattle.std.specs.Option.{option_map_or}
use Rattle.sg_kinds.specs.InView.{in_view}
use Rattle.sg_kinds.specs.Places.{Place, places_in, sub}
use Rattle.sg_kinds.specs.Specification.{phylum_of}
use Rattle.sg_kinds.specs.Terms.{Term, Leaf, Node}
use Rattle.sg_kinds.specs.ValueOf.{value_of}
use Rattle.sg_kinds.specs.Values.{Bytes}
use Rattle.sg_kinds.specs.declared.spec.Spec.{Spec}
use Rattle.sg_matching.specs.Transformation.{applies}
use Rattle.sg_select.specs.RestingPlaces.{above, behind, rests}

-- the phylum of a term
abbrev pub phylum_in : Spec → Term → ℕ
phylum_in spec (Leaf p v) = p
phylum_in spec (Node op n elided ts) = unwrap_or (phylum_of spec.ops op) 0

-- whether some phylum has a transformation of a name
abbrev pub is_known : Spec → Bytes → Bool
is_known spec name = list_any (λ x. bytes_eq x.name name) spec.transforms

module _ (spec : Spec) (name : Bytes) where
  -- whether one of the name stands on a term's phylum and its pattern matches; the same at a place
  abbrev pub applies_to : Term → Bool
  applies_to x = list_any (applies spec (phylum_in spec x) name (value_of x)) spec.transforms

  abbrev pub applies_at : Term → Place → Bool
  applies_at t u = option_map_or applies_to (sub t u) false

  -- the places at which one applies, a node before its children; of these the outermost
  abbrev pub found : Term → List Place
  found t = filter (applies_at t) (places_in t)

  abbrev pub outer : Term → List Place
  outer t = filter (λ u. not (list_any (applies_at t) (above u))) (found t)

-- the first of them behind a place that rests in a view
abbrev pub found_behind : Spec → ℕ → Bytes → Term → Place → Option Place
found_behind spec v name t u =
    find (rests (in_view spec v) t) (filter (applies_at spec name t) (behind u (places_in t)))
