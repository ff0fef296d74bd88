-- The transformations that apply at the selection.
use Rattle.std.specs.Prelude.{ℕ, Bool, true, false, not, nat_eq, bytes_eq, ◌&&◌, ◌||◌, if◌then◌else◌, List, [], ◌∷◌, ◌++◌, map, filter, fold, is_some}
use Rattle.std.specs.List.{list_any}
use Rattle.std.specs.Option.{option_map_or}
use Rattle.std.specs.Borrow.{Bor}
use Rattle.sg_kinds.specs.Evaluation.{bound_by}
use Rattle.sg_kinds.specs.Terms.{Term}
use Rattle.sg_kinds.specs.ValueOf.{value_of}
use Rattle.sg_kinds.specs.Values.{Bytes, Value}
use Rattle.sg_kinds.specs.declared.spec.Spec.{Spec}
use Rattle.sg_kinds.specs.declared.spec.Transform.{Transform}
use Rattle.sg_matching.specs.Transformation.{Given, Unknown, NoMatch, Gives}
use Rattle.sg_states.specs.States.{State}
use Rattle.sg_edits.specs.Edits.{phylum_in}
use Rattle.sg_commands.specs.Turns.{selected_term}
use Rattle.sg_editor.specs.Session.{Session, current_of}

-- whether the transformations of a name give something
abbrev pub is_given : Given → Bool
is_given Unknown = false
is_given NoMatch = false
is_given (Gives v) = true

-- a name more, unless it is among them
abbrev pub with_name : List Bytes → Bytes → List Bytes
with_name names name = if list_any (bytes_eq name) names then names else names ++ name ∷ []

-- each name once, where it comes first
abbrev pub each_once : List Bytes → List Bytes
each_once names = fold with_name [] names

abbrev pub names_of : List (Bor (List ℕ)) → List Bytes
names_of names = map (λ (n : Bor (List ℕ)). n.now) names

module _ (spec : Spec) where
  -- whether a transformation stands on a phylum, and its pattern matches a value
  abbrev pub applies_to : ℕ → Value → Transform → Bool
  applies_to p v x = nat_eq x.phylum p && is_some (bound_by spec x.pattern v)

  -- the names of those that do, in the order of the specification
  abbrev pub names_for : ℕ → Value → List Bytes
  names_for p v = each_once (map (λ (x : Transform). x.name) (filter (applies_to p v) spec.transforms))

  abbrev pub names_at : Term → List Bytes
  names_at t = names_for (phylum_in spec t) (value_of t)

  -- those that apply at the selected node; none while a text is typed there, and none to several elements
  abbrev pub offered_in : State → List Bytes
  offered_in st =
      if is_some st.capture || not (nat_eq st.spot.selection.count 1) then [] else names_at (selected_term st)

  abbrev pub offers : Session → List Bytes
  offers s = option_map_or (λ b. offered_in b.1) (current_of s) []
