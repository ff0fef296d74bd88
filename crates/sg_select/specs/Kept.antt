-- What a walk up from a place keeps.
use Rattle.std.specs.Prelude.{◌≡◌, true, false, ◌∷◌, Option, Some, None}
use Rattle.std.specs.List.{find}
use Rattle.sg_kinds.specs.Terms.{Term}
use Rattle.sg_kinds.specs.Places.{Place}
use Rattle.sg_kinds.specs.declared.spec.Spec.{Spec}
use Rattle.sg_select.specs.RestingPlaces.{above, is_open, rests}

-- what was kept, else another
abbrev pub or_kept : Option Place → Option Place → Option Place
or_kept (Some v) o = Some v
or_kept None o = o

module _ (spec : Spec) (t : Term) where
  -- the nearest resting place at a place or above it
  abbrev pub nearest : Place → Option Place
  nearest u = find (rests spec t) (u ∷ above u)

  -- a walk from one place to another: what is kept is the lowest resting place below the other, if that can be reached; if
  -- not, none of those below it rests
  pub record IsKept (u w : Place) (kept : Option Place) : Type 0 where
    pub reached : is_open spec t w ≡ true → nearest u ≡ or_kept kept (nearest w)
    pub closed : is_open spec t w ≡ false → nearest u ≡ nearest w
