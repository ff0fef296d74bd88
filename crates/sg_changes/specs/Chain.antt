-- Along which changes a way goes, back or forth, one after another.
use Rattle.std.specs.Prelude.{◌≡◌, ℕ, ◌<◌, Bool, IsTrue, List, [], ◌∷◌, Some, ⊤}
use Rattle.sg_kinds.specs.Terms.{Term}
use Rattle.sg_kinds.specs.Places.{sub}
use Rattle.sg_kinds.specs.Fits.{Fits}
use Rattle.sg_kinds.specs.Sound.{IsSmall}
use Rattle.sg_kinds.specs.declared.spec.Spec.{Spec}
use Rattle.sg_changes.specs.declared.direction.Direction.{Direction}
use Rattle.sg_changes.specs.declared.direction.Direction.TheVariants.{Back, Forth}
use Rattle.sg_changes.specs.declared.spot.Spot.{Spot}
use Rattle.sg_changes.specs.Changes.{Change, Put, Mark, marks_at, opposite, spot_along, term_along}

-- what a change makes stands at its place
abbrev pub HasNew : Term → Change → Type 0
HasNew t (Put u old new before after) = sub t u ≡ Some new
HasNew t (Mark u old new before after) = marks_at t u ≡ Some new

-- what it takes away stands there
abbrev pub HasOld : Term → Change → Type 0
HasOld t (Put u old new before after) = sub t u ≡ Some old
HasOld t (Mark u old new before after) = marks_at t u ≡ Some old

-- both subterms fit one phylum, or both scheme numbers are those of a node
abbrev pub IsProper : Spec → Change → Type 0
IsProper spec (Put u old new before after) = (p : ℕ) × Fits spec old p × Fits spec new p
IsProper spec (Mark u old new before after) = (old.scheme < 16) × (new.scheme < 16)

-- the spots that pass a test
abbrev pub Passes : (Term → Spot → Bool) → Term → Spot → Type 0
Passes test t spot = IsTrue (test t spot)

-- what stands at its place where a way goes along a change
abbrev pub Stands : Direction → Term → Change → Type 0
Stands Back = HasNew
Stands Forth = HasOld

-- a specification, and what can be selected and shown of a term
module _ (spec : Spec) (IsSpotOf : Term → Spot → Type 0) where
  -- a way goes along a change of the term to another one in the limits
  pub record CanGo (d : Direction) (t : Term) (c : Change) : Type 0 where
    pub stands : Stands d t c
    pub proper : IsProper spec c
    pub small : IsSmall (term_along d t c)
    pub here : IsSpotOf t (spot_along (opposite d) c)
    pub there : IsSpotOf (term_along d t c) (spot_along d c)

  -- changes, the nearest first, along which a way goes one after another
  abbrev pub AllGo : Direction → Term → List Change → Type 0
  AllGo d t [] = ⊤
  AllGo d t (c ∷ cs) = CanGo d t c × AllGo d (term_along d t c) cs

  -- changes, the newest first, can be undone, and others, the next one first, done again
  abbrev pub AllUndo : Term → List Change → Type 0
  AllUndo = AllGo Back

  abbrev pub AllRedo : Term → List Change → Type 0
  AllRedo = AllGo Forth
