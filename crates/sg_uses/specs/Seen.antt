-- When an ordered set tells which names are visible.
use Rattle.std.specs.Prelude.{◌≡◌, ℕ, Bool, false, List, [], ◌∷◌, Vec, ⊤}
use Rattle.std.specs.BTreeSet.{BTreeSet, contains_by}
use Rattle.std.specs.Cmp.Lexicographic.{slice_cmp}
use Rattle.std.specs.Ordering.{nat_cmp}
use Rattle.sg_kinds.specs.Values.{Bytes}
use Rattle.sg_names.specs.Uses.{is_visible}

-- no name stands twice
abbrev pub StandOnce : List Bytes → Type 0
StandOnce [] = ⊤
StandOnce (n ∷ ns) = (is_visible ns n ≡ false) × StandOnce ns

abbrev pub holds : {A : Type 0} → BTreeSet (Vec ℕ A) → Bytes → Bool
holds seen n = contains_by (λ k. slice_cmp nat_cmp n k.items) seen

pub record IsSeen {A : Type 0} (names : List Bytes) (seen : BTreeSet (Vec ℕ A)) : Type 0 where
  pub told : (n : Bytes) → holds seen n ≡ is_visible names n
  pub once : StandOnce names
