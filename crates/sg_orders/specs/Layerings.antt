-- The layers of all attributes, as lists of numbers.
use Rattle.std.specs.Prelude.{◌≡◌, ◌↔◌, ◌⊎◌, ℕ, ◌*◌, ◌<◌, ◌≤◌, Bool, List, length, slice_index}
use Rattle.sg_sets.specs.Rows.{Holds}
use Rattle.sg_kinds.specs.declared.spec.Rules.{Rules}
use Rattle.sg_kinds.specs.Specification.{attrs_of}
use Rattle.sg_kinds.specs.Layers.{IsLayering}
use Rattle.sg_kinds.specs.Visits.{row_at}
use Rattle.sg_dependencies.specs.declared.frame.Frame.{Frame}
use Rattle.sg_dependencies.specs.Induced.{relation_at}
use Rattle.sg_dependencies.specs.Rounds.{AreAlike, IsSpread, frame_at}

-- the layer of an attribute of X
abbrev pub layer_in : List (List ℕ) → ℕ → ℕ → ℕ
layer_in layers X a = slice_index (row_at layers X) a

-- each phylum has its layers, at most two an attribute
pub record AreLayerings (rules : Rules) (layers : List (List ℕ)) : Type 0 where
  pub count : length layers ≡ length rules.phyla
  pub sizes : (X : ℕ) → X < length rules.phyla → length (row_at layers X) ≡ length (attrs_of rules.phyla X)
  pub each : (X : ℕ) → X < length rules.phyla → IsLayering rules X (layer_in layers X)
  pub low : (X a : ℕ) → X < length rules.phyla → a < length (attrs_of rules.phyla X)
      → layer_in layers X a ≤ 2 * length (attrs_of rules.phyla X)

-- a comes in an earlier evaluated layer than b
pub record IsLayered (layers : List ℕ) (a b : ℕ) : Type 0 where
  pub from : a < length layers
  pub to : b < length layers
  pub earlier : slice_index layers b < slice_index layers a

-- each phylum's relation of its attributes to those of later evaluated layers
pub record AreLater (layers : List (List ℕ)) (later : List (List (List Bool))) : Type 0 where
  pub count : length later ≡ length layers
  pub sizes : (X : ℕ) → X < length layers → length (relation_at later X) ≡ length (row_at layers X)
  pub holds : (X a b : ℕ) → X < length layers → Holds (relation_at later X) a b ↔ IsLayered (row_at layers X) a b

-- each operator's relation gains what the phyla relate at its spots
pub record AreExtended (frames : List Frame) (operators new_operators phyla : List (List (List Bool))) : Type 0 where
  pub alike : AreAlike operators new_operators
  pub gains : (p m n : ℕ) → p < length frames → Holds (relation_at new_operators p) m n
      ↔ (Holds (relation_at operators p) m n ⊎ IsSpread (frame_at frames p).spots phyla m n)
