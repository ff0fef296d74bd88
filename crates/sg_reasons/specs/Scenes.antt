-- What the causes of steps are tested against.
use Rattle.std.specs.Prelude.{◌≡◌, ℕ, ◌+◌, ◌<◌, List, [], length, Some, slice_get, slice_index, All}
use Rattle.sg_kinds.specs.declared.spec.Rules.{Rules}
use Rattle.sg_kinds.specs.Layers.{IsLayering}
use Rattle.sg_dependencies.specs.declared.frame.Frame.{Frame}
use Rattle.sg_dependencies.specs.declared.frame.Spot.{Spot}
use Rattle.sg_dependencies.specs.Frames.{frames_of}
use Rattle.sg_dependencies.specs.Vertices.{AreInRange}
use Rattle.sg_orders.specs.Layerings.{layer_in}
use Rattle.sg_reasons.specs.Reasons.{Reason, Step, AreAt, IsInducing}

-- equations in range, and the frames of their operators
pub record IsScene (rules : Rules) (frames : List Frame) : Type 0 where
  pub range : AreInRange rules
  pub frames_are : frames ≡ frames_of rules

-- the rows that are there have layers
abbrev pub AreLayered : Rules → List (List ℕ) → Type 0
AreLayered rules layers = (X : ℕ) → X < length layers → IsLayering rules X (layer_in layers X)

-- an attribute of a spot has the number m
pub record IsNumber (s : Spot) (a m : ℕ) : Type 0 where
  pub there : a < s.attrs
  pub is : m ≡ s.first + a

-- two have the numbers m and n
pub record StandAt (s : Spot) (a b m n : ℕ) : Type 0 where
  pub from : IsNumber s a m
  pub to : IsNumber s b n

-- the same of attributes of X, which is the spot's phylum
pub record IsPlace (s : Spot) (X a b m n : ℕ) : Type 0 where
  pub phylum : s.phylum ≡ X
  pub stand : StandAt s a b m n

-- a comes in an earlier evaluated layer of X than b
pub record IsLater (layers : List (List ℕ)) (X a b : ℕ) : Type 0 where
  pub row : List ℕ
  pub stands : slice_get layers X ≡ Some row
  pub earlier : slice_index row b < slice_index row a

-- it does so in the spot's phylum, and they have the numbers m and n
pub record AreLater (layers : List (List ℕ)) (s : Spot) (a b m n : ℕ) : Type 0 where
  pub placed : StandAt s a b m n
  pub later : IsLater layers s.phylum a b

-- what a reason relates stands at the ends of its way, the second at the vertex n; its steps are some, none by layers
pub record IsBetween (rules : Rules) (r : Reason) (n : ℕ) : Type 0 where
  pub placed : AreAt rules r.op r.at r.phylum r.from r.to r.way.from n
  pub some : r.way.steps ≡ [] → ⊥
  pub induced : All (λ (s : Step). IsInducing s.cause) r.way.steps
