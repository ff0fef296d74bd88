-- The steps from the direct dependencies to all of them.
use Rattle.std.specs.Prelude.{◌≡◌, ℕ, ◌+◌, ◌<◌, ◌≤◌, ◌^◌, Bool, false, List, [], length, replicate, slice_index_or, Contains, All}
use Rattle.sg_sets.specs.Rows.{Holds}
use Rattle.sg_sets.specs.Paths.{Path}
use Rattle.sg_sets.specs.Cycles.{HasNoCycle}
use Rattle.sg_kinds.specs.declared.spec.Rules.{Rules}
use Rattle.sg_kinds.specs.declared.spec.Rule.{Rule}
use Rattle.sg_kinds.specs.declared.spec.Occurrence.{Occurrence}
use Rattle.sg_kinds.specs.Dependencies.{InOperator, InPhylum}
use Rattle.sg_dependencies.specs.Vertices.{Numbered, AreInRange}
use Rattle.sg_dependencies.specs.Induced.{relation_at}
use Rattle.sg_dependencies.specs.Reported.{IsReported}
use Rattle.sg_dependencies.specs.Frames.{Spot, Frame, frames_of, number_in}

-- the relation on n vertices that relates none
abbrev pub no_pairs : ℕ → List (List Bool)
no_pairs n = replicate n (replicate n false)

-- the first of the relations that has a cycle, and that cycle
pub record IsFirstCycle (relations : List (List (List Bool))) (p : ℕ) (c : List ℕ) : Type 0 where
  pub there : p < length relations
  pub before : (q : ℕ) → q < p → HasNoCycle (Holds (relation_at relations q))
  pub cycle : IsReported (Holds (relation_at relations p)) c

-- an occurrence has a number below n by the frame
pub record IsNumberedBelow (frame : Frame) (n : ℕ) (o : Occurrence) : Type 0 where
  pub there : o.at < length frame.spots
  pub under : number_in frame o < n
  pub small : number_in frame o < 2 ^ 32

-- the numbers of one of the first i occurrences that an equation names, and of the one that it defines
pub record IsNamed (frame : Frame) (rule : Rule) (i m n : ℕ) : Type 0 where
  pub place : ℕ
  pub low : place < i
  pub from : number_in frame (slice_index_or rule.args place rule.target) ≡ m
  pub to : number_in frame rule.target ≡ n

-- the phylum of a spot and its vertices are there
pub record Fits (size : ℕ) (phyla : List (List (List Bool))) (s : Spot) : Type 0 where
  pub phylum : s.phylum < length phyla
  pub attrs : length (relation_at phyla s.phylum) ≡ s.attrs
  pub room : s.first + s.attrs ≤ size
  pub small : s.first + s.attrs < 2 ^ 32

-- two vertices of a spot whose attributes are related
pub record IsPlaced (s : Spot) (rows : List (List Bool)) (m n : ℕ) : Type 0 where
  pub a : ℕ
  pub b : ℕ
  pub a_there : a < s.attrs
  pub b_there : b < s.attrs
  pub related : Holds rows a b
  pub from : m ≡ s.first + a
  pub to : n ≡ s.first + b

-- two attributes of a spot whose vertices are related
pub record IsMet (s : Spot) (R : ℕ → ℕ → Type 0) (a b : ℕ) : Type 0 where
  pub a_there : a < s.attrs
  pub b_there : b < s.attrs
  pub related : R (s.first + a) (s.first + b)

-- two vertices that a phylum relates at one of the spots
pub record IsSpread (spots : List Spot) (phyla : List (List (List Bool))) (m n : ℕ) : Type 0 where
  pub spot : Spot
  pub stands : Contains spots spot
  pub placed : IsPlaced spot (relation_at phyla spot.phylum) m n

-- two attributes of X that a relation of vertices relates at one of the spots
pub record IsJoined (spots : List Spot) (R : ℕ → ℕ → Type 0) (X a b : ℕ) : Type 0 where
  pub spot : Spot
  pub stands : Contains spots spot
  pub phylum : spot.phylum ≡ X
  pub met : IsMet spot R a b

-- nothing is to be added for an operator
pub record IsSettled (spots : List Spot) (rows : List (List Bool)) (phyla : List (List (List Bool))) : Type 0 where
  pub spread : (m n : ℕ) → IsSpread spots phyla m n → Holds rows m n
  pub joined : (X a b : ℕ) → IsJoined spots (Path (Holds rows)) X a b → Holds (relation_at phyla X) a b

-- every pair is a dependency
pub record AreSound (rules : Rules) (operators phyla : List (List (List Bool))) : Type 0 where
  pub operator : (p m n : ℕ) → Holds (relation_at operators p) m n → Numbered rules p (InOperator rules p) m n
  pub phylum : (X a b : ℕ) → Holds (relation_at phyla X) a b → InPhylum rules X a b

-- two families of relations are as many and of equal sizes
pub record AreAlike (old new : List (List (List Bool))) : Type 0 where
  pub count : length new ≡ length old
  pub sizes : (k : ℕ) → length (relation_at new k) ≡ length (relation_at old k)

abbrev pub no_frame : Frame
no_frame = record { spots = []; locals = 0; count = 0 }

abbrev pub frame_at : List Frame → ℕ → Frame
frame_at frames p = slice_index_or frames p no_frame

-- each operator has a relation on its vertices, and its phyla have theirs
pub record AreFitting (frames : List Frame) (operators phyla : List (List (List Bool))) : Type 0 where
  pub count : length operators ≡ length frames
  pub fits : (p : ℕ) → p < length frames → All (Fits (length (relation_at operators p)) phyla) (frame_at frames p).spots

-- nothing is to be added for any operator
abbrev pub AreSettled : List Frame → List (List (List Bool)) → List (List (List Bool)) → Type 0
AreSettled frames operators phyla = (p : ℕ) → p < length frames
    → IsSettled (frame_at frames p).spots (relation_at operators p) phyla

-- dependencies stay so, for whatever equations these are the frames
abbrev pub StaySound : List Frame → List (List (List Bool)) → List (List (List Bool)) → List (List (List Bool))
    → List (List (List Bool)) → Type 0
StaySound frames operators phyla new_operators new_phyla =
    (rules : Rules) → AreInRange rules → frames ≡ frames_of rules → AreSound rules operators phyla
    → AreSound rules new_operators new_phyla
