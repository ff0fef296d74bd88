-- What the answer of an editing command says of the tree in which a node stands.
use Rattle.std.specs.Prelude.{◌≡◌, ℕ, ◌∷◌, Bool, if◌then◌else◌, Result, IfOk}
use Rattle.sg_kinds.specs.Places.{Place}
use Rattle.sg_kinds.specs.Terms.{Term}
use Rattle.sg_forest.specs.declared.node_id.NodeId.{NodeId}
use Rattle.sg_groves.specs.Grove.{Grove}
use Rattle.sg_groves.specs.Holds.{IsPlaced}
use Rattle.sg_edits.specs.Choice.{Choice, choice_of, limited, IsFit}
use Rattle.sg_edits.specs.Edits.{IsRunAt, left_at}
use Rattle.sg_edits.specs.declared.choice.Choice as declared

-- a node begins a run of so many elements of its list, or is one alone
pub record IsRun (g : Grove) (n : NodeId) (count : ℕ) : Type 0 where
  pub root : NodeId
  pub term : Term
  pub place : Place
  pub placed : IsPlaced g root term place n
  pub run : IsRunAt g.spec term place count

-- the choice is this, of the whole term and the node's place
abbrev pub IsChoice : {E : Type 0} → Grove → NodeId → Result declared.Choice E → (Term → Place → Choice) → Type 0
IsChoice g n r choice = IfOk r (λ c. (root : NodeId) (t : Term) (u : Place) → IsPlaced g root t u n
    → choice_of c ≡ choice t u)

-- the choice is this behind the last guard
abbrev pub IsLimited : {E : Type 0} → Grove → NodeId → Result declared.Choice E → (Term → Place → Choice) → Type 0
IsLimited g n r choice = IfOk r (λ c. (root : NodeId) (t : Term) (u : Place) → IsPlaced g root t u n
    → limited t (choice_of c) ≡ limited t (choice t u))

-- what is put fits in its place
abbrev pub PutsFit : {E : Type 0} → Grove → NodeId → Result declared.Choice E → Type 0
PutsFit g n r = IfOk r (λ c. (root : NodeId) (t : Term) (u : Place) → IsPlaced g root t u n
    → IsFit g.spec t (choice_of c))

-- the node, or its first child, is what is selected where a list's node at a place went and `y` came there
pub record IsLeft (g : Grove) (root : NodeId) (t : Term) (u : Place) (y : Term) (n : NodeId) (first : Bool)
    : Type 0 where
  pub place : Place
  pub placed : IsPlaced g root t place n
  pub is : (if first then 0 ∷ place else place) ≡ left_at g.spec t u y
