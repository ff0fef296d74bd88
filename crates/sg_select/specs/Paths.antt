-- Where paths from a root lead, and how many elements of a list are there from a node on.
use Rattle.std.specs.Prelude.{◌≡◌, ℕ, zero, suc, Bool, true, false, if◌then◌else◌, [], ◌∷◌, ◌++◌, Option, Some, None, option_map, unwrap_or}
use Rattle.sg_kinds.specs.Terms.{Term, Leaf, Node, NoTerm, AndTerm}
use Rattle.sg_kinds.specs.Places.{Place, sub}
use Rattle.sg_kinds.specs.Sound.{is_pair}
use Rattle.sg_kinds.specs.declared.spec.Spec.{Spec}
use Rattle.sg_forest.specs.declared.node_id.NodeId.{NodeId}
use Rattle.sg_groves.specs.Grove.{Grove}
use Rattle.sg_groves.specs.Holds.{IsPlaced}

-- a place, if the term has it
abbrev pub there : Term → Place → Option Place
there t u = option_map (λ _. u) (sub t u)

-- the term has not all of a place: it ends behind a front of it
pub record EndsAt (t : Term) (u front : Place) : Type 0 where
  pub rest : Place
  pub next : ℕ
  pub is : u ≡ rest ++ next ∷ front
  pub none : sub t (next ∷ front) ≡ None

-- the node at the longest front of a place that the term has, and whether that is the whole place
pub record GoesTo (g : Grove) (root : NodeId) (t : Term) (u : Place) (n : NodeId) (whole : Bool) : Type 0 where
  pub front : Place
  pub placed : IsPlaced g root t front n
  pub all : whole ≡ true → u ≡ front
  pub ends : whole ≡ false → EndsAt t u front

-- the node of a list of which a node is an element: its binary node where the node is that one's first child
abbrev pub is_list_node : Spec → Term → Bool
is_list_node spec (Leaf p v) = false
is_list_node spec (Node op n elided ts) = is_pair spec op

abbrev pub spine_from : Spec → Term → Place → Option Place
spine_from spec t [] = None
spine_from spec t (zero ∷ u) = if unwrap_or (option_map (is_list_node spec) (sub t u)) false then Some u else None
spine_from spec t (suc k ∷ u) = None

-- how many elements of its list are there from a node on: the binary nodes, each the second child of the one before
abbrev pub elements : Spec → Term → ℕ
elements spec (Leaf p v) = 0
elements spec (Node op n elided NoTerm) = 0
elements spec (Node op n elided (AndTerm x NoTerm)) = 0
elements spec (Node op n elided (AndTerm x (AndTerm y ts))) = if is_pair spec op then suc (elements spec y) else 0
