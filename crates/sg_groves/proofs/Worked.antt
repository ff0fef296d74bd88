-- The definitions on worked examples.
use Rattle.std.specs.Prelude.{◌≡◌, refl, ℕ, pos, false, [], ◌∷◌, Some, None}
use Rattle.sg_kinds.specs.Values.{Number, Fault}
use Rattle.sg_kinds.specs.Terms.{Term, Leaf, Node, NoTerm, kids_of}
use Rattle.sg_kinds.specs.Outcome.{outcome_of}
use Rattle.sg_kinds.specs.Places.{Place}
use Rattle.sg_kinds.specs.Nets.{Reference}
use Rattle.sg_kinds.specs.declared.marks.FaultKind.TheVariants.{Fuel}
use Rattle.sg_kinds.proofs.Languages.{sums}
use Rattle.sg_forest.specs.Tree.{Tree, node, end, beside}
use Rattle.sg_groves.specs.Holds.{term_of}
use Rattle.sg_groves.specs.declared.kind.Kind.{Kind}
use Rattle.sg_groves.specs.declared.part.Part.{Part}
use Rattle.sg_groves.specs.Evaluated.{evaluated}

ref : Place → ℕ → Reference Place
ref u slot = record { node = u; slot = slot }

const : ℕ → Term
const n = Node 3 0 false (kids_of (Leaf 1 (Number (pos n)) ∷ []))

-- the sum 4 + <exp>, where the placeholder's value is 0
four_plus : Term
four_plus = Node 0 0 false (kids_of (Node 2 0 false (kids_of (const 4 ∷ Node 1 0 false NoTerm ∷ [])) ∷ []))

-- the new subterm has one equation, and the sum over it another argument
changed_sum : evaluated sums four_plus (1 ∷ 0 ∷ []) (const 3) ≡ ref (0 ∷ []) 0 ∷ ref (1 ∷ 0 ∷ []) 0 ∷ []
unfolding four_plus const ref outcome_of
changed_sum = refl

-- an equal value stops at once
same_sum : evaluated sums four_plus (1 ∷ 0 ∷ []) (const 0) ≡ ref (1 ∷ 0 ∷ []) 0 ∷ []
unfolding four_plus const ref outcome_of
same_sum = refl

-- a leaf has no equation of its own
changed_leaf : evaluated sums four_plus (0 ∷ 0 ∷ 0 ∷ []) (Leaf 1 (Number (pos 5))) ≡ ref (0 ∷ []) 0 ∷ ref (0 ∷ 0 ∷ []) 0 ∷ []
unfolding four_plus const ref outcome_of
changed_leaf = refl

same_leaf : evaluated sums four_plus (0 ∷ 0 ∷ 0 ∷ []) (Leaf 1 (Number (pos 4))) ≡ []
unfolding four_plus const ref outcome_of
same_leaf = refl

-- a constant over its leaf, whose value is number 1; the constant's own is not known yet
leaf : Tree Kind Part
leaf = node (record { phylum = 1; op = None; arity = 0 }) (record { scheme = 0; elided = false; values = 1 ∷ [] }) end

constant : Tree Kind Part
constant = node (record { phylum = 4; op = Some 3; arity = 1 }) (record { scheme = 0; elided = false; values = 0 ∷ [] }) (beside leaf end)

held : term_of (Fault Fuel ∷ Number (pos 4) ∷ []) constant ≡ const 4
unfolding constant leaf const
held = refl
