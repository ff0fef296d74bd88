-- Which pattern the nodes of a program make, and which patterns those of a program in the making.
use Rattle.std.specs.Prelude.{◌≡◌, ℕ, ◌+◌, ◌<◌, ◌≤◌, Bool, true, List, [], ◌∷◌, ◌++◌, map, length, Some, slice_get}
use Rattle.sg_kinds.specs.Lexemes as plain
use Rattle.sg_kinds.specs.Matches.{MatchesFrom}
use Rattle.sg_kinds.specs.Values.{Bytes}
use Rattle.sg_patterns.specs.declared.program.Node.{Node}
use Rattle.sg_patterns.specs.declared.program.Above.{Above}
use Rattle.sg_patterns.specs.declared.program.Node.TheVariants.{Nothing, Leaf, Then, Either, Over}
use Rattle.sg_patterns.specs.declared.program.Above.TheVariants.{Top, Same, After, Again}
use Rattle.sg_patterns.specs.declared.program.Program.{Program}
use Rattle.sg_patterns.specs.declared.program.Building.{Building}
use Rattle.sg_patterns.specs.Flags.{flag_at}
use Rattle.sg_patterns.specs.Rows.{AreRows}
use Rattle.sg_patterns.specs.Trees.{Tree, root_of, pattern_of, IsLaidOut}

-- the tree stands in these lists
abbrev pub AreLaidOut : List Node → List Above → List Bool → Tree → Type 0
AreLaidOut nodes above empties t = IsLaidOut (slice_get nodes) (slice_get above) (flag_at empties) t

-- trees stand one before the other, the last before place n, and none is a part of another
abbrev pub StandBelow : List Node → List Above → List Bool → ℕ → List Tree → Type 0
StandBelow nodes above empties n [] = Unit {0}
StandBelow nodes above empties n (t ∷ ts) =
    (root_of t < n) × (slice_get above (root_of t) ≡ Some Top) × AreLaidOut nodes above empties t
    × StandBelow nodes above empties (root_of t) ts

-- the roots of trees, that of the first tree last
abbrev pub roots_of : List Tree → List ℕ
roots_of [] = []
roots_of (t ∷ ts) = roots_of ts ++ root_of t ∷ []

-- the parts of a node stand before it
abbrev pub PartsBefore : ℕ → Node → Type 0
PartsBefore k Nothing = Unit {0}
PartsBefore k (Leaf l) = Unit {0}
PartsBefore k (Then a b) = (a < k) × (b < k)
PartsBefore k (Either a b) = (a < k) × (b < k)
PartsBefore k (Over a) = a < k

-- the node above stands behind
abbrev pub NodeAfter : ℕ → Above → Type 0
NodeAfter k Top = Unit {0}
NodeAfter k (Same p) = k < p
NodeAfter k (After p a) = k < p
NodeAfter k (Again p) = k < p

abbrev pub EachAfterParts : List Node → Type 0
EachAfterParts nodes = (k : ℕ) (x : Node) → slice_get nodes k ≡ Some x → PartsBefore k x

abbrev pub EachBeforeNode : List Above → Type 0
EachBeforeNode above = (k : ℕ) (a : Above) → slice_get above k ≡ Some a → NodeAfter k a

-- the lists hold trees of these patterns, the last made first
pub record HoldsIn (nodes : List Node) (above : List Above) (empties : List Bool) (roots : List ℕ)
    (ps : List plain.Lexeme) : Type 0 where
  pub trees : List Tree
  pub patterns : map pattern_of trees ≡ ps
  pub at_roots : roots ≡ roots_of trees
  pub stand : StandBelow nodes above empties (length nodes) trees
  pub above_each : length above ≡ length nodes
  pub empty_each : length empties ≡ length nodes
  pub parts : EachAfterParts nodes
  pub order : EachBeforeNode above

abbrev pub Holds : Building → List plain.Lexeme → Type 0
Holds b ps = HoldsIn b.nodes.items b.above.items b.empties.items b.roots.items ps

abbrev pub HoldsSome : Building → Type 0
HoldsSome b = (ps : List plain.Lexeme) × Holds b ps

-- one more node, which is a root
pub record Pushes (old new : Building) (node : Node) (empty : Bool) : Type 0 where
  pub nodes : new.nodes.items ≡ old.nodes.items ++ node ∷ []
  pub above : new.above.items ≡ old.above.items ++ Top ∷ []
  pub empties : new.empties.items ≡ old.empties.items ++ empty ∷ []
  pub roots : new.roots.items ≡ old.roots.items ++ length old.nodes.items ∷ []

-- each node stands behind its parts, and the rows are those of the nodes
pub record IsOrdered (p : Program) : Type 0 where
  pub each : length p.above.items ≡ length p.nodes.items
  pub parts : EachAfterParts p.nodes.items
  pub order : EachBeforeNode p.above.items
  pub rows : AreRows p p.rows

-- no match of some bytes begins with this byte
abbrev pub IsBarred : plain.Lexeme → ℕ → Type 0
IsBarred p b = (text : Bytes) (at n : ℕ) → slice_get text at ≡ Some b → MatchesFrom p text at (at + n) → n ≡ 0

-- the program of a pattern
pub record IsProgram (p : Program) (pattern : plain.Lexeme) : Type 0 where
  pub tree : Tree
  pub is_pattern : pattern_of tree ≡ pattern
  pub is_root : root_of tree ≡ p.root
  pub is_top : slice_get p.above.items p.root ≡ Some Top
  pub stands : AreLaidOut p.nodes.items p.above.items p.empties.items tree
  pub above_each : length p.above.items ≡ length p.nodes.items
  pub empty_each : length p.empties.items ≡ length p.nodes.items
  pub ordered : IsOrdered p
  pub barred : (b : ℕ) → flag_at p.barred.items b ≡ true → IsBarred pattern b

-- the programs of these patterns
pub record ArePrograms (programs : List Program) (patterns : List plain.Lexeme) : Type 0 where
  pub same : length programs ≡ length patterns
  pub each : (k : ℕ) (p : Program) (q : plain.Lexeme) → slice_get programs k ≡ Some p → slice_get patterns k ≡ Some q
      → IsProgram p q

abbrev pub AreOrdered : List Program → Type 0
AreOrdered programs = (k : ℕ) (p : Program) → slice_get programs k ≡ Some p → IsOrdered p

-- so many flags are enough for each of the programs
abbrev pub HaveRoom : List Program → ℕ → Type 0
HaveRoom programs n = (k : ℕ) (p : Program) → slice_get programs k ≡ Some p → length p.nodes.items ≤ n

-- the programs of patterns, with so much room for their flags
pub record AreReady (programs : List Program) (patterns : List plain.Lexeme) (begins finals : ℕ) : Type 0 where
  pub are : ArePrograms programs patterns
  pub begins_room : HaveRoom programs begins
  pub finals_room : HaveRoom programs finals
