-- A pattern as a tree whose nodes have numbers, and where it stands in a list of nodes.
use Rattle.std.specs.Prelude.{◌≡◌, ℕ, Bool, true, false, ◌&&◌, ◌||◌, Option, Some}
use Rattle.sg_kinds.specs.Lexemes as plain
use Rattle.sg_patterns.specs.declared.program.Leaf.{Leaf}
use Rattle.sg_patterns.specs.declared.program.Node.{Node}
use Rattle.sg_patterns.specs.declared.program.Node.TheVariants as node
use Rattle.sg_patterns.specs.declared.program.Above.{Above}
use Rattle.sg_patterns.specs.declared.program.Above.TheVariants.{Same, After, Again}
use Rattle.sg_patterns.specs.Leaves.{leaf_pattern, passes}

pub data Tree : Type 0 where
  Nothing : ℕ → Tree
  OneByte : ℕ → Leaf → Tree
  Then : ℕ → Tree → Tree → Tree
  Either : ℕ → Tree → Tree → Tree
  Many : ℕ → Tree → Tree
  Several : ℕ → Tree → Tree
  Maybe : ℕ → Tree → Tree

-- the number of its root
abbrev pub root_of : Tree → ℕ
root_of (Nothing k) = k
root_of (OneByte k l) = k
root_of (Then k t u) = k
root_of (Either k t u) = k
root_of (Many k t) = k
root_of (Several k t) = k
root_of (Maybe k t) = k

-- the pattern, without the numbers
abbrev pub pattern_of : Tree → plain.Lexeme
pattern_of (Nothing k) = plain.Nothing
pattern_of (OneByte k l) = leaf_pattern l
pattern_of (Then k t u) = plain.Then (pattern_of t) (pattern_of u)
pattern_of (Either k t u) = plain.Either (pattern_of t) (pattern_of u)
pattern_of (Many k t) = plain.Many (pattern_of t)
pattern_of (Several k t) = plain.Several (pattern_of t)
pattern_of (Maybe k t) = plain.Maybe (pattern_of t)

-- whether a pattern matches the empty text
abbrev pub empty_of : plain.Lexeme → Bool
empty_of plain.Nothing = true
empty_of (plain.Byte b) = false
empty_of plain.Dot = false
empty_of (plain.Class negated ranges) = false
empty_of (plain.Then p q) = empty_of p && empty_of q
empty_of (plain.Either p q) = empty_of p || empty_of q
empty_of (plain.Many p) = true
empty_of (plain.Several p) = empty_of p
empty_of (plain.Maybe p) = true

-- the nodes of a tree, what stands above each part, and which of them match the empty text
abbrev pub IsLaidOut : (ℕ → Option Node) → (ℕ → Option Above) → (ℕ → Bool) → Tree → Type 0
IsLaidOut ns up em (Nothing k) = (ns k ≡ Some node.Nothing) × (em k ≡ true)
IsLaidOut ns up em (OneByte k l) = (ns k ≡ Some (node.Leaf l)) × (em k ≡ false)
IsLaidOut ns up em (Then k t u) =
    (ns k ≡ Some (node.Then (root_of t) (root_of u))) × (em k ≡ (em (root_of t) && em (root_of u)))
    × (up (root_of t) ≡ Some (Same k)) × (up (root_of u) ≡ Some (After k (root_of t))) × IsLaidOut ns up em t
    × IsLaidOut ns up em u
IsLaidOut ns up em (Either k t u) =
    (ns k ≡ Some (node.Either (root_of t) (root_of u))) × (em k ≡ (em (root_of t) || em (root_of u)))
    × (up (root_of t) ≡ Some (Same k)) × (up (root_of u) ≡ Some (Same k)) × IsLaidOut ns up em t × IsLaidOut ns up em u
IsLaidOut ns up em (Many k t) = (ns k ≡ Some (node.Over (root_of t))) × (em k ≡ true)
    × (up (root_of t) ≡ Some (Again k)) × IsLaidOut ns up em t
IsLaidOut ns up em (Several k t) =
    (ns k ≡ Some (node.Over (root_of t))) × (em k ≡ em (root_of t)) × (up (root_of t) ≡ Some (Again k))
    × IsLaidOut ns up em t
IsLaidOut ns up em (Maybe k t) = (ns k ≡ Some (node.Over (root_of t))) × (em k ≡ true)
    × (up (root_of t) ≡ Some (Same k)) × IsLaidOut ns up em t

-- each root of a part is final as its marks say; leaves are final where they are marked
abbrev pub HasFinals : (ℕ → Bool) → Tree → Type 0
HasFinals f (Nothing k) = f k ≡ false
HasFinals f (OneByte k l) = Unit {0}
HasFinals f (Then k t u) = (f k ≡ ((f (root_of t) && empty_of (pattern_of u)) || f (root_of u))) × HasFinals f t
    × HasFinals f u
HasFinals f (Either k t u) = (f k ≡ (f (root_of t) || f (root_of u))) × HasFinals f t × HasFinals f u
HasFinals f (Many k t) = (f k ≡ f (root_of t)) × HasFinals f t
HasFinals f (Several k t) = (f k ≡ f (root_of t)) × HasFinals f t
HasFinals f (Maybe k t) = (f k ≡ f (root_of t)) × HasFinals f t

-- where parts may begin by the finals before a byte, and which leaves are marked after it
abbrev pub Steps : (finals begins after : ℕ → Bool) → ℕ → Tree → Type 0
Steps f g h b (Nothing k) = Unit {0}
Steps f g h b (OneByte k l) = h k ≡ (g k && passes l b)
Steps f g h b (Then k t u) =
    (g (root_of t) ≡ g k) × (g (root_of u) ≡ ((g k && empty_of (pattern_of t)) || f (root_of t))) × Steps f g h b t
    × Steps f g h b u
Steps f g h b (Either k t u) = (g (root_of t) ≡ g k) × (g (root_of u) ≡ g k) × Steps f g h b t × Steps f g h b u
Steps f g h b (Many k t) = (g (root_of t) ≡ (g k || f (root_of t))) × Steps f g h b t
Steps f g h b (Several k t) = (g (root_of t) ≡ (g k || f (root_of t))) × Steps f g h b t
Steps f g h b (Maybe k t) = (g (root_of t) ≡ g k) × Steps f g h b t
