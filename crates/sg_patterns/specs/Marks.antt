-- What the flags of a program's nodes are at a place of a text.
use Rattle.std.specs.Prelude.{◌≡◌, ℕ, ◌<◌, Bool, false, true, ◌&&◌, ◌||◌, List, Option, Some, None, slice_get, length}
use Rattle.sg_patterns.specs.declared.program.Node.{Node}
use Rattle.sg_patterns.specs.declared.program.Node.TheVariants as node
use Rattle.sg_patterns.specs.declared.program.Above.{Above}
use Rattle.sg_patterns.specs.declared.program.Above.TheVariants.{Top, Same, After, Again}
use Rattle.sg_patterns.specs.declared.program.Program.{Program}
use Rattle.sg_patterns.specs.Leaves.{passes}
use Rattle.sg_patterns.specs.Flags.{flag_at}

-- whether a match of a node begins, by what is above it
abbrev pub begin_by : (empties finals begins : List Bool) → Bool → ℕ → Above → Bool
begin_by em f g starts k Top = starts
begin_by em f g starts k (Same p) = flag_at g p
begin_by em f g starts k (After p a) = (flag_at g p && flag_at em a) || flag_at f a
begin_by em f g starts k (Again p) = flag_at g p || flag_at f k

abbrev pub begin_in : (empties finals begins : List Bool) → Bool → ℕ → Option Above → Bool
begin_in em f g starts k None = false
begin_in em f g starts k (Some a) = begin_by em f g starts k a

abbrev pub begin_value : Program → Bool → List Bool → List Bool → ℕ → Bool
begin_value p starts f g k = begin_in p.empties.items f g starts k (slice_get p.above.items k)

-- the nodes begin so
abbrev pub HasBegins : Program → Bool → List Bool → List Bool → Type 0
HasBegins p starts f g = (k : ℕ) → k < length p.above.items → flag_at g k ≡ begin_value p starts f g k

-- whether a node is final after a byte: a leaf that begins and passes the byte, else by its parts
abbrev pub final_by : (empties begins finals : List Bool) → ℕ → ℕ → Node → Bool
final_by em g f b k node.Nothing = false
final_by em g f b k (node.Leaf l) = flag_at g k && passes l b
final_by em g f b k (node.Then x y) = (flag_at f x && flag_at em y) || flag_at f y
final_by em g f b k (node.Either x y) = flag_at f x || flag_at f y
final_by em g f b k (node.Over x) = flag_at f x

abbrev pub final_in : (empties begins finals : List Bool) → ℕ → ℕ → Option Node → Bool
final_in em g f b k None = false
final_in em g f b k (Some x) = final_by em g f b k x

abbrev pub final_value : Program → ℕ → List Bool → List Bool → ℕ → Bool
final_value p b g f k = final_in p.empties.items g f b k (slice_get p.nodes.items k)

-- the first n nodes are final so
abbrev pub HasFinalsTo : Program → ℕ → ℕ → List Bool → List Bool → Type 0
HasFinalsTo p n b g f = (k : ℕ) → k < n → flag_at f k ≡ final_value p b g f k

abbrev pub is_leaf : Node → Bool
is_leaf (node.Leaf l) = true
is_leaf x = false

-- no leaf among the first n nodes is marked
abbrev pub IsDead : Program → ℕ → List Bool → Type 0
IsDead p n f = (k : ℕ) (x : Node) → k < n → slice_get p.nodes.items k ≡ Some x → is_leaf x ≡ true → flag_at f k ≡ false
