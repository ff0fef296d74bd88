-- The numbers that a node keeps, as a list.
use Rattle.std.specs.Prelude.{ℕ, List, []}
use Rattle.sg_groves.specs.declared.values.Form.{Form}
use Rattle.sg_groves.specs.declared.values.Form.TheVariants.{Empty, One, Two, Three, Long}

abbrev pub numbers_of : Form → List ℕ
numbers_of Empty = []
numbers_of (One numbers) = numbers
numbers_of (Two numbers) = numbers
numbers_of (Three numbers) = numbers
numbers_of (Long numbers) = numbers.items
