-- The first fault of rows.
use Rattle.std.proofs.Common.{◌≡◌, Option, None, sym, ◌∙◌}
use Rattle.sg_ast.specs.FirstFault.{or_else}
use Rattle.sg_ast.proofs.FirstLaws.{or_none}

-- of the last row
pub alone : {A : Type 0} (o a : Option A) → o ≡ a → o ≡ or_else a None
alone o a e = e ∙ sym (or_none a)
