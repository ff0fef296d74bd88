-- A function value that reads patterns of at most so many nodes in depth.
use Rattle.std.specs.Prelude.{ℕ, Result}
use Rattle.std.specs.declared.alloc.Global.{Global}
use denote.Ref.{MutBor}
use Rattle.sg_ast.specs.declared.pattern.Pattern.{Pattern}
use Rattle.sg_ast.specs.View.{pattern_of}
use Rattle.sg_ast.specs.ReadingNames.{pattern_within}
use Rattle.sg_cursor.specs.declared.refusal.Refusal.{Refusal}
use Rattle.sg_cursor.specs.declared.tokens.Tokens.{Tokens}
use Rattle.sg_cursor.specs.Left.{left_of, Reads}

pub record Nests (depth : ℕ) (pre : Global → MutBor Tokens → ℕ → Type 0)
    (post : Global → MutBor Tokens → ℕ → Result Pattern Refusal → MutBor Tokens → Type 0) : Type 0 where
  pub callable : (alloc : Global) (old : MutBor Tokens) → pre alloc old depth
  pub reads : (alloc : Global) (old new : MutBor Tokens) (r : Result Pattern Refusal) → post alloc old depth r new
      → Reads pattern_of (pattern_within depth (left_of old.now)) r (left_of new.now)
