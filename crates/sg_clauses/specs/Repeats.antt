-- What stands next, and a function value that reads one item.
use Rattle.std.specs.Prelude.{Bool, List, Result}
use Rattle.std.specs.declared.alloc.Global.{Global}
use denote.Ref.{MutBor}
use Rattle.sg_ast.specs.Spelling.{Mark}
use Rattle.sg_ast.specs.Readers.{Reader, is_name, is_string, is_literal, is_sign, is_reserved, sees}
use Rattle.sg_ast.specs.Reading.{is_part, sees_other}
use Rattle.sg_cursor.specs.declared.refusal.Refusal.{Refusal}
use Rattle.sg_cursor.specs.declared.tokens.Tokens.{Tokens}
use Rattle.sg_cursor.specs.Left.{left_of, Reads}
use Rattle.sg_clauses.specs.declared.repeated.Ahead.{Ahead}
use Rattle.sg_clauses.specs.declared.repeated.Ahead.TheVariants as ahead

-- whether it stands next
abbrev pub is_ahead : Ahead → List Mark → Bool
is_ahead ahead.Name = sees is_name
is_ahead ahead.Text = sees is_string
is_ahead ahead.Literal = sees is_literal
is_ahead ahead.Part = sees is_part
is_ahead (ahead.Sign s) = sees (is_sign s)
is_ahead (ahead.Other s) = sees_other (is_sign s)
is_ahead (ahead.Reserved k) = sees (is_reserved k)

pub record ReadsItem {T : Type 0} (rule : Reader T) (pre : Global → MutBor Tokens → Type 0)
    (post : Global → MutBor Tokens → Result T Refusal → MutBor Tokens → Type 0) : Type 0 where
  pub callable : (alloc : Global) (old : MutBor Tokens) → pre alloc old
  pub reads : (alloc : Global) (old new : MutBor Tokens) (r : Result T Refusal) → post alloc old r new
      → Reads (λ x. x) (rule (left_of old.now)) r (left_of new.now)
