-- Patterns as trees.
use Rattle.std.specs.Prelude.{ℕ, Bool}
use Rattle.sg_kinds.specs.declared.fault.Position.{Position}
use Rattle.sg_kinds.specs.declared.marks.Made.{Made}
use Rattle.sg_ast.specs.declared.name.Name.{Name}
use Rattle.sg_ast.specs.declared.name.Quoted.{Quoted}

-- a number, below zero where the first part says so; a string; `true` or `false`; `*`; a variable; `<p>` or `[p]`; an
-- operator with its arguments
mutual
  pub data Pattern : Type 0 where
    Amount : Bool → ℕ → Position → Pattern
    Chars : Quoted → Pattern
    Truth : Bool → Position → Pattern
    Anything : Position → Pattern
    Variable : Name → Pattern
    MadeAs : Made → Name → Position → Pattern
    Applied : Name → Patterns → Pattern

  pub data Patterns : Type 0 where
    NoPattern : Patterns
    AndPattern : Pattern → Patterns → Patterns
