-- Declarations whose equations' literals are values.
use Rattle.std.specs.Prelude.{⊤}
use Rattle.std.specs.List.{All}
use Rattle.sg_ast.specs.Declarations.{Decl, Equation, Equations}
use Rattle.sg_ast.specs.Written.{AreWritten}

-- numbers in equations are below 2^63, and strings are texts
abbrev pub HasLiterals : Decl → Type 0
HasLiterals (Equations n op locals es) = All (λ (q : Equation). AreWritten q.expr) es
HasLiterals d = ⊤
