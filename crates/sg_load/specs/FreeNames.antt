-- The names of operators.
use Rattle.std.specs.Prelude.{◌≡◌, ◌≤◌, List, [], map, length, None, IsTrue}
use Rattle.sg_text.specs.Forms.{is_name}
use Rattle.sg_text.specs.Words.{keyword_of}
use Rattle.sg_kinds.specs.Values.{Bytes}
use Rattle.sg_ast.specs.declared.decl.Alt.{Alt}
use Rattle.sg_ast.specs.Declarations.{Decl, Operators}

-- a name of at most 64 bytes that is not reserved
pub record IsFreeName (name : Bytes) : Type 0 where
  pub named : IsTrue (is_name name)
  pub short : length name ≤ 64
  pub free : keyword_of name ≡ None

-- the names of the operators of a declaration
abbrev pub operator_names : Decl → List Bytes
operator_names (Operators n alts) = map (λ (a : Alt). a.name.text) alts
operator_names d = []
