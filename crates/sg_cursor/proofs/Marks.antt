-- Marks of tokens.
use Rattle.std.proofs.Common.{◌≡◌, ℕ, suc, ◌+◌, List, [], ◌∷◌, length, refl, ap}
use Rattle.sg_text.specs.declared.tokens.Token.{Token}
use Rattle.sg_ast.specs.Spells.{marks_from}

pub length_marks : (bytes : List ℕ) (n : ℕ) (ts : List Token) → length (marks_from bytes n ts) ≡ length ts
length_marks bytes n [] = refl
length_marks bytes n (t ∷ ts) = ap suc (length_marks bytes (n + 1) ts)
