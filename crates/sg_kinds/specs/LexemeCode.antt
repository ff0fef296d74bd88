-- A code of lexeme patterns: instructions for a stack of them, the parts before the whole.
use Rattle.std.specs.Prelude.{◌≡◌, refl, ℕ, Bool, List, [], ◌∷◌}
use mathlib.Core.Path.{ap, ◌∙◌}
use Rattle.std.specs.Coded.{Coded, code_by, coded_list, codes}
use Rattle.sg_kinds.specs.Lexemes.{Lexeme, Nothing, Byte, Dot, Class, Then, Either, Many, Several, Maybe}

pub data Instruction : Type 0 where
  nothing : Instruction
  byte : ℕ → Instruction
  dot : Instruction
  class : Bool → List (ℕ × ℕ) → Instruction
  then : Instruction
  either : Instruction
  many : Instruction
  several : Instruction
  maybe : Instruction

pub instruction_code : Coded Instruction
instruction_code = hlevel codes

abbrev pub code_of : Lexeme → List Instruction → List Instruction
code_of Nothing k = nothing ∷ k
code_of (Byte b) k = byte b ∷ k
code_of Dot k = dot ∷ k
code_of (Class negated ranges) k = class negated ranges ∷ k
code_of (Then p q) k = code_of p (code_of q (then ∷ k))
code_of (Either p q) k = code_of p (code_of q (either ∷ k))
code_of (Many p) k = code_of p (many ∷ k)
code_of (Several p) k = code_of p (several ∷ k)
code_of (Maybe p) k = code_of p (maybe ∷ k)

abbrev pub of_one : (Lexeme → Lexeme) → List Lexeme → List Lexeme
of_one f [] = []
of_one f (p ∷ ps) = f p ∷ ps

abbrev pub of_two : (Lexeme → Lexeme → Lexeme) → List Lexeme → List Lexeme
of_two f (q ∷ p ∷ ps) = f p q ∷ ps
of_two f ps = ps

abbrev pub act : Instruction → List Lexeme → List Lexeme
act nothing ps = Nothing ∷ ps
act (byte b) ps = Byte b ∷ ps
act dot ps = Dot ∷ ps
act (class negated ranges) ps = Class negated ranges ∷ ps
act then ps = of_two Then ps
act either ps = of_two Either ps
act many ps = of_one Many ps
act several ps = of_one Several ps
act maybe ps = of_one Maybe ps

abbrev pub acts : List Instruction → List Lexeme → List Lexeme
acts [] ps = ps
acts (i ∷ is) ps = acts is (act i ps)

pub acts-code_of : (p : Lexeme) (k : List Instruction) (ps : List Lexeme) → acts (code_of p k) ps ≡ acts k (p ∷ ps)
acts-code_of Nothing k ps = refl
acts-code_of (Byte b) k ps = refl
acts-code_of Dot k ps = refl
acts-code_of (Class negated ranges) k ps = refl
acts-code_of (Then p q) k ps = acts-code_of p (code_of q (then ∷ k)) ps ∙ acts-code_of q (then ∷ k) (p ∷ ps)
acts-code_of (Either p q) k ps = acts-code_of p (code_of q (either ∷ k)) ps ∙ acts-code_of q (either ∷ k) (p ∷ ps)
acts-code_of (Many p) k ps = acts-code_of p (many ∷ k) ps
acts-code_of (Several p) k ps = acts-code_of p (several ∷ k) ps
acts-code_of (Maybe p) k ps = acts-code_of p (maybe ∷ k) ps

abbrev pub first_of : List Lexeme → Lexeme
first_of [] = Nothing
first_of (p ∷ ps) = p

-- lexeme patterns are stored as their instructions
abbrev pub lexeme_code : Coded Lexeme
lexeme_code = code_by (List Instruction) (coded_list instruction_code) (λ p. code_of p [])
    (λ is. first_of (acts is [])) (λ p. ap first_of (acts-code_of p [] []))
