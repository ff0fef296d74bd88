-- Codes of patterns and expressions: instructions for a stack of them and of their rows, the parts before the whole.
use Rattle.std.specs.Prelude.{◌≡◌, refl, ℕ, List, [], ◌∷◌}
use mathlib.Core.Path.{ap, ◌∙◌}
use Rattle.std.specs.Coded.{Coded, code_by, coded_list, codes}
use Rattle.sg_kinds.specs.Values.{Value}
use Rattle.sg_kinds.specs.ValueCode.{value_code}
use Rattle.sg_kinds.specs.Expressions.{Pattern, Patterns, Exactly, Anything, Variable, MadeAs, Applied, NoPattern, AndPattern, Expr, Exprs, Cases, Constant, Named, MadeOf, Single, Binary, Logical, Cons, Choice, Apply, Call, Let, With, NoExpr, AndExpr, NoCase, Default, Case}
use Rattle.sg_kinds.specs.declared.marks.Made.{Made}
use Rattle.sg_kinds.specs.declared.marks.Unary.{Unary}
use Rattle.sg_kinds.specs.declared.marks.Sign.{Sign}
use Rattle.sg_kinds.specs.declared.marks.Connective.{Connective}

pub data Instruction : Type 0 where
  exactly : Value → Instruction
  anything : Instruction
  variable : Instruction
  made_as : Made → ℕ → Instruction
  applied : ℕ → Instruction
  no_pattern : Instruction
  and_pattern : Instruction
  literal : Value → Instruction
  named : ℕ → Instruction
  made_of : Made → ℕ → Instruction
  single : Unary → Instruction
  binary : Sign → Instruction
  logical : Connective → Instruction
  cons : ℕ → Instruction
  choice : Instruction
  apply : ℕ → Instruction
  call : ℕ → Instruction
  bind : Instruction
  cases : Instruction
  no_expr : Instruction
  and_expr : Instruction
  no_case : Instruction
  default : Instruction
  case : Instruction

pub instruction_code : Coded Instruction
instruction_code = hlevel (codes, value_code)

-- what stands on the stack
pub data Piece : Type 0 where
  pattern : Pattern → Piece
  patterns : Patterns → Piece
  expr : Expr → Piece
  exprs : Exprs → Piece
  arms : Cases → Piece

abbrev mutual
  pub code_pattern : Pattern → List Instruction → List Instruction
  code_pattern (Exactly v) k = exactly v ∷ k
  code_pattern Anything k = anything ∷ k
  code_pattern Variable k = variable ∷ k
  code_pattern (MadeAs made p) k = made_as made p ∷ k
  code_pattern (Applied op ps) k = code_patterns ps (applied op ∷ k)

  pub code_patterns : Patterns → List Instruction → List Instruction
  code_patterns NoPattern k = no_pattern ∷ k
  code_patterns (AndPattern p ps) k = code_pattern p (code_patterns ps (and_pattern ∷ k))

abbrev mutual
  pub code_expr : Expr → List Instruction → List Instruction
  code_expr (Constant v) k = literal v ∷ k
  code_expr (Named n) k = named n ∷ k
  code_expr (MadeOf made p) k = made_of made p ∷ k
  code_expr (Single f a) k = code_expr a (single f ∷ k)
  code_expr (Binary sign a b) k = code_expr a (code_expr b (binary sign ∷ k))
  code_expr (Logical c a b) k = code_expr a (code_expr b (logical c ∷ k))
  code_expr (Cons op a b) k = code_expr a (code_expr b (cons op ∷ k))
  code_expr (Choice c a b) k = code_expr c (code_expr a (code_expr b (choice ∷ k)))
  code_expr (Apply op es) k = code_exprs es (apply op ∷ k)
  code_expr (Call f es) k = code_exprs es (call f ∷ k)
  code_expr (Let a b) k = code_expr a (code_expr b (bind ∷ k))
  code_expr (With a cs) k = code_expr a (code_cases cs (cases ∷ k))

  pub code_exprs : Exprs → List Instruction → List Instruction
  code_exprs NoExpr k = no_expr ∷ k
  code_exprs (AndExpr e es) k = code_expr e (code_exprs es (and_expr ∷ k))

  pub code_cases : Cases → List Instruction → List Instruction
  code_cases NoCase k = no_case ∷ k
  code_cases (Default e) k = code_expr e (default ∷ k)
  code_cases (Case p e cs) k = code_pattern p (code_expr e (code_cases cs (case ∷ k)))

abbrev pub act : Instruction → List Piece → List Piece
act (exactly v) s = pattern (Exactly v) ∷ s
act anything s = pattern Anything ∷ s
act variable s = pattern Variable ∷ s
act (made_as made p) s = pattern (MadeAs made p) ∷ s
act (applied op) (patterns ps ∷ s) = pattern (Applied op ps) ∷ s
act no_pattern s = patterns NoPattern ∷ s
act and_pattern (patterns ps ∷ pattern p ∷ s) = patterns (AndPattern p ps) ∷ s
act (literal v) s = expr (Constant v) ∷ s
act (named n) s = expr (Named n) ∷ s
act (made_of made p) s = expr (MadeOf made p) ∷ s
act (single f) (expr a ∷ s) = expr (Single f a) ∷ s
act (binary sign) (expr b ∷ expr a ∷ s) = expr (Binary sign a b) ∷ s
act (logical c) (expr b ∷ expr a ∷ s) = expr (Logical c a b) ∷ s
act (cons op) (expr b ∷ expr a ∷ s) = expr (Cons op a b) ∷ s
act choice (expr b ∷ expr a ∷ expr c ∷ s) = expr (Choice c a b) ∷ s
act (apply op) (exprs es ∷ s) = expr (Apply op es) ∷ s
act (call f) (exprs es ∷ s) = expr (Call f es) ∷ s
act bind (expr b ∷ expr a ∷ s) = expr (Let a b) ∷ s
act cases (arms cs ∷ expr a ∷ s) = expr (With a cs) ∷ s
act no_expr s = exprs NoExpr ∷ s
act and_expr (exprs es ∷ expr e ∷ s) = exprs (AndExpr e es) ∷ s
act no_case s = arms NoCase ∷ s
act default (expr e ∷ s) = arms (Default e) ∷ s
act case (arms cs ∷ expr e ∷ pattern p ∷ s) = arms (Case p e cs) ∷ s
act i s = s

abbrev pub acts : List Instruction → List Piece → List Piece
acts [] s = s
acts (i ∷ is) s = acts is (act i s)

mutual
  pub acts-code_pattern : (p : Pattern) (k : List Instruction) (s : List Piece)
      → acts (code_pattern p k) s ≡ acts k (pattern p ∷ s)
  acts-code_pattern (Exactly v) k s = refl
  acts-code_pattern Anything k s = refl
  acts-code_pattern Variable k s = refl
  acts-code_pattern (MadeAs made p) k s = refl
  acts-code_pattern (Applied op ps) k s = acts-code_patterns ps (applied op ∷ k) s

  pub acts-code_patterns : (ps : Patterns) (k : List Instruction) (s : List Piece)
      → acts (code_patterns ps k) s ≡ acts k (patterns ps ∷ s)
  acts-code_patterns NoPattern k s = refl
  acts-code_patterns (AndPattern p ps) k s = acts-code_pattern p (code_patterns ps (and_pattern ∷ k)) s
      ∙ acts-code_patterns ps (and_pattern ∷ k) (pattern p ∷ s)

mutual
  pub acts-code_expr : (e : Expr) (k : List Instruction) (s : List Piece) → acts (code_expr e k) s ≡ acts k (expr e ∷ s)
  acts-code_expr (Constant v) k s = refl
  acts-code_expr (Named n) k s = refl
  acts-code_expr (MadeOf made p) k s = refl
  acts-code_expr (Single f a) k s = acts-code_expr a (single f ∷ k) s
  acts-code_expr (Binary sign a b) k s = acts-code_expr a (code_expr b (binary sign ∷ k)) s
      ∙ acts-code_expr b (binary sign ∷ k) (expr a ∷ s)
  acts-code_expr (Logical c a b) k s = acts-code_expr a (code_expr b (logical c ∷ k)) s
      ∙ acts-code_expr b (logical c ∷ k) (expr a ∷ s)
  acts-code_expr (Cons op a b) k s = acts-code_expr a (code_expr b (cons op ∷ k)) s
      ∙ acts-code_expr b (cons op ∷ k) (expr a ∷ s)
  acts-code_expr (Choice c a b) k s = acts-code_expr c (code_expr a (code_expr b (choice ∷ k))) s
      ∙ (acts-code_expr a (code_expr b (choice ∷ k)) (expr c ∷ s) ∙ acts-code_expr b (choice ∷ k) (expr a ∷ expr c ∷ s))
  acts-code_expr (Apply op es) k s = acts-code_exprs es (apply op ∷ k) s
  acts-code_expr (Call f es) k s = acts-code_exprs es (call f ∷ k) s
  acts-code_expr (Let a b) k s = acts-code_expr a (code_expr b (bind ∷ k)) s ∙ acts-code_expr b (bind ∷ k) (expr a ∷ s)
  acts-code_expr (With a cs) k s = acts-code_expr a (code_cases cs (cases ∷ k)) s
      ∙ acts-code_cases cs (cases ∷ k) (expr a ∷ s)

  pub acts-code_exprs : (es : Exprs) (k : List Instruction) (s : List Piece)
      → acts (code_exprs es k) s ≡ acts k (exprs es ∷ s)
  acts-code_exprs NoExpr k s = refl
  acts-code_exprs (AndExpr e es) k s = acts-code_expr e (code_exprs es (and_expr ∷ k)) s
      ∙ acts-code_exprs es (and_expr ∷ k) (expr e ∷ s)

  pub acts-code_cases : (cs : Cases) (k : List Instruction) (s : List Piece)
      → acts (code_cases cs k) s ≡ acts k (arms cs ∷ s)
  acts-code_cases NoCase k s = refl
  acts-code_cases (Default e) k s = acts-code_expr e (default ∷ k) s
  acts-code_cases (Case p e cs) k s = acts-code_pattern p (code_expr e (code_cases cs (case ∷ k))) s
      ∙ (acts-code_expr e (code_cases cs (case ∷ k)) (pattern p ∷ s)
      ∙ acts-code_cases cs (case ∷ k) (expr e ∷ pattern p ∷ s))

abbrev pub first_pattern : List Piece → Pattern
first_pattern (pattern p ∷ s) = p
first_pattern s = Anything

abbrev pub first_expr : List Piece → Expr
first_expr (expr e ∷ s) = e
first_expr s = Named 0

-- patterns and expressions are stored as their instructions
abbrev pub pattern_code : Coded Pattern
pattern_code = code_by (List Instruction) (coded_list instruction_code) (λ p. code_pattern p [])
    (λ is. first_pattern (acts is [])) (λ p. ap first_pattern (acts-code_pattern p [] []))

abbrev pub expr_code : Coded Expr
expr_code = code_by (List Instruction) (coded_list instruction_code) (λ e. code_expr e [])
    (λ is. first_expr (acts is [])) (λ e. ap first_expr (acts-code_expr e [] []))
