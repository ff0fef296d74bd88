-- A code of terms: instructions for a stack of rows, a node's children from the last to the first.
use Rattle.std.specs.Prelude.{◌≡◌, refl, ℕ, Bool, false, List, [], ◌∷◌}
use mathlib.Core.Path.{ap, ◌∙◌}
use Rattle.std.specs.Coded.{Coded, code_by, coded_list, codes}
use Rattle.sg_kinds.specs.Values.{Value, Truth}
use Rattle.sg_kinds.specs.ValueCode.{value_code}
use Rattle.sg_kinds.specs.Terms.{Term, Terms, Leaf, Node, NoTerm, AndTerm}

-- put a leaf onto the first row, begin a row, or make a node of the first row and put it onto the next
pub data Instruction : Type 0 where
  leaf : ℕ → Value → Instruction
  begin : Instruction
  node : ℕ → ℕ → Bool → Instruction

pub instruction_code : Coded Instruction
instruction_code = hlevel (codes, value_code)

abbrev mutual
  pub code_of : Term → List Instruction → List Instruction
  code_of (Leaf p v) k = leaf p v ∷ k
  code_of (Node op scheme elided ts) k = begin ∷ codes_of ts (node op scheme elided ∷ k)

  pub codes_of : Terms → List Instruction → List Instruction
  codes_of NoTerm k = k
  codes_of (AndTerm t ts) k = codes_of ts (code_of t k)

abbrev pub onto : Term → List Terms → List Terms
onto t [] = []
onto t (r ∷ rs) = AndTerm t r ∷ rs

abbrev pub closed : ℕ → ℕ → Bool → List Terms → List Terms
closed op scheme elided [] = []
closed op scheme elided (r ∷ rs) = onto (Node op scheme elided r) rs

abbrev pub act : Instruction → List Terms → List Terms
act (leaf p v) rows = onto (Leaf p v) rows
act begin rows = NoTerm ∷ rows
act (node op scheme elided) rows = closed op scheme elided rows

abbrev pub acts : List Instruction → List Terms → List Terms
acts [] rows = rows
acts (i ∷ is) rows = acts is (act i rows)

mutual
  pub acts-code_of : (t : Term) (k : List Instruction) (r : Terms) (rs : List Terms)
      → acts (code_of t k) (r ∷ rs) ≡ acts k (AndTerm t r ∷ rs)
  acts-code_of (Leaf p v) k r rs = refl
  acts-code_of (Node op scheme elided ts) k r rs = acts-codes_of ts (node op scheme elided ∷ k) (r ∷ rs)

  pub acts-codes_of : (ts : Terms) (k : List Instruction) (rs : List Terms)
      → acts (codes_of ts k) (NoTerm ∷ rs) ≡ acts k (ts ∷ rs)
  acts-codes_of NoTerm k rs = refl
  acts-codes_of (AndTerm t ts) k rs = acts-codes_of ts (code_of t k) rs ∙ acts-code_of t k ts rs

abbrev pub first_term : Terms → Term
first_term NoTerm = Leaf 0 (Truth false)
first_term (AndTerm t ts) = t

abbrev pub first_of_rows : List Terms → Term
first_of_rows [] = Leaf 0 (Truth false)
first_of_rows (r ∷ rs) = first_term r

-- terms are stored as their instructions
abbrev pub term_code : Coded Term
term_code = code_by (List Instruction) (coded_list instruction_code) (λ t. code_of t [])
    (λ is. first_of_rows (acts is (NoTerm ∷ []))) (λ t. ap first_of_rows (acts-code_of t [] NoTerm []))
