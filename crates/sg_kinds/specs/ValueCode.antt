-- A code of values: instructions for a stack of rows, a tree's children from the last to the first.
use Rattle.std.specs.Prelude.{◌≡◌, refl, ℕ, ℤ, Bool, false, List, [], ◌∷◌}
use mathlib.Core.Path.{ap, ◌∙◌}
use Rattle.std.specs.Coded.{Coded, code_by, coded_list, codes}
use Rattle.sg_kinds.specs.Values.{Bytes, Value, Values, Truth, Number, Chars, Tree, Fault, NoValue, AndValue}
use Rattle.sg_kinds.specs.declared.marks.FaultKind.{FaultKind}

-- put a leaf onto the first row, begin a row, or make a tree of the first row and put it onto the next
pub data Instruction : Type 0 where
  truth : Bool → Instruction
  number : ℤ → Instruction
  text : Bytes → Instruction
  fault : FaultKind → Instruction
  begin : Instruction
  tree : ℕ → Instruction

pub instruction_code : Coded Instruction
instruction_code = hlevel codes

abbrev mutual
  pub code_of : Value → List Instruction → List Instruction
  code_of (Truth b) k = truth b ∷ k
  code_of (Number z) k = number z ∷ k
  code_of (Chars s) k = text s ∷ k
  code_of (Tree op vs) k = begin ∷ codes_of vs (tree op ∷ k)
  code_of (Fault kind) k = fault kind ∷ k

  pub codes_of : Values → List Instruction → List Instruction
  codes_of NoValue k = k
  codes_of (AndValue v vs) k = codes_of vs (code_of v k)

abbrev pub onto : Value → List Values → List Values
onto v [] = []
onto v (r ∷ rs) = AndValue v r ∷ rs

abbrev pub closed : ℕ → List Values → List Values
closed op [] = []
closed op (r ∷ rs) = onto (Tree op r) rs

abbrev pub act : Instruction → List Values → List Values
act (truth b) rows = onto (Truth b) rows
act (number z) rows = onto (Number z) rows
act (text s) rows = onto (Chars s) rows
act (fault kind) rows = onto (Fault kind) rows
act begin rows = NoValue ∷ rows
act (tree op) rows = closed op rows

abbrev pub acts : List Instruction → List Values → List Values
acts [] rows = rows
acts (i ∷ is) rows = acts is (act i rows)

mutual
  pub acts-code_of : (v : Value) (k : List Instruction) (r : Values) (rs : List Values)
      → acts (code_of v k) (r ∷ rs) ≡ acts k (AndValue v r ∷ rs)
  acts-code_of (Truth b) k r rs = refl
  acts-code_of (Number z) k r rs = refl
  acts-code_of (Chars s) k r rs = refl
  acts-code_of (Tree op vs) k r rs = acts-codes_of vs (tree op ∷ k) (r ∷ rs)
  acts-code_of (Fault kind) k r rs = refl

  pub acts-codes_of : (vs : Values) (k : List Instruction) (rs : List Values)
      → acts (codes_of vs k) (NoValue ∷ rs) ≡ acts k (vs ∷ rs)
  acts-codes_of NoValue k rs = refl
  acts-codes_of (AndValue v vs) k rs = acts-codes_of vs (code_of v k) rs ∙ acts-code_of v k vs rs

abbrev pub first_value : Values → Value
first_value NoValue = Truth false
first_value (AndValue v vs) = v

abbrev pub first_of_rows : List Values → Value
first_of_rows [] = Truth false
first_of_rows (r ∷ rs) = first_value r

-- values are stored as their instructions
abbrev pub value_code : Coded Value
value_code = code_by (List Instruction) (coded_list instruction_code) (λ v. code_of v [])
    (λ is. first_of_rows (acts is (NoValue ∷ []))) (λ v. ap first_of_rows (acts-code_of v [] NoValue []))
