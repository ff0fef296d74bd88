-- The saved form of values.
use Rattle.std.specs.Prelude.{◌≡◌, Some, ℕ, List, [], slice_get, option_map, unwrap_or}
use Rattle.sg_kinds.specs.Values.{Bytes, Value, Values, Truth, Number, Chars, Tree, Fault, NoValue, AndValue}
use Rattle.sg_kinds.specs.declared.spec.Operator.{Operator}
use Rattle.sg_kinds.specs.declared.spec.Spec.{Spec}
use Rattle.sg_saved_form.specs.Files as file
use Rattle.sg_saved_form.specs.Files.{Raw, Raws, Branch, Whole, Quote, Flag, NoRaw, AndRaw, file_of, IsOperatorName}

-- the name of an operator
abbrev pub operator_name : List Operator → ℕ → Bytes
operator_name ops op = unwrap_or (option_map (λ (x : Operator). x.name) (slice_get ops op)) []

-- a value as a file has it, with names in place of operators; a fault has no form, and an empty text stands for it
abbrev mutual
  pub raw_of : Spec → Value → Raw
  raw_of spec (Truth b) = Flag b
  raw_of spec (Number z) = Whole z
  raw_of spec (Chars s) = Quote s
  raw_of spec (Tree op vs) = Branch (operator_name spec.ops op) (raws_of spec vs)
  raw_of spec (Fault kind) = Quote []

  pub raws_of : Spec → Values → Raws
  raws_of spec NoValue = NoRaw
  raws_of spec (AndValue v vs) = AndRaw (raw_of spec v) (raws_of spec vs)

-- the spelling of a value as a term, and the file that has it
abbrev pub spelled : Spec → Value → Bytes
spelled spec v = file.spelled (raw_of spec v)

abbrev pub saved : Spec → Value → Bytes
saved spec v = file_of (raw_of spec v)

-- the operators have names that may stand in a file
abbrev pub AreNamed : Spec → Type 0
AreNamed spec = (op : ℕ) (o : Operator) → slice_get spec.ops op ≡ Some o → IsOperatorName o.name
