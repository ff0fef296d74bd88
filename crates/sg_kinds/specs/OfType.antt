-- Which values are of a type.
use Rattle.std.specs.Prelude.{◌≡◌, ℕ, ◌⊎◌, IsTrue}
use Rattle.sg_kinds.specs.Values.{Bytes, Value, Fault, Chars, is_text}
use Rattle.sg_kinds.specs.Terms.{Term}
use Rattle.sg_kinds.specs.Specification.{Spec, texts}
use Rattle.sg_kinds.specs.Fits.{Fits}
use Rattle.sg_kinds.specs.ValueOf.{value_of}
use Rattle.sg_kinds.specs.declared.marks.FaultKind.{FaultKind}

-- a fault, the value of a term that fits the type, or, for STR, a text
abbrev pub IsOfType : Spec → ℕ → Value → Type 0
IsOfType spec p v = ((kind : FaultKind) × (v ≡ Fault kind)) ⊎ ((t : Term) × Fits spec t p × (value_of t ≡ v))
    ⊎ ((s : Bytes) × (p ≡ texts) × IsTrue (is_text s) × (v ≡ Chars s))
