-- A value as it is printed.
use Rattle.std.specs.Prelude.{ℕ, Option, None, Some}
use Rattle.sg_kinds.specs.Values.{Bytes, Value, Tree, Fault}
use Rattle.sg_kinds.specs.declared.spec.Spec.{Spec}
use Rattle.sg_saved.specs.Spelling.{spelled}
use Rattle.sg_unparse.specs.Printing.{fault_text, value_text}
use Rattle.sg_printing.specs.declared.printed.Form.{Form}
use Rattle.sg_printing.specs.declared.printed.Form.TheVariants.{Page, Saved}

-- a value of a phylum as on a page, where a tree is not printed
abbrev pub page_text : Spec → ℕ → Value → Option Bytes
page_text spec p (Tree op vs) = None
page_text spec p v = Some (value_text spec p v)

-- as a saved term, but for a fault, which has no saved form: that is printed as on a page
abbrev pub saved_text : Spec → Value → Bytes
saved_text spec (Fault kind) = fault_text kind
saved_text spec v = spelled spec v

-- in a form
abbrev pub printed : Form → Spec → ℕ → Value → Option Bytes
printed Page spec p v = page_text spec p v
printed Saved spec p v = Some (saved_text spec v)
