-- The term of a file, where it is told how texts are read from the entries and how saved files are opened.
use Rattle.std.specs.Prelude.{ℕ, ◌&&◌, Bool, if◌then◌else◌, nat_le, nat_eq, nat_lt, ◌∷◌, [], ◌++◌, length, codes, Result, Ok, Err}
use Rattle.std.specs.List.{starts_with}
use Rattle.std.specs.Option.{option_map_or}
use Rattle.sg_kinds.specs.Values.{Bytes, Value}
use Rattle.sg_kinds.specs.Terms.{Term, nodes_of, height_of}
use Rattle.sg_kinds.specs.Plain.{plain}
use Rattle.sg_kinds.specs.declared.spec.Spec.{Spec}
use Rattle.sg_saved.specs.Read.{Opened, FormAt, PhylumAt, TooLarge, Holds, IsOpened, most_nodes, most_depth}
use Rattle.sg_input.specs.Entered.{Entered, BadByte, NoToken, Stopped, Faulted, Typed, entry_at}
use Rattle.sg_commands.specs.Turn.{Reads}
use Rattle.sg_report.specs.declared.answers.ReportFault.{ReportFault}
use Rattle.sg_report.specs.declared.answers.ReportFault.TheVariants as fault

-- how saved files are opened, and that they are opened right
abbrev pub Opens : Type 0
Opens = Bytes → Opened

abbrev pub AreOpens : Spec → Opens → Type 0
AreOpens spec opens = (bytes : Bytes) → IsOpened spec bytes (opens bytes)

-- the most bytes of a file
abbrev pub longest_file : ℕ
longest_file = 4194304

-- a saved file begins so
abbrev pub is_saved : Bytes → Bool
is_saved bytes = starts_with nat_eq bytes (codes "SGT1" ++ 10 ∷ [])

-- the value of a saved file, and that of a text
abbrev pub from_saved : Opened → Result Value ReportFault
from_saved (FormAt k) = Err (fault.Form k)
from_saved (PhylumAt k) = Err (fault.Phylum k)
from_saved (TooLarge nodes depth) = Err fault.Size
from_saved (Holds v) = Ok v

abbrev pub from_text : Entered → Result Value ReportFault
from_text (BadByte k) = Err (fault.Byte k)
from_text (NoToken k) = Err (fault.Lexical k)
from_text (Stopped k) = Err (fault.Parse k)
from_text (Faulted kind) = Err (fault.Outcome kind)
from_text (Typed v) = Ok v

-- what follows, unless there is a refusal
abbrev pub and_then : {A B : Type 0} → (A → Result B ReportFault) → Result A ReportFault → Result B ReportFault
and_then next (Ok x) = next x
and_then next (Err f) = Err f

-- a term in the limits
abbrev pub limited : Term → Result Term ReportFault
limited t = if nat_le (nodes_of t) most_nodes && nat_le (height_of t) most_depth then Ok t else Err fault.Size

module _ (spec : Spec) (reads : Reads) (opens : Opens) where
  -- a text is read by the entry of the root phylum
  abbrev pub text_read : Bytes → Result Value ReportFault
  text_read bytes = option_map_or (λ entry. from_text (reads entry bytes)) (entry_at spec spec.root) (Err fault.NoEntry)

  -- the value of a file
  abbrev pub value_read : Bytes → Result Value ReportFault
  value_read bytes = if nat_lt longest_file (length bytes) then Err fault.Long
      else (if is_saved bytes then from_saved (opens bytes) else text_read bytes)

  -- its term
  abbrev pub term_read : Bytes → Result Term ReportFault
  term_read bytes = and_then (λ v. limited (plain spec v spec.root)) (value_read bytes)
