-- Why a file has no report, without readings.
use Rattle.std.specs.Prelude.{◌≡◌, ◌⊎◌, ◌<◌, ℕ, true, false, length, Some, None}
use Rattle.sg_kinds.specs.Values.{Bytes, Value}
use Rattle.sg_kinds.specs.Plain.{plain}
use Rattle.sg_kinds.specs.Sound.{IsSmall}
use Rattle.sg_kinds.specs.declared.spec.Spec.{Spec}
use Rattle.sg_saved.specs.Read.{Opened, FormAt, PhylumAt, TooLarge, Holds, IsOpened}
use Rattle.sg_input.specs.Entered.{Entered, BadByte, NoToken, Stopped, Faulted, Typed, IsEntered, entry_at}
use Rattle.sg_report.specs.Found.{is_saved, longest_file}
use Rattle.sg_report.specs.declared.answers.ReportFault.{ReportFault}
use Rattle.sg_report.specs.declared.answers.ReportFault.TheVariants as fault

module _ (spec : Spec) (bytes : Bytes) where
  -- a saved file that is opened so, and a text that the entry of the root phylum reads so
  abbrev pub IsOpenedSo : Opened → Type 0
  IsOpenedSo a = (is_saved bytes ≡ true) × IsOpened spec bytes a

  abbrev pub IsEnteredSo : Entered → Type 0
  IsEnteredSo a = (is_saved bytes ≡ false) × (entry : ℕ) × (entry_at spec spec.root ≡ Some entry) × IsEntered spec entry bytes a

  -- the value of the file
  abbrev pub IsValue : Value → Type 0
  IsValue v = IsOpenedSo (Holds v) ⊎ IsEnteredSo (Typed v)

  -- what each refusal but that of the attribute says
  abbrev pub IsRefused : ReportFault → Type 0
  IsRefused fault.NoAttribute = ⊥
  IsRefused fault.Long = longest_file < length bytes
  IsRefused (fault.Form k) = IsOpenedSo (FormAt k)
  IsRefused (fault.Phylum k) = IsOpenedSo (PhylumAt k)
  IsRefused fault.Size = ((nodes : ℕ) × (depth : ℕ) × IsOpenedSo (TooLarge nodes depth))
      ⊎ ((v : Value) × IsValue v × (IsSmall (plain spec v spec.root) → ⊥))
  IsRefused fault.NoEntry = (is_saved bytes ≡ false) × (entry_at spec spec.root ≡ None)
  IsRefused (fault.Byte k) = IsEnteredSo (BadByte k)
  IsRefused (fault.Lexical k) = IsEnteredSo (NoToken k)
  IsRefused (fault.Parse k) = IsEnteredSo (Stopped k)
  IsRefused (fault.Outcome kind) = IsEnteredSo (Faulted kind)
  IsRefused fault.NoMemory = ⊥
