-- What a refusal of a file says, by cases of how it is read.
use Rattle.std.specs.Prelude.{◌≡◌, refl, ℕ, ◌<◌, ◌&&◌, Bool, true, false, if◌then◌else◌, nat_lt, nat_le, length, Option, Some, None, Result, Ok, Err}
use Rattle.std.proofs.Common.{sym, ◌∙◌, subst, inl, inr, arith}
use Rattle.std.proofs.lemmas.Bool.Decides.{nat_tests}
use Rattle.sg_kinds.specs.Values.{Bytes, Value}
use Rattle.sg_kinds.specs.Terms.{Term, nodes_of, height_of}
use Rattle.sg_kinds.specs.Plain.{plain}
use Rattle.sg_kinds.specs.Sound.{IsSmall}
use Rattle.sg_kinds.specs.declared.spec.Spec.{Spec}
use Rattle.sg_saved.specs.Read.{Opened, FormAt, PhylumAt, TooLarge, Holds, IsOpened, most_nodes, most_depth}
use Rattle.sg_input.specs.Entered.{Entered, BadByte, NoToken, Stopped, Faulted, Typed, IsEntered, entry_at}
use Rattle.sg_commands.specs.Turn.{Reads, AreReads}
use Rattle.sg_commands.proofs.Reading.{entry_low}
use Rattle.sg_report.specs.Found.{Opens, AreOpens, longest_file, is_saved, from_saved, from_text, and_then, limited, text_read, value_read}
use Rattle.sg_report.specs.Lines.{report_on}
use Rattle.sg_report.specs.Refused.{IsValue, IsRefused}
use Rattle.sg_report.specs.Reports.{report_of}
use Rattle.sg_report.specs.declared.answers.ReportFault.{ReportFault}
use Rattle.sg_report.specs.declared.answers.ReportFault.TheVariants as fault
use Rattle.sg_report.specs.declared.attrs.Named.{Named}
use Rattle.sg_report.proofs.Reading.{report_is, no_entry, by_entry, read_long, read_saved, read_text, within_limits}

-- what an answer is of a file: its value or why it has none
abbrev IsAnswer : Spec → Bytes → Result Value ReportFault → Type 0
IsAnswer spec bytes (Ok v) = IsValue spec bytes v
IsAnswer spec bytes (Err f) = IsRefused spec bytes f

module _ (spec : Spec) (bytes : Bytes) where
  opened : is_saved bytes ≡ true → (a : Opened) → IsOpened spec bytes a → IsAnswer spec bytes (from_saved a)
  opened saved (FormAt k) is = (saved, is)
  opened saved (PhylumAt k) is = (saved, is)
  opened saved (TooLarge nodes depth) is = inl (nodes, depth, (saved, is))
  opened saved (Holds v) is = inl (saved, is)

  entered : is_saved bytes ≡ false → (entry : ℕ) → entry_at spec spec.root ≡ Some entry → (a : Entered) → IsEntered spec entry bytes a → IsAnswer spec bytes (from_text a)
  entered text entry found (BadByte k) is = (text, entry, found, is)
  entered text entry found (NoToken k) is = (text, entry, found, is)
  entered text entry found (Stopped k) is = (text, entry, found, is)
  entered text entry found (Faulted kind) is = (text, entry, found, is)
  entered text entry found (Typed v) is = inr (text, entry, found, is)

module _ (spec : Spec) (reads : Reads) (opens : Opens) (read : AreReads spec reads) (saved : AreOpens spec opens) (bytes : Bytes) where
  typed : is_saved bytes ≡ false → (o : Option ℕ) → entry_at spec spec.root ≡ o → IsAnswer spec bytes (text_read spec reads opens bytes)
  typed text None found = subst (IsAnswer spec bytes) (no_entry spec reads opens bytes found) (text, found)
  typed text (Some entry) found =
      subst (IsAnswer spec bytes) (by_entry spec reads opens bytes entry found)
      (entered spec bytes text entry found (reads entry bytes) (read entry bytes (entry_low spec spec.root entry found)))

  value_is : (long : Bool) → nat_lt longest_file (length bytes) ≡ long → (kept : Bool) → is_saved bytes ≡ kept → IsAnswer spec bytes (value_read spec reads opens bytes)
  value_is true long kept is = subst (IsAnswer spec bytes) (sym (read_long spec reads opens bytes long)) (less longest_file (length bytes) long)
    where
      less : (m n : ℕ) → nat_lt m n ≡ true → m < n
      less m n lt = grind (arith, nat_tests)
  value_is false long true is = subst (IsAnswer spec bytes) (sym (read_saved spec reads opens bytes long is)) (opened spec bytes is (opens bytes) (saved bytes))
  value_is false long false is = subst (IsAnswer spec bytes) (sym (read_text spec reads opens bytes long is)) (typed is (entry_at spec spec.root) refl)

-- a term is over the limits where they are said to refuse it
big : (t : Term) (f : ReportFault) → limited t ≡ Err f → (f ≡ fault.Size) × (IsSmall t → ⊥)
big t f is = (by (nat_le (nodes_of t) most_nodes && nat_le (height_of t) most_depth) is, λ small. let ok : Ok t ≡ Err f = within_limits t small ∙ is in cc)
  where
    by : (b : Bool) → (if b then Ok t else Err fault.Size) ≡ Err f → f ≡ fault.Size
    by true e = absurd (cc)
    by false e = cc

refused_by : (spec : Spec) (a : Named) (bytes : Bytes) (x : Result Value ReportFault) → IsAnswer spec bytes x → (f : ReportFault)
    → and_then (λ t. Ok (report_on spec t a)) (and_then (λ v. limited (plain spec v spec.root)) x) ≡ Err f → IsRefused spec bytes f
refused_by spec a bytes (Err g) is f same = subst (IsRefused spec bytes) (let e : Err g ≡ Err f = same in cc) is
refused_by spec a bytes (Ok v) is f same = by (limited (plain spec v spec.root)) refl same
  where
    by : (r : Result Term ReportFault) → limited (plain spec v spec.root) ≡ r → and_then (λ t. Ok (report_on spec t a)) r ≡ Err f → IsRefused spec bytes f
    by (Ok t) which e = absurd (cc)
    by (Err g) which e =
        let b = big (plain spec v spec.root) g which in
        let size : fault.Size ≡ f = sym b.0 ∙ (let d : Err g ≡ Err f = e in cc) in
        subst (IsRefused spec bytes) size (inr (v, is, b.1))

pub refusal_is_so : (spec : Spec) (reads : Reads) (opens : Opens) → AreReads spec reads → AreOpens spec opens → (a : Named) (bytes : Bytes) (f : ReportFault)
    → report_of spec reads opens a bytes ≡ Err f → IsRefused spec bytes f
refusal_is_so spec reads opens read saved a bytes f is =
    refused_by spec a bytes (value_read spec reads opens bytes) (value_is spec reads opens read saved bytes (nat_lt longest_file (length bytes)) refl (is_saved bytes) refl) f
    (sym (report_is spec reads opens a bytes) ∙ is)
