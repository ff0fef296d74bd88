-- What the answers of the parts of a reading say.
use Rattle.std.specs.Prelude.{◌≡◌, refl, ℕ, ◌≤◌, Bool, true, false, if◌then◌else◌, ◌&&◌, nat_le, nat_lt, length, Option, Some, None, Result, Ok, Err, IfErr, IfOk, IfSome, MatchOption, OnErr, OnOk, ⊤}
use Rattle.std.specs.Option.{option_map_or}
use Rattle.std.specs.Result.{IsErr, IsErrAnd}
use Rattle.std.proofs.Common.{sym, ap, ◌∙◌, subst, arith}
use Rattle.std.proofs.lemmas.Bool.{false≢true}
use Rattle.std.proofs.lemmas.Bool.Decides.{nat_tests}
use Rattle.sg_kinds.specs.Values.{Bytes, Value}
use Rattle.sg_kinds.specs.Terms.{Term, nodes_of, height_of}
use Rattle.sg_kinds.specs.Sound.{IsSmall}
use Rattle.sg_kinds.specs.declared.spec.Spec.{Spec}
use Rattle.sg_saved.specs.Read.{most_nodes, most_depth}
use Rattle.sg_input.specs.Entered.{entry_at}
use Rattle.sg_commands.specs.Turn.{Reads}
use Rattle.sg_report.specs.Answers.{answered_of}
use Rattle.sg_report.specs.Found.{Opens, longest_file, is_saved, from_saved, from_text, and_then, limited, text_read, value_read, term_read}
use Rattle.sg_report.specs.Lines.{report_on}
use Rattle.sg_report.specs.Reports.{report_of}
use Rattle.sg_report.specs.declared.answers.ReportFault.{ReportFault}
use Rattle.sg_report.specs.declared.answers.ReportFault.TheVariants as fault
use Rattle.sg_report.specs.declared.attrs.Named.{Named}

answered : {A : Type 0} → (r : Result A ReportFault) → MatchOption (answered_of r) ⊤ (λ x. x ≡ r)
answered (Ok x) = refl
answered (Err fault.NoAttribute) = refl
answered (Err fault.Long) = refl
answered (Err (fault.Form k)) = refl
answered (Err (fault.Phylum k)) = refl
answered (Err fault.Size) = refl
answered (Err fault.NoEntry) = refl
answered (Err (fault.Byte k)) = refl
answered (Err (fault.Lexical k)) = refl
answered (Err (fault.Parse k)) = refl
answered (Err (fault.Outcome kind)) = refl
answered (Err fault.NoMemory) = tt

-- an answer that is this, and that says this
pub as_told : {A : Type 0} → (r x : Result A ReportFault) → r ≡ x → MatchOption (answered_of r) ⊤ (λ y. y ≡ x)
as_told r x same = subst (λ z. MatchOption (answered_of r) ⊤ (λ y. y ≡ z)) same (answered r)

pub told_as : {A : Type 0} → (o : Option A) (x z : A) → MatchOption o ⊤ (λ y. y ≡ x) → x ≡ z → MatchOption o ⊤ (λ y. y ≡ z)
told_as o x z told same = subst (λ w. MatchOption o ⊤ (λ y. y ≡ w)) same told

-- a refusal of what was read goes on to be one of what follows
pub refused : {A B : Type 0} → (f : ReportFault) (r : Result A ReportFault) (next : A → Result B ReportFault) → MatchOption (answered_of {A = A} (Err f)) ⊤ (λ x. x ≡ r)
    → MatchOption (answered_of {A = B} (Err f)) ⊤ (λ x. x ≡ and_then next r)
refused fault.NoAttribute r next is = ap (and_then next) is
refused fault.Long r next is = ap (and_then next) is
refused (fault.Form k) r next is = ap (and_then next) is
refused (fault.Phylum k) r next is = ap (and_then next) is
refused fault.Size r next is = ap (and_then next) is
refused fault.NoEntry r next is = ap (and_then next) is
refused (fault.Byte k) r next is = ap (and_then next) is
refused (fault.Lexical k) r next is = ap (and_then next) is
refused (fault.Parse k) r next is = ap (and_then next) is
refused (fault.Outcome kind) r next is = ap (and_then next) is
refused fault.NoMemory r next is = tt

-- want of memory says nothing
pub want : {A : Type 0} → (f : ReportFault) → f ≡ fault.NoMemory → (P : Result A ReportFault → Type 0) → MatchOption (answered_of {A = A} (Err f)) ⊤ P
want f is P = subst (λ g. MatchOption (answered_of (Err g)) ⊤ P) (sym is) tt

-- why there is no value, by the one way in which it is read
pub read_told : {A : Type 0} → (o : Option A) (from : A → Result Value ReportFault) (a : A) (f : ReportFault) → IfSome o (λ b. b ≡ a) → MatchOption o (f ≡ fault.NoMemory) (λ b. Err f ≡ from b)
    → MatchOption (answered_of {A = Value} (Err f)) ⊤ (λ x. x ≡ from a)
read_told None from a f only is = want f is (λ x. x ≡ from a)
read_told (Some b) from a f only is = as_told (Err f) (from a) (is ∙ ap from only)

-- an answer that is not want of memory is this
pub told_fault : {A : Type 0} → (f : ReportFault) (x : Result A ReportFault) → (f ≡ fault.NoMemory → ⊥) → MatchOption (answered_of {A = A} (Err f)) ⊤ (λ y. y ≡ x) → Err f ≡ x
told_fault fault.NoAttribute x other is = is
told_fault fault.Long x other is = is
told_fault (fault.Form k) x other is = is
told_fault (fault.Phylum k) x other is = is
told_fault fault.Size x other is = is
told_fault fault.NoEntry x other is = is
told_fault (fault.Byte k) x other is = is
told_fault (fault.Lexical k) x other is = is
told_fault (fault.Parse k) x other is = is
told_fault (fault.Outcome kind) x other is = is
told_fault fault.NoMemory x other is = absurd (other refl)

-- an exit by an error
pub wanted : {A : Type 0} → (r : Result A ReportFault) → IsErrAnd r (λ f. f ≡ fault.NoMemory) → (P : Result A ReportFault → Type 0) → MatchOption (answered_of r) ⊤ P
wanted (Ok x) is P = absurd is
wanted (Err f) is P = want f is P

pub refused_exit : {A B : Type 0} → (r : Result B ReportFault) (f : ReportFault) → IsErrAnd r (λ e. e ≡ f) → (x : Result A ReportFault) (next : A → Result B ReportFault) → MatchOption (answered_of {A = A} (Err f)) ⊤ (λ y. y ≡ x)
    → MatchOption (answered_of r) ⊤ (λ y. y ≡ and_then next x)
refused_exit (Ok y) f is x next told = absurd is
refused_exit (Err e) f is x next told = subst (λ d. MatchOption (answered_of (Err d)) ⊤ (λ y. y ≡ and_then next x)) (sym is) (refused f x next told)

pub err_is : {A : Type 0} → (r : Result A ReportFault) (f : ReportFault) (P : ReportFault → Type 0) → IsErrAnd r (λ e. e ≡ f) → P f → IfErr r P
err_is (Ok x) f P is here = tt
err_is (Err e) f P is here = subst P (sym is) here

-- the value of a file, by its length and its front
module _ (spec : Spec) (reads : Reads) (opens : Opens) (bytes : Bytes) where
  pub read_long : nat_lt longest_file (length bytes) ≡ true → value_read spec reads opens bytes ≡ Err fault.Long
  read_long long = ap (λ b. if b then Err fault.Long else (if is_saved bytes then from_saved (opens bytes) else text_read spec reads opens bytes)) long

  pub read_saved : nat_lt longest_file (length bytes) ≡ false → is_saved bytes ≡ true → value_read spec reads opens bytes ≡ from_saved (opens bytes)
  read_saved short saved =
      ap (λ b. if b then Err fault.Long else (if is_saved bytes then from_saved (opens bytes) else text_read spec reads opens bytes)) short
      ∙ ap (λ b. if b then from_saved (opens bytes) else text_read spec reads opens bytes) saved

  pub read_text : nat_lt longest_file (length bytes) ≡ false → is_saved bytes ≡ false → value_read spec reads opens bytes ≡ text_read spec reads opens bytes
  read_text short saved =
      ap (λ b. if b then Err fault.Long else (if is_saved bytes then from_saved (opens bytes) else text_read spec reads opens bytes)) short
      ∙ ap (λ b. if b then from_saved (opens bytes) else text_read spec reads opens bytes) saved

-- where the root phylum has an entry, or none
module _ (spec : Spec) (reads : Reads) (opens : Opens) (bytes : Bytes) where
  pub no_entry : entry_at spec spec.root ≡ None → Err fault.NoEntry ≡ text_read spec reads opens bytes
  no_entry none = sym (ap (λ o. option_map_or (λ entry. from_text (reads entry bytes)) o (Err fault.NoEntry)) none)

  pub by_entry : (entry : ℕ) → entry_at spec spec.root ≡ Some entry → from_text (reads entry bytes) ≡ text_read spec reads opens bytes
  by_entry entry found = sym (ap (λ o. option_map_or (λ e. from_text (reads e bytes)) o (Err fault.NoEntry)) found)

-- a term in the limits, or not
pub within_limits : (t : Term) → IsSmall t → Ok t ≡ limited t
within_limits t small =
    let nodes : nat_le (nodes_of t) most_nodes ≡ true = le_is (nodes_of t) most_nodes small.0 in
    let depth : nat_le (height_of t) most_depth ≡ true = le_is (height_of t) most_depth small.1 in
    sym (ap (λ b. if b && nat_le (height_of t) most_depth then Ok t else Err fault.Size) nodes ∙ ap (λ b. if b then Ok t else Err fault.Size) depth)
  where
    le_is : (m n : ℕ) → m ≤ n → nat_le m n ≡ true
    le_is m n le = grind (arith, nat_tests)

pub over_limits : (t : Term) → (IsSmall t → ⊥) → Err fault.Size ≡ limited t
over_limits t big = by (nat_le (nodes_of t) most_nodes) refl (nat_le (height_of t) most_depth) refl
  where
    is_le : (m n : ℕ) → nat_le m n ≡ true → m ≤ n
    is_le m n le = grind (arith, nat_tests)

    by : (b : Bool) → nat_le (nodes_of t) most_nodes ≡ b → (d : Bool) → nat_le (height_of t) most_depth ≡ d → Err fault.Size ≡ (if b && d then Ok t else Err fault.Size)
    by false nodes d depth = refl
    by true nodes false depth = refl
    by true nodes true depth = absurd (big (is_le (nodes_of t) most_nodes nodes, is_le (height_of t) most_depth depth))

-- what the report of an attribute is
pub report_is : (spec : Spec) (reads : Reads) (opens : Opens) (a : Named) (bytes : Bytes) → report_of spec reads opens a bytes ≡ and_then (λ t. Ok (report_on spec t a)) (term_read spec reads opens bytes)
unfolding report_of
report_is spec reads opens a bytes = refl

pub ok_same : {A E : Type 0} → (r : Result A E) (x : A) (P : A → Type 0) → IfOk r (λ y. y ≡ x) → P x → IfOk r P
ok_same (Ok y) x P same here = subst P (sym same) here
ok_same (Err f) x P same here = tt

pub on_ok : {A E P : Type 0} → (r : Result A E) → P → OnOk r P
on_ok (Ok x) here = here
on_ok (Err e) here = tt

pub on_err : {A E P : Type 0} → (r : Result A E) → P → OnErr r P
on_err (Ok x) here = tt
on_err (Err e) here = here

-- what is said of the other kind of answer
pub no_ok : {A E : Type 0} → (r : Result A E) (P : Type 0) → IsErr r → OnOk r P
no_ok (Ok x) P is = absurd (false≢true is)
no_ok (Err e) P is = tt

pub no_if_ok : {A E : Type 0} → (r : Result A E) (P : A → Type 0) → IsErr r → IfOk r P
no_if_ok (Ok x) P is = absurd (false≢true is)
no_if_ok (Err e) P is = tt

pub each_err : {A E : Type 0} → (r : Result A E) (P : E → Type 0) → ((e : E) → P e) → IfErr r P
each_err (Ok x) P here = tt
each_err (Err e) P here = here e
