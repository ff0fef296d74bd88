-- What is read from an entry, and where reading fails.
use Rattle.std.specs.Prelude.{◌≡◌, refl, ℕ, ◌+◌, ◌<◌, ◌≤◌, List, [], ◌∷◌, length, All, Option, Some, None, slice_get, option_map, unwrap_or, nat_eq, get_or, Result, Ok, Err, IfOk, IfSome, MatchOption, ⊤}
use Rattle.std.proofs.Common.{sym, ap, ◌∙◌, subst, arith}
use Rattle.std.proofs.lemmas.List.Elements.{All-nil, All-cons, All-append, All-weaker}
use Rattle.std.proofs.lemmas.List.Quantifiers.{position-Some}
use Rattle.std.proofs.lemmas.Option.{get_or_from_slice_get, slice_get-get_or, slice_get_within}
use Rattle.sg_kinds.specs.Values.{Bytes, Value}
use Rattle.sg_kinds.specs.Fits.{Fits}
use Rattle.sg_kinds.specs.Plain.{plain}
use Rattle.sg_kinds.specs.declared.spec.Entry.{Entry}
use Rattle.sg_kinds.specs.declared.spec.Spec.{Spec}
use Rattle.sg_kinds.proofs.Elementary.{eq_is}
use Rattle.sg_patterns.specs.Scan.{Scanned, start, skipped, taken, token_of}
use Rattle.sg_patterns.specs.declared.lexemes.Lexemes.{Lexemes}
use Rattle.sg_patterns.specs.declared.scanning.InToken.{InToken}
use Rattle.sg_buffer.specs.Held.{Held, state_of}
use Rattle.sg_edits.specs.Edits.{phylum_in}
use Rattle.sg_input.specs.Entered.{entry_at, phylum_at, place_of, Entered, IsEntered}
use Rattle.sg_input.specs.Parsed.{entered_of}
use Rattle.sg_input.specs.declared.entering.EntryFault.{EntryFault}
use Rattle.sg_input.specs.declared.entering.EntryFault.TheVariants as fault
use Rattle.sg_commands.specs.Replaced.{FitsHere, StopsWithin}
use Rattle.sg_commands.specs.Turn.{AreReads, Reads}
use Rattle.sg_commands.specs.Turns.{entry_here, selected_term}

-- tokens begin in what was scanned
froms : (l : Lexemes) (text : Bytes) (at : ℕ) (ts : List InToken) → Scanned l text at ts → All (λ (x : InToken). x.from ≤ at) ts
froms l text _ _ start = All-nil (λ (x : InToken). x.from ≤ 0)
froms l text _ _ (skipped at number len ts s f blank) = All-weaker (λ (x : InToken). x.from ≤ at) (λ (x : InToken). x.from ≤ at + len) (λ x low. omega arith) ts (froms l text at ts s)
froms l text _ _ (taken at number len ts s f other) =
    let P : InToken → Type 0 = λ (x : InToken). x.from ≤ at + len in
    let before : All P ts = All-weaker (λ (x : InToken). x.from ≤ at) P (λ x low. omega arith) ts (froms l text at ts s) in
    let one : P (token_of l at number len) = omega arith in
    All-append P ts (token_of l at number len ∷ []) before (All-cons P (token_of l at number len) [] one (All-nil P))

place_within : (l : Lexemes) (text : Bytes) (ts : List InToken) (i : ℕ) → Scanned l text (length text) ts → place_of text ts i ≤ length text
place_within l text ts i s = by (slice_get ts i) refl
  where
    by : (o : Option InToken) → slice_get ts i ≡ o → unwrap_or (option_map (λ (x : InToken). x.from) o) (length text) ≤ length text
    by None e = omega arith
    by (Some x) e = subst (λ (y : InToken). y.from ≤ length text) (get_or_from_slice_get ts i x x e) (froms l text (length text) ts s i x (slice_get_within ts i x e))

-- a text fails in it
pub stops_within : (spec : Spec) (entry : ℕ) (text : Bytes) (r : Result Value EntryFault) → MatchOption (entered_of r) ⊤ (IsEntered spec entry text) → StopsWithin (length text) r
stops_within spec entry text (Ok v) is = tt
stops_within spec entry text (Err (fault.Byte k)) is = tt
stops_within spec entry text (Err (fault.Lexical k)) is = let low = is.3.within in omega (arith, low)
stops_within spec entry text (Err (fault.Parse k)) is = subst (λ n. n ≤ length text) (sym is.4) (place_within is.1.1 text is.0 is.2 is.1.3)
stops_within spec entry text (Err (fault.Outcome kind)) is = tt
stops_within spec entry text (Err fault.NoMemory) is = tt

module _ (spec : Spec) (p entry : ℕ) (found : entry_at spec p ≡ Some entry) where
  some_entry : Entry
  some_entry = record { phylum = 0; nonterminal = 0 }

  -- the entry of a phylum is one of it
  pub entry_low : entry < length spec.entries
  entry_low = (position-Some (λ (e : Entry). nat_eq e.phylum p) spec.entries entry some_entry found).0

  pub entry_phylum : phylum_at spec entry ≡ p
  entry_phylum =
      let is = position-Some (λ (e : Entry). nat_eq e.phylum p) spec.entries entry some_entry found in
      ap (λ o. unwrap_or (option_map (λ (e : Entry). e.phylum) o) 0) (slice_get-get_or spec.entries entry some_entry is.0)
      ∙ eq_is (get_or spec.entries entry some_entry).phylum p is.1

-- where an evaluator is of the buffer's specification
module _ (b : Held) (ev : Spec) (same : ev ≡ b.grove.spec) (entry : ℕ) (found : entry_here b.grove.spec (state_of b) ≡ Some entry) where
  pub low_there : entry < length ev.entries
  low_there = subst (λ (s : Spec). entry < length s.entries) (sym same) (entry_low b.grove.spec (phylum_in b.grove.spec (selected_term (state_of b))) entry found)

  pub fits_there : (r : Result Value EntryFault) → IfOk r (λ v. Fits ev (plain ev v (phylum_at ev entry)) (phylum_at ev entry)) → IfOk r (FitsHere b)
  fits_there (Ok v) fits =
      subst (λ q. Fits b.grove.spec (plain b.grove.spec v q) q) (entry_phylum b.grove.spec (phylum_in b.grove.spec (selected_term (state_of b))) entry found)
      (subst (λ (s : Spec). Fits s (plain s v (phylum_at s entry)) (phylum_at s entry)) same fits)
  fits_there (Err e) fits = tt

  pub reads_there : (text : Bytes) (r : Result Value EntryFault) → ((a : Entered) → IsEntered ev entry text a → IfSome (entered_of r) (λ e. e ≡ a))
      → (reads : Reads) → AreReads b.grove.spec reads → IfSome (entered_of r) (λ e. e ≡ reads entry text)
  reads_there text r only reads are =
      only (reads entry text) (subst (λ s. IsEntered s entry text (reads entry text)) (sym same) (are entry text (entry_low b.grove.spec (phylum_in b.grove.spec (selected_term (state_of b))) entry found)))
