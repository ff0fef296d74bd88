-- What an outline says of a file.
use Rattle.std.proofs.Common.{◌≡◌, ◌⊎◌, ℕ, ◌<◌, ◌≤◌, length, sym, ap, ◌∙◌, subst, Option, Some, None, Result, Ok, Err, MatchOption}
use Rattle.std.specs.Prelude.{⊤, IfSome, IfOk}
use Rattle.sg_kinds.specs.Fits.{Fits}
use Rattle.sg_kinds.specs.Plain.{plain}
use Rattle.sg_kinds.specs.Sound.{HasNames, IsSmall}
use Rattle.sg_kinds.specs.Terms.{Term}
use Rattle.sg_kinds.specs.ValueOf as term
use Rattle.sg_kinds.specs.Values.{Bytes, Value}
use Rattle.sg_kinds.proofs.TermLaws.{value_of_plain}
use Rattle.sg_kinds.specs.declared.spec.Spec.{Spec}
use Rattle.sg_saved_form.specs.Files.{IsRaw, file_of}
use Rattle.sg_saved_form.specs.Notes.{first_place, IsOutline}
use Rattle.sg_saved_form.specs.declared.notes.Outline.{Outline}
use Rattle.sg_saved.specs.Misfits.{value_of, EachFits, parts_of}
use Rattle.sg_saved.specs.Read.{Opened, Holds, TooLarge, IsFileOf, HasMisfit, IsOpened, most_nodes, most_depth}
use Rattle.sg_saved.proofs.Fitting.{fits-read}
use Rattle.sg_saved.proofs.Opening.{one-opening}
use Rattle.sg_saved.specs.Ahead.{IsReadAs}
use Rattle.sg_saved.specs.Answers.{opened_as, opened_of}
use Rattle.sg_saved.specs.declared.reading.OpenFault.{OpenFault}
use Rattle.sg_saved.specs.declared.reading.OpenFault.TheVariants as fault

module _ (spec : Spec) (bytes : Bytes) where
  -- where each subterm fits, the value's term has the nodes and the depth of the outline
  module _ (o : Outline) (is : IsOutline bytes o) (fit : EachFits spec (parts_of spec spec.root first_place is.raw)) where
    pub file-is : IsFileOf spec bytes (value_of spec is.raw) (length o.notes.items) o.depth
    file-is =
        let read = fits-read spec is.raw spec.root first_place fit in
        record {
          is = subst IsRaw (sym read.back) is.is;
          same = is.same ∙ ap file_of (sym read.back);
          fits = read.fits;
          nodes = read.nodes first_place ∙ ap length (sym is.notes);
          depth = read.depth ∙ sym is.depth;
        }

    pub too-large : (n : ℕ) → length o.notes.items ≡ n → (most_nodes < n) ⊎ (most_depth < o.depth) → IsOpened spec bytes (TooLarge n o.depth)
    too-large n count over = (value_of spec is.raw, subst (λ k. IsFileOf spec bytes (value_of spec is.raw) k o.depth) count file-is, over)

    pub holds : (v : Value) → v ≡ value_of spec is.raw → length o.notes.items ≤ most_nodes → o.depth ≤ most_depth → IsOpened spec bytes (Holds v)
    holds v same few flat = subst (λ x. IsOpened spec bytes (Holds x)) (sym same) (length o.notes.items, o.depth, file-is, few, flat)

  -- each subterm fits where no misfit is told
  abbrev pub Fit : Outline → Type 0
  Fit o = (is : IsOutline bytes o) → EachFits spec (parts_of spec spec.root first_place is.raw)

  pub none-misfits : (o : Outline) (p : Option ℕ) → p ≡ None → MatchOption p (Fit o) (HasMisfit spec bytes) → Fit o
  none-misfits o p none told = subst (λ q. MatchOption q (Fit o) (HasMisfit spec bytes)) none told

  -- what an answer says
  pub only-opened : HasNames spec → (r : Option Opened) → MatchOption r ⊤ (IsOpened spec bytes) → (a : Opened) → IsOpened spec bytes a → IfSome r (λ b. b ≡ a)
  only-opened names None right a is = tt
  only-opened names (Some b) right a is = one-opening spec names bytes b a right is

  pub value-fits : (r : Result Value OpenFault) → MatchOption (opened_of r) ⊤ (IsOpened spec bytes) → IfOk r (λ v. Fits spec (plain spec v spec.root) spec.root)
  value-fits (Ok v) right = right.2.fits
  value-fits (Err e) right = tt

  pub value-small : (r : Result Value OpenFault) → MatchOption (opened_of r) ⊤ (IsOpened spec bytes) → IfOk r (λ v. IsSmall (plain spec v spec.root))
  value-small (Ok v) right = let f = right.2 in (subst (λ n. n ≤ most_nodes) (sym f.nodes) right.3, subst (λ n. n ≤ most_depth) (sym f.depth) right.4)
  value-small (Err e) right = tt

  -- what a plain term says that is made in place of the value
  pub term-opened : (o : Outline) (is : IsOutline bytes o) (r : Result Term OpenFault) → IsReadAs spec spec.root first_place is.raw r → length o.notes.items ≤ most_nodes → o.depth ≤ most_depth
      → MatchOption (opened_as r) ⊤ (IsOpened spec bytes)
  term-opened o is (Ok t) read few flat = holds o is read.0 (term.value_of t) (ap term.value_of read.1 ∙ value_of_plain spec (value_of spec is.raw) spec.root) few flat
  term-opened o is (Err (fault.Phylum at)) read few flat = record { raw = is.raw; is = is.is; same = is.same; misfit = read }
  term-opened o is (Err fault.NoMemory) read few flat = tt
  term-opened o is (Err (fault.Form at)) read few flat = absurd read
  term-opened o is (Err (fault.Size n d)) read few flat = absurd read

  pub term-plain : (o : Outline) (is : IsOutline bytes o) (r : Result Term OpenFault) → IsReadAs spec spec.root first_place is.raw r → IfOk r (λ t. t ≡ plain spec (term.value_of t) spec.root)
  term-plain o is (Ok t) read = read.1 ∙ ap (λ v. plain spec v spec.root) (sym (ap term.value_of read.1 ∙ value_of_plain spec (value_of spec is.raw) spec.root))
  term-plain o is (Err e) read = tt

  pub term-fits : (r : Result Term OpenFault) → MatchOption (opened_as r) ⊤ (IsOpened spec bytes) → IfOk r (λ t. t ≡ plain spec (term.value_of t) spec.root) → IfOk r (λ t. Fits spec t spec.root)
  term-fits (Ok t) right same = subst (λ x. Fits spec x spec.root) (sym same) right.2.fits
  term-fits (Err e) right same = tt

  pub term-small : (r : Result Term OpenFault) → MatchOption (opened_as r) ⊤ (IsOpened spec bytes) → IfOk r (λ t. t ≡ plain spec (term.value_of t) spec.root) → IfOk r IsSmall
  term-small (Ok t) right same =
      let f = right.2 in
      subst IsSmall (sym same) (subst (λ n. n ≤ most_nodes) (sym f.nodes) right.3, subst (λ n. n ≤ most_depth) (sym f.depth) right.4)
  term-small (Err e) right same = tt
