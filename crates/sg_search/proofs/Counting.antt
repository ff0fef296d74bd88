-- What the result at a term is to a walk.
use Rattle.std.specs.Prelude.{◌≡◌, ℕ, Bool, true, false, List, take, Some, None, slice_get, Result, Ok, Err, MatchResult, IfOk}
use Rattle.std.proofs.Common.{sym, ap, ◌∙◌, subst, arith}
use Rattle.sg_kinds.specs.Plain.{plain}
use Rattle.sg_kinds.specs.Sound.{IsSmall}
use Rattle.sg_kinds.specs.Fits.{Fits}
use Rattle.sg_kinds.specs.Terms.{Term, Node, kids_of, nodes_of}
use Rattle.sg_kinds.specs.ValueOf.{value_of}
use Rattle.sg_kinds.specs.Values.{Bytes, Fault}
use Rattle.sg_kinds.specs.declared.marks.FaultKind.{FaultKind}
use Rattle.sg_kinds.specs.declared.spec.Spec.{Spec}
use Rattle.sg_matching.specs.Transformation.{Gives, transformation}
use Rattle.sg_search.specs.Found.{applies_to, is_known}
use Rattle.sg_search.specs.Made.{AreMade, IsCounted, IsMade, IsStop}
use Rattle.sg_search.specs.ReplacedAll.{Makes, fault_of, fault_to, given_to, made_to, plain_of, replaced_all}
use Rattle.sg_search.specs.Walked.{added, stops}
use Rattle.sg_search.specs.Why.{IsWhy}
use Rattle.sg_search.specs.declared.replaced.WalkedRow.{WalkedRow}
use Rattle.sg_search.specs.declared.replaced.Walked.{Walked}
use Rattle.sg_search.specs.declared.replaced.Walked.TheVariants as made
use Rattle.sg_search.specs.declared.replaced.SearchFault.{SearchFault}
use Rattle.sg_search.specs.declared.replaced.SearchFault.TheVariants as fault
use Rattle.sg_search.proofs.Everywhere.{added_here, changed_here, hits_here, one_fails, stops_here, stops_some}
use Rattle.sg_search.proofs.Given.{applies_given, fits_phylum, given_at, no_fault}
use Rattle.sg_search.proofs.Rows.{row_whole, stop_there, stops_over}
use Rattle.sg_search.proofs.Walked.{no_stop}

module _ (spec : Spec) (name : Bytes) (x : Term) where
  -- a result of a term that fits a phylum
  pub counted_made : (p : ℕ) (s : Term) (old new : ℕ) (m : Walked) → Fits spec x p → transformation spec p name (value_of x) ≡ Gives (value_of s) → s ≡ plain spec (value_of s) p → Fits spec s p
      → IsCounted s old new m → IsMade spec name x old new m
  counted_made p s old new m fits gives is fit counted = by m counted
    where
      given : given_to spec name x ≡ Gives (value_of s)
      given = given_at spec name x p (Gives (value_of s)) fits gives

      on : applies_to spec name x ≡ true
      on = applies_given spec name x (value_of s) given

      whole : stops (applies_to spec name) (fault_to spec name) x ≡ None
      whole = stops_here (applies_to spec name) (fault_to spec name) x on ∙ ap (fault_of spec name) given ∙ no_fault spec p s fit

      made_is : made_to spec name x ≡ s
      made_is = ap (plain_of spec name x) given ∙ ap (plain spec (value_of s)) (fits_phylum spec x p fits) ∙ sym is

      size : added (applies_to spec name) (made_to spec name) x ≡ nodes_of s
      size = added_here (applies_to spec name) (made_to spec name) x on ∙ ap nodes_of made_is

      by : (m : Walked) → IsCounted s old new m → IsMade spec name x old new m
      by made.Same h = absurd h
      by (made.New r) h = (
        record { some = hits_here (applies_to spec name) x on; whole = whole; taken = let same = size in let t = h.1 in omega (arith, same, t) },
        h.0 ∙ sym made_is ∙ sym (changed_here (applies_to spec name) (made_to spec name) x on),
      )
      by made.Over h = record { some = hits_here (applies_to spec name) x on; whole = whole; more = let same = size in omega (arith, same, h) }

  pub fault_stops : (why : FaultKind) → given_to spec name x ≡ Gives (Fault why) → stops (applies_to spec name) (fault_to spec name) x ≡ Some why
  fault_stops why given = stops_here (applies_to spec name) (fault_to spec name) x (applies_given spec name x (Fault why) given) ∙ ap (fault_of spec name) given

  -- a child at which the walk stopped
  pub stopped : (op n : ℕ) (elided : Bool) (xs : List Term) (k : ℕ) (y : Term) (old now : ℕ) (row : WalkedRow) (e : SearchFault) → x ≡ Node op n elided (kids_of xs) → applies_to spec name x ≡ false
      → slice_get xs k ≡ Some y → AreMade spec name (take k xs) old now row → IsStop spec name y e → IsStop spec name x e
  stopped op n elided xs k y old now row (fault.Outcome why) is off at before stop =
      stops_over (applies_to spec name) (fault_to spec name) (made_to spec name) op n elided xs x is off
      ∙ stop_there (applies_to spec name) (fault_to spec name) xs k y why at (row_whole spec name (take k xs) old now row before) stop
  stopped op n elided xs k y old now row fault.NoMemory is off at before stop = tt
  stopped op n elided xs k y old now row fault.Unknown is off at before stop = absurd stop
  stopped op n elided xs k y old now row fault.NoMatch is off at before stop = absurd stop
  stopped op n elided xs k y old now row fault.Size is off at before stop = absurd stop

  -- why the walk over the whole term stopped
  pub stop_why : (e : SearchFault) → is_known spec name ≡ true → IsStop spec name x e → IsWhy spec name x e
  stop_why (fault.Outcome why) known stop =
      one_fails spec name x why known (stops_some (applies_to spec name) (fault_to spec name) x why (no_stop (applies_to spec name) (fault_to spec name) x) stop) stop
  stop_why fault.NoMemory known stop = tt
  stop_why fault.Unknown known stop = absurd stop
  stop_why fault.NoMatch known stop = absurd stop
  stop_why fault.Size known stop = absurd stop

  -- the new term, in the limits or not
  pub within_given : (r : Result Term SearchFault) (s : Term) → MatchResult r (λ y. (y ≡ s) × IsSmall y) (λ e. (e ≡ fault.Size) × (IsSmall s → ⊥)) → replaced_all spec name x ≡ Makes s
      → MatchResult r (λ y. replaced_all spec name x ≡ Makes y) (IsWhy spec name x)
  within_given (Ok y) s h made = made ∙ ap Makes (sym h.0)
  within_given (Err e) s h made = subst (IsWhy spec name x) (sym h.0) (record { term = s; made = made; large = h.1 })

pub within_fits : (spec : Spec) (p : ℕ) (r : Result Term SearchFault) (s : Term) → MatchResult r (λ y. (y ≡ s) × IsSmall y) (λ e. (e ≡ fault.Size) × (IsSmall s → ⊥)) → Fits spec s p
    → IfOk r (λ y. Fits spec y p)
within_fits spec p (Ok y) s h fits = subst (λ z. Fits spec z p) (sym h.0) fits
within_fits spec p (Err e) s h fits = tt
