-- What a walk made of a term, and of a row of terms, where so many nodes were left for results.
use Rattle.std.specs.Prelude.{◌≡◌, ◌+◌, ◌<◌, ℕ, Bool, true, false, List, map, Option, None, Some, ⊤}
use Rattle.sg_kinds.specs.Terms.{Term, kids_of, nodes_of}
use Rattle.sg_kinds.specs.Values.{Bytes}
use Rattle.sg_kinds.specs.declared.marks.FaultKind.{FaultKind}
use Rattle.sg_kinds.specs.declared.spec.Spec.{Spec}
use Rattle.sg_search.specs.Found.{applies_to}
use Rattle.sg_search.specs.ReplacedAll.{fault_to, made_to}
use Rattle.sg_search.specs.Walked.{hits, some_hit, stops, first_stop, changed, added, all_added}
use Rattle.sg_search.specs.declared.replaced.WalkedRow.{WalkedRow}
use Rattle.sg_search.specs.declared.replaced.WalkedRow.TheVariants as row
use Rattle.sg_search.specs.declared.replaced.Walked.{Walked}
use Rattle.sg_search.specs.declared.replaced.Walked.TheVariants as made
use Rattle.sg_search.specs.declared.replaced.SearchFault.{SearchFault}
use Rattle.sg_search.specs.declared.replaced.SearchFault.TheVariants as fault

-- something was replaced, no result is a fault, and the results have as many nodes as went from those left
pub record IsNew (hit : Bool) (stop : Option FaultKind) (count old new : ℕ) : Type 0 where
  pub some : hit ≡ true
  pub whole : stop ≡ None
  pub taken : new + count ≡ old

-- the same, but the results have more nodes than were left
pub record IsOver (hit : Bool) (stop : Option FaultKind) (count old : ℕ) : Type 0 where
  pub some : hit ≡ true
  pub whole : stop ≡ None
  pub more : old < count

-- a result of so many nodes
abbrev pub IsCounted : Term → (old new : ℕ) → Walked → Type 0
IsCounted t old new made.Same = ⊥
IsCounted t old new (made.New s) = (s ≡ t) × (new + nodes_of t ≡ old)
IsCounted t old new made.Over = old < nodes_of t

module _ (spec : Spec) (name : Bytes) where
  abbrev pub IsMade : Term → (old new : ℕ) → Walked → Type 0
  IsMade x old new made.Same = (hits (applies_to spec name) x ≡ false) × (new ≡ old)
  IsMade x old new (made.New s) =
      IsNew (hits (applies_to spec name) x) (stops (applies_to spec name) (fault_to spec name) x)
      (added (applies_to spec name) (made_to spec name) x) old new
      × (s ≡ changed (applies_to spec name) (made_to spec name) x)
  IsMade x old new made.Over =
      IsOver (hits (applies_to spec name) x) (stops (applies_to spec name) (fault_to spec name) x)
      (added (applies_to spec name) (made_to spec name) x) old

  -- the same of a row of terms
  abbrev pub AreMade : List Term → (old new : ℕ) → WalkedRow → Type 0
  AreMade xs old new row.Same = (some_hit (applies_to spec name) (kids_of xs) ≡ false) × (new ≡ old)
  AreMade xs old new (row.New ss) =
      IsNew (some_hit (applies_to spec name) (kids_of xs)) (first_stop (applies_to spec name) (fault_to spec name)
      (kids_of xs)) (all_added (applies_to spec name) (made_to spec name) (kids_of xs)) old new
      × (ss.items ≡ map (changed (applies_to spec name) (made_to spec name)) xs)
  AreMade xs old new row.Over =
      IsOver (some_hit (applies_to spec name) (kids_of xs)) (first_stop (applies_to spec name) (fault_to spec name)
      (kids_of xs)) (all_added (applies_to spec name) (made_to spec name) (kids_of xs)) old

  -- why a walk stopped
  abbrev pub IsStop : Term → SearchFault → Type 0
  IsStop x (fault.Outcome why) = stops (applies_to spec name) (fault_to spec name) x ≡ Some why
  IsStop x fault.NoMemory = ⊤
  IsStop x e = ⊥
