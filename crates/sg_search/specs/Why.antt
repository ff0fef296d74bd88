-- Why there is no term with all replaced.
use Rattle.std.specs.Prelude.{◌≡◌, ⊤}
use Rattle.sg_kinds.specs.Sound.{IsSmall}
use Rattle.sg_kinds.specs.Terms.{Term}
use Rattle.sg_kinds.specs.Values.{Bytes}
use Rattle.sg_kinds.specs.declared.spec.Spec.{Spec}
use Rattle.sg_search.specs.ReplacedAll.{NoneNamed, NoneApplies, Fails, Makes, replaced_all}
use Rattle.sg_search.specs.declared.replaced.SearchFault.{SearchFault}
use Rattle.sg_search.specs.declared.replaced.SearchFault.TheVariants as fault

-- the term would be over a limit
pub record IsTooLarge (spec : Spec) (name : Bytes) (x : Term) : Type 0 where
  pub term : Term
  pub made : replaced_all spec name x ≡ Makes term
  pub large : IsSmall term → ⊥

-- the refusal is what was replaced; want of memory is tied to nothing
abbrev pub IsWhy : Spec → Bytes → Term → SearchFault → Type 0
IsWhy spec name x fault.Unknown = replaced_all spec name x ≡ NoneNamed
IsWhy spec name x fault.NoMatch = replaced_all spec name x ≡ NoneApplies
IsWhy spec name x (fault.Outcome why) = replaced_all spec name x ≡ Fails why
IsWhy spec name x fault.Size = IsTooLarge spec name x
IsWhy spec name x fault.NoMemory = ⊤
