-- What is removed never gets over a limit.
use Rattle.std.specs.Prelude.{◌≡◌, refl, ℕ}
use Rattle.sg_kinds.specs.Terms.{Term}
use Rattle.sg_kinds.specs.Places.{Place}
use Rattle.sg_kinds.specs.Sound.{IsSmall}
use Rattle.sg_kinds.specs.declared.spec.Spec.{Spec}
use Rattle.sg_edits.specs.Choice.{Choice, Refused, Put, limited}
use Rattle.sg_edits.specs.Edits.{removed}
use Rattle.sg_edits.proofs.Smaller.{removed_small}
use Rattle.sg_commands.proofs.Putting.{stays}

pub removed_stays : (spec : Spec) (t : Term) (u : Place) (n : ℕ) → IsSmall t → limited t (removed spec t u n) ≡ removed spec t u n
removed_stays spec t u n small = by (removed spec t u n) refl
  where
    by : (x : Choice) → removed spec t u n ≡ x → limited t x ≡ x
    by (Refused m) e = refl
    by (Put at s v) e = stays t at s v (λ large. large (removed_small spec t s u at n v e small))
