-- Lines that are written one behind the other.
use Rattle.std.proofs.Common.{◌≡◌, ◌++◌, ◌∙◌, ap, append_assoc}
use Rattle.sg_kinds.specs.Values.{Bytes}

-- two texts behind a third
pub both : (old mid new a b : Bytes) → mid ≡ old ++ a → new ≡ mid ++ b → new ≡ old ++ (a ++ b)
both old mid new a b first second = second ∙ ap (λ (l : Bytes). l ++ b) first ∙ append_assoc old a b
