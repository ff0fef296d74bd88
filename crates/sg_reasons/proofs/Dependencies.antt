-- What reasons and causes relate are dependencies.
use Rattle.std.specs.Prelude.{◌≡◌, ℕ, zero, suc, ◌+◌, ◌<◌, ◌≤◌, List, length, Some, slice_get, Contains}
use Rattle.std.proofs.Common.{◌∙◌, ap, arith}
use Rattle.std.proofs.lemmas.Option.{slice_get_within, slice_get-get_or}
use Rattle.sg_kinds.specs.declared.spec.Rules.{Rules}
use Rattle.sg_kinds.specs.Dependencies.{occurrence, InPhylum, joined}
use Rattle.sg_kinds.specs.Layers.{Extended, IsLayering}
use Rattle.sg_dependencies.specs.Vertices.{AreInRange, Numbered}
use Rattle.sg_dependencies.proofs.Sound.{attr_vertex}
use Rattle.sg_reasons.specs.Reasons.{Cause, Reason, AreReasons, IsCause, IsReason}
use Rattle.sg_reasons.proofs.Chains.{any_cause, chain_along}

-- by those behind it
reason_holds : (rules : Rules) → AreInRange rules → (reasons : List Reason) (low : ℕ) → ((i : ℕ) (s : Reason) → low ≤ i → slice_get reasons i ≡ Some s → InPhylum rules s.phylum s.from s.to)
    → (r : Reason) → IsReason rules reasons low r → InPhylum rules r.phylum r.from r.to
reason_holds rules range reasons low knows r is =
    let placed = is.placed in
    joined r.op r.at r.phylum r.from r.to placed.phylum placed.from_there placed.to_there
    (chain_along rules range reasons low knows r.way.steps r.op r.way.from is.last is.some is.induced is.steps (occurrence r.at r.from) (occurrence r.at r.to)
    (attr_vertex rules r.op r.at r.phylum r.from placed.phylum placed.from_there) (attr_vertex rules r.op r.at r.phylum r.to placed.phylum placed.to_there) placed.from placed.to)

holds_from : (rules : Rules) → AreInRange rules → (reasons : List Reason) → AreReasons rules reasons → (fuel i : ℕ) (r : Reason) → length reasons ≤ i + fuel → slice_get reasons i ≡ Some r → InPhylum rules r.phylum r.from r.to
holds_from rules range reasons all zero i r high at = absurd (let low = slice_get_within reasons i r at in omega (arith, low, high))
holds_from rules range reasons all (suc fuel) i r high at =
    reason_holds rules range reasons (suc i) (λ j s later there. holds_from rules range reasons all fuel j s (omega (arith, high, later)) there) r (all i r at)

holds_at : (rules : Rules) → AreInRange rules → (reasons : List Reason) → AreReasons rules reasons → (i : ℕ) (r : Reason) → slice_get reasons i ≡ Some r → InPhylum rules r.phylum r.from r.to
holds_at rules range reasons all i r at = holds_from rules range reasons all (length reasons) i r (omega arith) at

pub reason_related : (rules : Rules) (reasons : List Reason) → AreInRange rules → AreReasons rules reasons → (r : Reason) → Contains reasons r → InPhylum rules r.phylum r.from r.to
reason_related rules reasons range all r (k, low, at) = holds_at rules range reasons all k r (slice_get-get_or reasons k r low ∙ ap (λ x. Some x) at)

pub cause_related : (rules : Rules) (layer : ℕ → ℕ → ℕ) (reasons : List Reason) → AreInRange rules → ((X : ℕ) → X < length rules.phyla → IsLayering rules X (layer X)) → AreReasons rules reasons
    → (low p m n : ℕ) (c : Cause) → IsCause rules reasons low p m n c → Numbered rules p (Extended rules layer p) m n
cause_related rules layer reasons range are all low p m n c is = any_cause rules range reasons low (λ i r later at. holds_at rules range reasons all i r at) layer are p m n c is
