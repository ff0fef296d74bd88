use Rattle.std.proofs.Common.{◌≡◌, map, take}
use Rattle.std.specs.Prelude.{filter}
use Rattle.sg_kinds.specs.Terms.{Term}
use Rattle.sg_kinds.specs.ValueOf.{value_of}
use Rattle.sg_kinds.specs.declared.spec.Transform.{Transform}
use Rattle.sg_groves.specs.Holds.{Holds}
use Rattle.sg_live.specs.Offers.{applies_to, each_once, names_of}
use Rattle.sg_live.proofs.offers.names_at.Given as goal

-- the names of those among the first ones that apply
abbrev pub invariant-loop-k : goal.invariant-loop-k
invariant-loop-k l = (t : Term) → Holds l.terms l.at t
    → names_of l.names.items ≡ each_once (map (λ (x : Transform). x.name) (filter (applies_to l.terms.spec l.p (value_of t)) (take l.k l.terms.spec.transforms)))
