-- The ordering on worked examples.
use Rattle.std.specs.Prelude.{refl, ℕ, [], ◌∷◌, slice_index}
use Rattle.std.proofs.Common.{arith}
use Rattle.sg_kinds.specs.Dependencies.{Direct, InPhylum, direct, one, joined}
use Rattle.sg_kinds.specs.Layers.{Extended, within, layered}
use Rattle.sg_dependencies.specs.Ordered as order
use Rattle.sg_dependencies.specs.Ordered.{Leads}
use Rattle.sg_kinds.specs.Specification.{rules_of}
use Rattle.sg_kinds.proofs.Languages.{uses, meeting, rule, at}

-- the direct dependencies of the source and its use
uses_left : Direct (rules_of uses) 0 (at 1 0) (at 2 0)
uses_left = record { rule = rule 0 (at 2 0) (at 1 0 ∷ []) 2; stands = (2, omega arith, refl); of_operator = refl; names = (0, omega arith, refl); target = refl }

uses_sum : Direct (rules_of uses) 3 (at 0 0) (at 0 2)
uses_sum = record { rule = rule 3 (at 0 2) (at 0 0 ∷ at 0 1 ∷ []) 4; stands = (4, omega arith, refl); of_operator = refl; names = (0, omega arith, refl); target = refl }

-- the sum of a use depends on what it inherits
uses_induced : InPhylum (rules_of uses) 5 0 2
uses_induced = joined 3 0 5 0 2 refl (omega arith) (omega arith) (one 3 _ _ (direct 3 _ _ uses_sum))

-- both inherited attributes in layer 2, both synthesized ones in layer 1
layer : ℕ → ℕ → ℕ
layer X a = slice_index (2 ∷ 2 ∷ 1 ∷ 1 ∷ []) a

meeting_s : Direct (rules_of meeting) 0 (at 2 2) (at 1 0)
meeting_s = record { rule = rule 0 (at 1 0) (at 2 2 ∷ []) 0; stands = (2, omega arith, refl); of_operator = refl; names = (0, omega arith, refl); target = refl }

meeting_t : Direct (rules_of meeting) 0 (at 1 3) (at 2 1)
meeting_t = record { rule = rule 0 (at 2 1) (at 1 3 ∷ []) 0; stands = (5, omega arith, refl); of_operator = refl; names = (0, omega arith, refl); target = refl }

-- the cycle x$1.i x$1.t x$2.j x$2.s
meeting_cycle : Leads (Extended (rules_of meeting) layer 0) (at 1 0) (at 1 0)
unfolding layer
meeting_cycle =
    order.more _ _ _ (layered 0 1 4 0 3 refl (omega arith) (omega arith) (omega arith))
    (order.more _ _ _ (within 0 _ _ (direct 0 _ _ meeting_t))
    (order.more _ _ _ (layered 0 2 4 1 2 refl (omega arith) (omega arith) (omega arith))
    (order.one _ _ (within 0 _ _ (direct 0 _ _ meeting_s)))))
