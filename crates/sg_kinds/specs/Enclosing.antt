-- The attribute of the nearest enclosing node that a list names.
use Rattle.std.specs.Prelude.{List, [], ◌∷◌, Option, Some, None, option_map, option_and_then}
use Rattle.sg_kinds.specs.Terms.{Term}
use Rattle.sg_kinds.specs.Specification.{Spec, Far}
use Rattle.sg_kinds.specs.Places.{Place, sub}
use Rattle.sg_kinds.specs.Nets.{Reference, phylum_at, label_of}
use Rattle.sg_kinds.specs.Far.{listed_slot}

-- the attribute that a list names at the node of this place, if it names one of the node's phylum
abbrev pub listed_at : Spec → Term → Place → List Far → Option (Reference Place)
listed_at spec t u fs = option_map (λ s. record { node = u; slot = s })
    (option_and_then (listed_slot fs) (phylum_at spec.ops (label_of (sub t u))))

-- A place has the last step first, so what is behind its first step is the place of the node above: the proper
-- prefixes of the way from the root, the longest first.
abbrev pub near : Spec → Term → Place → List Far → Option (Reference Place)
near spec t [] fs = None
near spec t (k ∷ u) fs = elim (listed_at spec t u fs) [ Some r ↦ Some r | None ↦ near spec t u fs ]
