-- The placeholder of a phylum: its completing term, but with something in an optional phylum.
use Rattle.std.specs.Prelude.{ℕ, List, false, Option, slice_get, option_and_then, unwrap_or}
use Rattle.sg_kinds.specs.Values.{Truth}
use Rattle.sg_kinds.specs.Terms.{Term, Leaf}
use Rattle.sg_kinds.specs.Specification.{Spec, Phylum, Shape}
use Rattle.sg_kinds.specs.Completing.{over, one_element, completed, completing_within}
use Rattle.sg_kinds.specs.declared.marks.Shape.TheVariants.{Optional, OptionalListed}

-- the placeholder by the phylum's shape and operators, from the completing terms of other phyla
abbrev pub placeheld : Spec → (ℕ → Option Term) → ℕ → List ℕ → Shape → Option Term
placeheld spec made p ops Optional = over spec made (slice_get ops 1)
placeheld spec made p ops OptionalListed = one_element spec made ops
placeheld spec made p ops shape = completed spec made p ops shape

-- the placeholder, where its depth is at most room + 1
abbrev pub placeholder_within : Spec → ℕ → ℕ → Option Term
placeholder_within spec room p = option_and_then (λ (x : Phylum). placeheld spec
    (completing_within spec room) p x.ops x.shape) (slice_get spec.phyla p)

-- the placeholder; of a sound specification each phylum has one of depth at most 1,024
unfoldable pub placeholder : Spec → ℕ → Term
placeholder spec p = unwrap_or (placeholder_within spec 1023 p) (Leaf p (Truth false))
