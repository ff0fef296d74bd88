-- The printed value of an attribute of a node, by the attribute's slot.
use Rattle.std.specs.Prelude.{ℕ, List, [], Option, Some, slice_get, option_map, option_and_then, unwrap_or}
use Rattle.sg_kinds.specs.Values.{Bytes}
use Rattle.sg_kinds.specs.Terms.{Term}
use Rattle.sg_kinds.specs.Nets.{label_of, phylum_at}
use Rattle.sg_kinds.specs.Places.{Place, sub}
use Rattle.sg_kinds.specs.FromScratch.{value_in}
use Rattle.sg_kinds.specs.Specification.{attrs_of}
use Rattle.sg_kinds.specs.declared.spec.Spec.{Spec}
use Rattle.sg_kinds.specs.declared.spec.Attr.{Attr}
use Rattle.sg_printing.specs.Printed.{printed}
use Rattle.sg_printing.specs.declared.printed.Form.{Form}
use Rattle.sg_printing.specs.declared.printed.Form.TheVariants.{Page}

-- the attributes of a node, inherited and synthesized: those of its phylum, of which a leaf's value is one
abbrev pub attributes : Spec → Term → List Attr
attributes spec x = unwrap_or (option_map (attrs_of spec.phyla) (phylum_at spec.ops (label_of (Some x)))) []

-- the from-scratch value of a slot of the node that stands at a place, printed as the values of its phylum are
abbrev pub text_at : Spec → Form → Term → Place → ℕ → Term → Option Bytes
text_at spec form t u slot x =
    option_and_then (λ (a : Attr). printed form spec a.of (value_in spec t (record { node = u; slot = slot })))
    (slice_get (attributes spec x) slot)

-- as on a page: None where the term has no such place, its node no such attribute, or where its value is a tree
unfoldable pub shown : Spec → Term → Place → ℕ → Option Bytes
shown spec t u slot = option_and_then (text_at spec Page t u slot) (sub t u)
