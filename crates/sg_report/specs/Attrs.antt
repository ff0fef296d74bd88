-- The attribute that a word names.
use Rattle.std.specs.Prelude.{ℕ, suc, ◌==◌, ◌&&◌, bytes_eq, if◌then◌else◌, take, drop, Option, None, option_map, option_and_then}
use Rattle.std.specs.List.{position}
use Rattle.sg_kinds.specs.Values.{Bytes}
use Rattle.sg_kinds.specs.Specification.{attrs_of}
use Rattle.sg_kinds.specs.declared.spec.Attr.{Attr}
use Rattle.sg_kinds.specs.declared.spec.Phylum.{Phylum}
use Rattle.sg_kinds.specs.declared.spec.Spec.{Spec}
use Rattle.sg_text.specs.Forms.{is_name}
use Rattle.sg_report.specs.declared.attrs.Named.{Named}

-- the attribute of a name of a phylum
abbrev pub named_in : Spec → Bytes → ℕ → Option Named
named_in spec name p = option_map (λ slot. record { phylum = p; slot = slot })
    (position (λ (a : Attr). bytes_eq name a.name) (attrs_of spec.phyla p))

-- that of two names of the language, if there are such a phylum and such an attribute of it, inherited or synthesized
abbrev pub attr_in : Spec → Bytes → Bytes → Option Named
attr_in spec phylum name = if is_name phylum && is_name name
    then option_and_then (named_in spec name) (position (λ (x : Phylum). bytes_eq phylum x.name) spec.phyla)
    else None

-- what stands before the first point of a word, and what stands behind it
abbrev pub halves : Bytes → Option (Bytes × Bytes)
halves word = option_map (λ n. (take n word, drop (suc n) word)) (position (λ b. b == 46) word)

-- the attribute of a word
abbrev pub attr_of : Spec → Bytes → Option Named
attr_of spec word = option_and_then (λ (h : Bytes × Bytes). attr_in spec h.0 h.1) (halves word)
