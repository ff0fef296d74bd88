-- The completing term of a phylum.
use Rattle.std.specs.Prelude.{ℕ, zero, suc, pos, false, List, [], ◌∷◌, Option, Some, None, slice_get, option_map, option_and_then, unwrap_or}
use Rattle.sg_kinds.specs.Values.{Truth, Number, Chars}
use Rattle.sg_kinds.specs.Terms.{Term, Terms, Leaf, Node, NoTerm, AndTerm}
use Rattle.sg_kinds.specs.Specification.{Spec, Phylum, Shape, args_of}
use Rattle.sg_kinds.specs.declared.marks.Shape.TheVariants.{Truths, Numbers, Texts, Lexemes, Ordinary, Optional, Listed, OptionalListed}

-- the terms that `made` gives for each phylum, where it gives all
abbrev pub all_made : (ℕ → Option Term) → List ℕ → Option Terms
all_made made [] = Some NoTerm
all_made made (p ∷ ps) = option_and_then (λ t. option_map (AndTerm t) (all_made made ps)) (made p)

-- an operator over completing terms: with scheme number 0 and nothing elided
abbrev pub over : Spec → (ℕ → Option Term) → Option ℕ → Option Term
over spec made None = None
over spec made (Some op) = option_map (Node op 0 false) (all_made made (args_of spec.ops op))

-- a list with one element: the binary operator over an element and the nullary operator
abbrev pub one_element : Spec → (ℕ → Option Term) → List ℕ → Option Term
one_element spec made (nil ∷ pair ∷ ops) = option_map (λ t. Node pair 0 false
    (AndTerm t (AndTerm (Node nil 0 false NoTerm) NoTerm)))
    (option_and_then made (slice_get (args_of spec.ops pair) 0))
one_element spec made ops = None

-- the completing term by the phylum's shape and operators, from those of other phyla
abbrev pub completed : Spec → (ℕ → Option Term) → ℕ → List ℕ → Shape → Option Term
completed spec made p ops Truths = Some (Leaf p (Truth false))
completed spec made p ops Numbers = Some (Leaf p (Number (pos 0)))
completed spec made p ops Texts = Some (Leaf p (Chars []))
completed spec made p ops (Lexemes l) = Some (Leaf p (Chars []))
completed spec made p ops Ordinary = over spec made (slice_get ops 0)
completed spec made p ops Optional = over spec made (slice_get ops 0)
completed spec made p ops Listed = one_element spec made ops
completed spec made p ops OptionalListed = over spec made (slice_get ops 0)

-- the completing term, where its depth is at most `room`
abbrev pub completing_within : Spec → ℕ → ℕ → Option Term
completing_within spec zero p = None
completing_within spec (suc room) p = option_and_then (λ (x : Phylum). completed spec
    (completing_within spec room) p x.ops x.shape) (slice_get spec.phyla p)

-- the completing term; of a sound specification each phylum has one of depth at most 1,024
unfoldable pub completing : Spec → ℕ → Term
completing spec p = unwrap_or (completing_within spec 1024 p) (Leaf p (Truth false))
