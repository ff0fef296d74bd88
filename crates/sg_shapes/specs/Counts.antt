-- How many nodes completing terms have, counted to 65,537.
use Rattle.std.specs.Prelude.{ℕ, zero, suc, ◌+◌, Bool, false, ◌&&◌, min, nat_le, List, [], ◌∷◌, map, Option, Some, None, slice_get, option_map, option_and_then}
use Rattle.sg_kinds.specs.Terms.{Term, nodes_of}
use Rattle.sg_kinds.specs.declared.spec.Phylum.{Phylum}
use Rattle.sg_kinds.specs.declared.spec.Operator.{Operator}
use Rattle.sg_kinds.specs.declared.marks.Shape.{Shape}
use Rattle.sg_kinds.specs.Specification.{args_of}
use Rattle.sg_kinds.specs.declared.marks.Shape.TheVariants.{Truths, Numbers, Texts, Lexemes, Ordinary, Optional, Listed, OptionalListed}

abbrev pub capped : ℕ → ℕ
capped n = min n 65537

-- the count of a term that is there
abbrev pub count_of : Option Term → Option ℕ
count_of t = option_map (λ t. capped (nodes_of t)) t

-- the count in a table, if it is there
abbrev pub look : List (Option ℕ) → ℕ → Option ℕ
look counts p = option_and_then (λ c. c) (slice_get counts p)

-- a count and those of some phyla together, where all are there
abbrev pub total : (ℕ → Option ℕ) → ℕ → List ℕ → Option ℕ
total count n [] = Some n
total count n (p ∷ ps) = option_and_then (λ m. total count (capped (n + m)) ps) (count p)

-- an operator over completing terms
abbrev pub over : List Operator → (ℕ → Option ℕ) → Option ℕ → Option ℕ
over ops count None = None
over ops count (Some op) = total count 1 (args_of ops op)

-- a list with one element
abbrev pub one_element : List Operator → (ℕ → Option ℕ) → List ℕ → Option ℕ
one_element ops count (nil ∷ pair ∷ rest) = option_map (λ n. capped (2 + n))
    (option_and_then count (slice_get (args_of ops pair) 0))
one_element ops count os = None

-- a completing term and a placeholder, by the phylum's shape and operators
abbrev pub completed : List Operator → (ℕ → Option ℕ) → List ℕ → Shape → Option ℕ
completed ops count os Truths = Some 1
completed ops count os Numbers = Some 1
completed ops count os Texts = Some 1
completed ops count os (Lexemes l) = Some 1
completed ops count os Ordinary = over ops count (slice_get os 0)
completed ops count os Optional = over ops count (slice_get os 0)
completed ops count os Listed = one_element ops count os
completed ops count os OptionalListed = over ops count (slice_get os 0)

abbrev pub placeheld : List Operator → (ℕ → Option ℕ) → List ℕ → Shape → Option ℕ
placeheld ops count os Optional = over ops count (slice_get os 1)
placeheld ops count os OptionalListed = one_element ops count os
placeheld ops count os shape = completed ops count os shape

-- the table of all phyla for terms that are deeper by one
abbrev pub next_counts : List Phylum → List Operator → List (Option ℕ) → List (Option ℕ)
next_counts phyla ops counts = map (λ (x : Phylum). completed ops (look counts) x.ops x.shape) phyla

-- the same, so many times
unfoldable pub deepened : List Phylum → List Operator → ℕ → List (Option ℕ) → List (Option ℕ)
deepened phyla ops zero counts = counts
deepened phyla ops (suc depth) counts = deepened phyla ops depth (next_counts phyla ops counts)

-- the table of terms without depth: there are none
abbrev pub no_counts : List Phylum → List (Option ℕ)
no_counts phyla = map (λ _. None) phyla

-- a count that is there and in the limit
abbrev pub fits : Option ℕ → Bool
fits None = false
fits (Some n) = nat_le n 65536

-- the completing term and the placeholder of a phylum, over terms of these counts, are in the limit
abbrev pub both_fit : List Operator → List (Option ℕ) → Phylum → Bool
both_fit ops counts x = fits (completed ops (look counts) x.ops x.shape)
    && fits (placeheld ops (look counts) x.ops x.shape)
