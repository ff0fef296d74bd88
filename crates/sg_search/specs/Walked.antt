-- What is found and replaced in a term by recursion, by whether something applies to a term, why that has no result, and
-- the result: at a term to which it applies nothing below counts.
use Rattle.std.specs.Prelude.{ℕ, ◌+◌, Bool, false, ◌||◌, if◌then◌else◌, Option, None}
use Rattle.std.specs.Option.{option_or}
use Rattle.sg_kinds.specs.Terms.{Term, Terms, Leaf, Node, NoTerm, AndTerm, nodes_of}
use Rattle.sg_kinds.specs.declared.marks.FaultKind.{FaultKind}

module _ (hit : Term → Bool) where
  -- whether it applies somewhere
  abbrev mutual
    pub hits : Term → Bool
    hits (Leaf p v) = hit (Leaf p v)
    hits (Node op n elided ts) = hit (Node op n elided ts) || some_hit ts

    pub some_hit : Terms → Bool
    some_hit NoTerm = false
    some_hit (AndTerm t ts) = hits t || some_hit ts

  -- why the first that has no result has none
  module _ (fault : Term → Option FaultKind) where
    abbrev mutual
      pub stops : Term → Option FaultKind
      stops (Leaf p v) = if hit (Leaf p v) then fault (Leaf p v) else None
      stops (Node op n elided ts) = if hit (Node op n elided ts) then fault (Node op n elided ts) else first_stop ts

      pub first_stop : Terms → Option FaultKind
      first_stop NoTerm = None
      first_stop (AndTerm t ts) = option_or (stops t) (first_stop ts)

  module _ (made : Term → Term) where
    -- the term with all results in their places
    abbrev mutual
      pub changed : Term → Term
      changed (Leaf p v) = if hit (Leaf p v) then made (Leaf p v) else Leaf p v
      changed (Node op n elided ts) =
          if hit (Node op n elided ts) then made (Node op n elided ts) else Node op n elided (all_changed ts)

      pub all_changed : Terms → Terms
      all_changed NoTerm = NoTerm
      all_changed (AndTerm t ts) = AndTerm (changed t) (all_changed ts)

    -- how many nodes the results have
    abbrev mutual
      pub added : Term → ℕ
      added (Leaf p v) = if hit (Leaf p v) then nodes_of (made (Leaf p v)) else 0
      added (Node op n elided ts) =
          if hit (Node op n elided ts) then nodes_of (made (Node op n elided ts)) else all_added ts

      pub all_added : Terms → ℕ
      all_added NoTerm = 0
      all_added (AndTerm t ts) = added t + all_added ts
