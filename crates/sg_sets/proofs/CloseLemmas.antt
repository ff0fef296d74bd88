-- Lemmas on closed relations.
use Rattle.std.proofs.Common.{ℕ, List, Bool}
use Rattle.sg_sets.specs.Paths.{Path, IsTransitive}
use Rattle.sg_sets.specs.Rows.{Holds}
use Rattle.sg_sets.proofs.PathsLemmas.{Path-least}

-- a transitive relation that holds the pairs of another holds each path of it
pub Holds-path : (start closed : List (List Bool)) → ((a b : ℕ) → Holds start a b → Holds closed a b) → IsTransitive (Holds closed) → (a b : ℕ) → Path (Holds start) a b → Holds closed a b
Holds-path start closed contains transitive a b p = Path-least (Holds start) (Holds closed) contains transitive a b p.0 p.1
