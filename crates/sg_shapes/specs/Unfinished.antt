-- The first phylum that has no completing term or placeholder in the limits of a buffer's term.
use Rattle.std.specs.Prelude.{ℕ, Bool, false, not, ◌&&◌, length, nat_le, find, Option, Some, None}
use Rattle.sg_kinds.specs.Terms.{Term, nodes_of, height_of}
use Rattle.sg_kinds.specs.declared.spec.Spec.{Spec}
use Rattle.sg_kinds.specs.Completing.{completing_within}
use Rattle.sg_kinds.specs.Placeholder.{placeholder_within}
use Rattle.sg_kinds.specs.Instances.{below}
use Rattle.sg_names.specs.declared.table.Table.{Table}
use Rattle.sg_names.specs.Drafted.{drafted}

abbrev pub is_small : Term → Bool
is_small t = nat_le (nodes_of t) 65536 && nat_le (height_of t) 1024

-- a term that is there, and small
abbrev pub is_small_made : Option Term → Bool
is_small_made None = false
is_small_made (Some t) = is_small t

-- a phylum's completing term and placeholder are there and small; one that is deeper than 1,024 is not small
unfoldable pub is_finished : Spec → ℕ → Bool
is_finished spec p = is_small_made (completing_within spec 1024 p) && is_small_made (placeholder_within spec 1023 p)

-- the first phylum of a table for which they are not
abbrev pub unfinished : Table → Option ℕ
unfinished t = find (λ p. not (is_finished (drafted t) p)) (below (length t.phyla))
