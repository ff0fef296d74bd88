use Rattle.std.proofs.Common.{◌≡◌, ◌++◌, ℕ, List, Some, slice_get, drop}
use Rattle.sg_kinds.specs.declared.spec.Far.{Far}
use Rattle.sg_names.specs.Rows.{row_at}
use Rattle.sg_remote.specs.Bearing.{users}
use Rattle.sg_remote.specs.Lists.{lists_of}
use Rattle.sg_remote.proofs.edges.users.Given as goal

abbrev pub invariant-loop-atom : goal.invariant-loop-atom
invariant-loop-atom l = (k : ℕ) (fs : List Far) → slice_get (lists_of l.atoms) k ≡ Some fs
    → row_at l.users k ++ users l.names fs (drop l.atom-index l.atoms) ≡ users l.names fs l.atoms
