use Rattle.std.proofs.Common.{◌≡◌, ℕ, take}
use Rattle.sg_names.specs.Rows.{row_at}
use Rattle.sg_remote.specs.Lists.{lists_of}
use Rattle.sg_remote.specs.Longer.{more}
use Rattle.sg_remote.proofs.far_attrs.far_attrs.Given as goal

abbrev pub invariant-loop-place : goal.invariant-loop-place
invariant-loop-place l = (p : ℕ) → row_at l.rows p ≡ more l.names l.atoms (take l.place (lists_of l.atoms)) p
