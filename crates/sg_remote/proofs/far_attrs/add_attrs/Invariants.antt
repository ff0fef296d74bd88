use Rattle.std.proofs.Common.{◌≡◌, ◌++◌, ℕ, [], ◌∷◌, ◌&&◌, nat_lt, if◌then◌else◌}
use Rattle.sg_names.specs.Rows.{row_at}
use Rattle.sg_remote.specs.Longer.{far_attr}
use Rattle.sg_remote.specs.Reach.{flag}
use Rattle.sg_remote.proofs.far_attrs.add_attrs.Given as goal

abbrev pub invariant-loop-p : goal.invariant-loop-p
invariant-loop-p l = (q : ℕ) → row_at l.rows q ≡ row_at l.initial.rows q ++ (if nat_lt q l.p && flag l.flags q then far_attr l.names l.list ∷ [] else [])
