-- A term that is over a limit makes the whole too large.
use Rattle.std.specs.Prelude.{◌≡◌, refl, Bool, true, false, cond, nat_le, ◌&&◌, Some}
use Rattle.std.proofs.Common.{arith}
use Rattle.sg_kinds.specs.Places.{Place, put, sub}
use Rattle.sg_kinds.specs.SameValue.{both}
use Rattle.sg_kinds.specs.Sound.{IsSmall}
use Rattle.sg_kinds.specs.Terms.{Term, nodes_of, height_of}
use Rattle.sg_kinds.proofs.Elementary.{le_is}
use Rattle.sg_build.proofs.Counted.{height_put, nodes_put}
use Rattle.sg_build.proofs.Placed.{part_nodes}
use Rattle.sg_script.specs.declared.message.Message.TheVariants as message
use Rattle.sg_edits.specs.Choice.{Picked, Put, Refused, limited}

small_part : (t : Term) (u : Place) (x s : Term) → sub t u ≡ Some x → IsSmall (put t u s) → IsSmall s
small_part t u x s at small =
    let nodes = nodes_put t u x s at in
    let few = part_nodes t u x at in
    let height = height_put t u x s at in
    (omega (arith, nodes, few, small.0), omega (arith, height, small.1))

pub limited_large : (t : Term) (u : Place) (x s : Term) (select : Picked) → sub t u ≡ Some x → (IsSmall s → ⊥) → limited t (Put u s select) ≡ Refused message.Size
limited_large t u x s select at large = by (nat_le (nodes_of (put t u s)) 65536 && nat_le (height_of (put t u s)) 1024) refl
  where
    by : (b : Bool) → (nat_le (nodes_of (put t u s)) 65536 && nat_le (height_of (put t u s)) 1024) ≡ b → cond b (Put u s select) (Refused message.Size) ≡ Refused message.Size
    by true is =
        let small = both (nat_le (nodes_of (put t u s)) 65536) (nat_le (height_of (put t u s)) 1024) is in
        absurd (large (small_part t u x s at (le_is (nodes_of (put t u s)) 65536 small.0, le_is (height_of (put t u s)) 1024 small.1)))
    by false is = refl
