use Rattle.std.proofs.Common.{◌≡◌, ◌*◌, ◌+◌, take}
use Rattle.sg_kinds.specs.Terms.{height_of, height_of_all, kids_of}
use Rattle.sg_edits.proofs.pasting.+copy.Given as goal

abbrev pub decreases-copy_of : goal.decreases-copy_of
decreases-copy_of l = 2 * height_of l.t.now

abbrev pub decreases-copies_of : goal.decreases-copies_of
decreases-copies_of l = 2 * height_of_all (kids_of l.kids.now) + 1

abbrev pub invariant-copies_of-loop-kid : goal.invariant-copies_of-loop-kid
invariant-copies_of-loop-kid l = l.copies.items ≡ take l.kid-index l.kids
