use Rattle.std.proofs.Common.{◌≡◌, ◌≤◌, ◌+◌, ◌-◌, ◌^◌, min, max, drop}
use Rattle.sg_kinds.specs.Places.{with_child}
use Rattle.sg_kinds.specs.Terms.{Term, height_of, height_of_all, kids_of}
use Rattle.sg_build.proofs.Told.{kids_in, the_term}
use Rattle.sg_build.proofs.replaced.depth_beside.Given as goal

-- what is left decides
abbrev pub invariant-loop-j : goal.invariant-loop-j
invariant-loop-j l = record {
  capped : l.deepest ≤ 2 ^ 64 - 1;
  left : (s : Term) → l.below ≡ min (height_of s) (2 ^ 64 - 1) →
      min (1 + max l.deepest (height_of_all (kids_of (drop l.j (kids_in (with_child (the_term l.terms l.n) l.k s)))))) (2 ^ 64 - 1) ≡ min (height_of (with_child (the_term l.terms l.n) l.k s)) (2 ^ 64 - 1);
}
