use Rattle.std.proofs.Common.{◌≡◌, ◌≤◌, ◌+◌, ◌-◌, ◌^◌, ◌++◌, min, length}
use Rattle.sg_kinds.specs.Terms.{Term}
use Rattle.sg_kinds.specs.Places.{place_of, places_from}
use Rattle.sg_forest.specs.declared.node_id.NodeId.{NodeId}
use Rattle.sg_forest.specs.Trees.{room_below}
use Rattle.sg_build.proofs.Told.{kids_in, the_term}
use Rattle.sg_printing.specs.At.{IsAt}
use Rattle.sg_report.specs.Lines.{of_these, lines_at}
use Rattle.sg_report.proofs.Walking.{rest_of}
use Rattle.sg_report.proofs.lines.+write_below.Given as goal

abbrev pub decreases-write_below : goal.decreases-write_below
decreases-write_below l = room_below l.terms.now.trees l.n

-- what is left decides
abbrev pub invariant-loop-k : goal.invariant-loop-k
invariant-loop-k l =
    let u = place_of l.fn.path.items in
    let x = the_term l.terms l.n in
    let rest = rest_of u l.k (kids_in x) in
    record {
      capped : l.count ≤ 2 ^ 64 - 1;
      path : l.path.items ≡ l.fn.path.items;
      text : (root : NodeId) (t : Term) → IsAt l.terms root l.n t u x
          → l.out.items ++ lines_at l.terms.spec t l.a rest ≡ l.fn.out.items ++ lines_at l.terms.spec t l.a (places_from u x);
      count : (root : NodeId) (t : Term) → IsAt l.terms root l.n t u x
          → min (l.count + length (of_these l.terms.spec t l.a rest)) (2 ^ 64 - 1) ≡ min (length (of_these l.terms.spec t l.a (places_from u x))) (2 ^ 64 - 1);
    }
