use Rattle.std.proofs.Common.{◌≤◌, ◌+◌, ap, subst, arith}
use Rattle.std.specs.Prelude.{◌||◌}
use Rattle.sg_sets.proofs.PiecesLemmas.{MovedTo, moved_more}
use Rattle.sg_sets.proofs.bit_set.BitSet.union_part.Goals as goal
use Rattle.sg_sets.proofs.bit_set.BitSet.union_part.Goals.{then-union_piece, else-union_piece}

pub loop-n-preserved : goal.loop-n-preserved
loop-n-preserved c =
    let i = c.loop-n.invariant in
    let next = c.in-Some.ensures.least in
    let ends : c.in-Some.n + c.min-long.result ≤ c.args.from + c.args.count = omega (arith, c.min-long.ensures, c.min.ensures, c.if-n-end.true) in
    let more = moved_more c.args.other.now c.args.self.now c.loop-n.self c.union_piece.new.self c.args.from c.args.to c.loop-n.at (c.args.from + c.args.count)
    c.in-Some.n c.min-long.result c.loop-n.grown c.union_piece.result i next.behind ends (λ k high low h. let l = next.least k high h in omega (arith, low, l))
    c.union_piece.ensures.width c.union_piece.ensures.joins c.union_piece.ensures.grows c.union_piece.ensures.stays in
    let is = MovedTo c.args.other.now c.args.self.now c.union_piece.new.self c.args.from c.args.to (c.in-Some.n + c.min-long.result) (c.args.from + c.args.count) in
    elim c.if-union_piece.branch [
      | then-union_piece w ↦ rw w.grown-is (subst is (ap (λ r. r || c.loop-n.grown) w.if-union_piece.true) more)
      | else-union_piece w ↦ rw w.grown-is (subst is (ap (λ r. r || c.loop-n.grown) w.if-union_piece.false) more)
    ]
