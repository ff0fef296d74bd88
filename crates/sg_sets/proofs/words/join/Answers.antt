use Rattle.std.proofs.Common.{◌≡◌, ◌<◌, ◌^◌, refl, length, get_or, arith}
use Rattle.sg_sets.proofs.JoinedLemmas.{bit-joined, joined-kept, joined-set, gained-new}
use Rattle.sg_sets.proofs.words.join.Goals as goal
use Rattle.sg_sets.proofs.words.join.Goals.{then-joined-words, else-joined-words}

pub loop-k-preserved : goal.loop-k-preserved
loop-k-preserved c =
    let all = c.loop-k.invariant in
    let here : get_or c.loop-k.words c.loop-k.k 0 ≡ get_or c.args.words.now c.loop-k.k 0 = all.joined.rest c.loop-k.k (omega arith) in
    let fits : get_or c.args.other.now c.loop-k.k 0 < 2 ^ 64 = (let f = c.type_inv.other c.loop-k.k in omega (arith, f)) in
    let low : c.loop-k.k < length c.loop-k.words = omega arith in
    elim c.if-joined-words.branch [
      | then-joined-words w ↦
          rw (w.words-is, w.grown-is) record {
            joined = joined-set c.loop-k.k _ c.args.words.now c.args.other.now c.loop-k.words low all.joined refl;
            gained = gained-new c.args.words.now c.args.other.now c.loop-k.k (get_or c.loop-k.words c.loop-k.k 0) (get_or c.args.other.now c.loop-k.k 0) here refl fits w.if-joined-words.true;
            stays = tt;
          }
      | else-joined-words w ↦
          rw (w.words-is, w.grown-is) record {
            joined = joined-kept c.loop-k.k c.args.words.now c.args.other.now c.loop-k.words all.joined w.if-joined-words.false;
            gained = all.gained;
            stays = all.stays;
          }
    ]

pub returns-clause-joins : goal.returns-clause-joins
returns-clause-joins c = bit-joined c.args.words.now c.args.other.now c.loop-k.words c.loop-k.k c.loop-k.invariant.joined (omega arith) (omega arith)
