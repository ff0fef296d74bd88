use Rattle.std.proofs.Common.{◌<◌, ◌∙◌, ap, sym, length, arith, true}
use Rattle.std.proofs.lemmas.Bool.{false≢true}
use Rattle.std.proofs.lemmas.List.{length-set}
use Rattle.sg_sets.proofs.BeforeLemmas.{before-yes, before-no}
use Rattle.sg_sets.proofs.relation.Relation.before.Goals as goal
use Rattle.sg_sets.proofs.relation.Relation.before.Goals.{then-meets, else-meets}

pub loop-v-preserved : goal.loop-v-preserved
loop-v-preserved c =
    let rows = c.args.self.now in
    let meets = rw c.successors.ensures.row at c.meets.ensures in
    let width = c.loop-v.invariant.width in
    let low : c.loop-v.v < length c.loop-v.found = omega arith in
    elim c.if-meets.branch [
      | then-meets w ↦
          let is = w.found-is ∙ w.insert.ensures.gains in
          record {
            width = ap length is ∙ length-set c.loop-v.found c.loop-v.v true ∙ width;
            before = before-yes rows c.args.set.now c.loop-v.v c.loop-v.found c.if-meets.found low c.loop-v.invariant.before (meets.0 w.if-meets.true) is;
          }
      | else-meets w ↦ record {
        width = ap length w.found-is ∙ width;
        before = before-no rows c.args.set.now c.loop-v.v c.loop-v.found c.if-meets.found c.loop-v.invariant.before (λ m. false≢true (sym w.if-meets.false ∙ meets.1 m)) w.found-is;
      }
    ]
