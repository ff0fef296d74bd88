use Rattle.std.proofs.Common.{◌+◌, Bool, ap, subst}
use Rattle.std.specs.Prelude.{◌||◌}
use Rattle.sg_dependencies.proofs.Gathers.{MetTo, met_row}
use Rattle.sg_dependencies.proofs.rounds.gather.Goals.{then-add_part, else-add_part}
use Rattle.sg_dependencies.proofs.rounds.gather.Goals as goal

pub loop-a-preserved : goal.loop-a-preserved
loop-a-preserved c =
    let more = met_row c.args.spot c.args.closed.now c.args.phylum.now c.loop-a.phylum c.add_part.new.self c.successors-row.result.now c.loop-a.gained c.add_part.result c.loop-a.a c.loop-a.invariant
    c.loop-a-test.true c.successors-row.ensures.row c.add_part.ensures.size c.add_part.ensures.gains c.add_part.ensures.grows c.add_part.ensures.stays in
    let is : Bool → Type 0 = λ gained. MetTo c.args.spot c.args.closed.now c.args.phylum.now c.add_part.new.self gained (c.loop-a.a + 1) in
    elim c.if-add_part.branch [
      | then-add_part w ↦ rw w.gained-is (subst is (ap (λ r. r || c.loop-a.gained) w.if-add_part.true) more)
      | else-add_part w ↦ rw w.gained-is (subst is (ap (λ r. r || c.loop-a.gained) w.if-add_part.false) more)
    ]
