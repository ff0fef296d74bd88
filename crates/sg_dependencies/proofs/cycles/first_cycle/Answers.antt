use Rattle.std.specs.Prelude.{◌≡◌, ◌<◌, length, []}
use Rattle.std.proofs.Common.{subst, sym, ◌∙◌, arith}
use Rattle.std.proofs.lemmas.List.{get_or_default}
use Rattle.sg_sets.specs.Rows.{Holds}
use Rattle.sg_dependencies.specs.Induced.{relation_at}
use Rattle.sg_dependencies.specs.Reported.{IsReported}
use Rattle.sg_dependencies.proofs.cycles.first_cycle.Goals as goal

pub returns-in-Some-clause-some : goal.returns-in-Some-clause-some
returns-in-Some-clause-some c =
    let rows = c.index-relations-place.result in
    let low : c.loop-place.place < length c.args.relations.now = omega arith in
    let at : rows ≡ relation_at c.args.relations.now c.loop-place.place = c.index-relations-place.is ∙ get_or_default c.args.relations.now c.loop-place.place rows [] low in
    let found : IsReported (Holds rows) c.in-Some.cycle.items = record {
      cycle = rw c.in-Some.is at c.in_ok-cycle.ensures.cycle;
      start = rw c.in-Some.is at c.in_ok-cycle.ensures.start;
      shortest = rw c.in-Some.is at c.in_ok-cycle.ensures.shortest;
      least = rw c.in-Some.is at c.in_ok-cycle.ensures.least;
    } in
    record {
      there = low;
      before = c.loop-place.invariant;
      cycle = subst (IsReported (Holds (relation_at c.args.relations.now c.loop-place.place))) (sym c.new-cycle.ensures) (subst (λ r. IsReported (Holds r) c.in-Some.cycle.items) at found);
    }
