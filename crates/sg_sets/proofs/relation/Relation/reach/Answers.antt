use Rattle.sg_sets.proofs.ClosingLemmas.{closed-more, closed-stays}
use Rattle.sg_sets.proofs.relation.Relation.reach.Goals as goal

pub returns-clause-closed : goal.returns-clause-closed
returns-clause-closed c =
    let e = c.take_over_all.ensures in
    let closed = closed-stays c.args.done.now c.args.self.now c.take_over_all.new.self (record { size = e.size; contains = e.contains; least = e.least }) c.requires.closed in
    closed-more c.args.done.now c.insert.new.self c.take_over_all.new.self c.args.a closed e.passed c.insert.ensures.gains
