use Rattle.std.proofs.Common.{ap}
use Rattle.sg_propagate.specs.Worklist.{Worklist}
use Rattle.sg_propagate.proofs.Members.{same_pair, pair_itself, pair_is, put_in}
use Rattle.sg_propagate.proofs.work.Work.note.Goals as goal

pub returns-clause-changed : goal.returns-clause-changed
returns-clause-changed c = put_in same_pair pair_itself pair_is _ _ _ (ap (λ (w : Worklist). w.changed) c.self.view_is) _ c.in_ok-insert.ensures.updates.0
