use Rattle.std.specs.Prelude.{nat_eq}
use Rattle.std.proofs.Common.{ap}
use Rattle.sg_kinds.proofs.Elementary.{eq_is, eq_itself}
use Rattle.sg_propagate.specs.Worklist.{Worklist}
use Rattle.sg_propagate.proofs.Members.{put_in}
use Rattle.sg_propagate.proofs.work.Work.activate.Goals as goal

pub returns-clause-active : goal.returns-clause-active
returns-clause-active c = put_in nat_eq eq_itself eq_is _ _ _ (ap (λ (w : Worklist). w.active) c.self.view_is) _ c.in_ok-insert.ensures.updates.0
