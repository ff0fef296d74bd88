use Rattle.std.specs.Prelude.{[], nat_eq}
use Rattle.std.proofs.Common.{ap}
use Rattle.sg_kinds.proofs.Elementary.{eq_is, eq_itself}
use Rattle.sg_propagate.specs.Worklist.{Worklist}
use Rattle.sg_propagate.proofs.Members.{is_in}
use Rattle.sg_propagate.proofs.work.Work.is_active.Goals as goal

pub returns : goal.returns
returns c = is_in nat_eq eq_itself eq_is _ _ [] (ap (λ (w : Worklist). w.active) c.self.view_is) _ _ c.contains.ensures
