use Rattle.std.proofs.Common.{subst}
use Rattle.std.specs.Prelude.{IfOk}
use Rattle.sg_ast.specs.View.{trees_of}
use Rattle.sg_witnesses.specs.Cycles.{TellsCycleOf}
use Rattle.sg_witnesses.proofs.cycles.told.Goals as goal

pub returns : goal.returns
returns c = subst (λ s. IfOk c.cyclic_lines.result (λ v. TellsCycleOf (trees_of c.args.decls.now) s c.args.fault.now v.items)) c.in_ok-found.ensures.same c.cyclic_lines.ensures
