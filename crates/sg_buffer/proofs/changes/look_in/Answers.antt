use Rattle.std.proofs.Common.{sym, ◌∙◌, subst}
use Rattle.sg_forest.specs.Trees.{IsRoot}
use Rattle.sg_groves.specs.Grove.{Grove, nodes}
use Rattle.sg_buffer.proofs.Viewing.{grove_in}
use Rattle.sg_buffer.proofs.changes.look_in.Goals as goal

pub look_at-requires-clause-root : goal.look_at-requires-clause-root
look_at-requires-clause-root c = subst (λ (g : Grove). IsRoot (nodes g) c.args.root) (sym c.set_view.ensures) c.requires.root

pub returns-in-Err-clause-err : goal.returns-in-Err-clause-err
returns-in-Err-clause-err c = c.set_view-in-Err.ensures ∙ (λ i. grove_in (c.set_view.ensures i) (c.view-was.ensures i))
