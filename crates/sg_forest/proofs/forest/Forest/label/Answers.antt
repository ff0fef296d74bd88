use Rattle.std.proofs.Common.{◌∙◌}
use Rattle.sg_forest.specs.Trees.{node_in}
use Rattle.sg_forest.specs.Tree.{node, Stands}
use Rattle.sg_forest.proofs.Mapped.{given}
use Rattle.sg_forest.proofs.Standing.{Stands-label}
use Rattle.sg_forest.proofs.forest.Forest.label.Goals as goal

pub returns-clause-tree : goal.returns-clause-tree
returns-clause-tree g c = λ label part ts stands.
    let before = given (λ f. Stands f c.args.n (node label part ts)) c.self.inside.nodes c.args.self.now c.self.view_is stands in
    c.label.ensures ∙ Stands-label (node_in c.self.inside.nodes) c.args.n c.index.result.now label part ts c.index.ensures before
