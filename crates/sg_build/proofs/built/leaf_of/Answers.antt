use Rattle.sg_build.proofs.Steps.{grew_leaf}
use Rattle.sg_build.proofs.built.leaf_of.Goals as goal

pub returns-clause-grew : goal.returns-clause-grew
returns-clause-grew c =
    let e = c.in_ok-n.ensures in
    grew_leaf c.args.terms.now c.leaf.new.self c.in_ok-n.n c.args.p c.args.v.now c.facts.ensures c.facts-2.ensures e.kept e.held e.fresh e.root e.roots
