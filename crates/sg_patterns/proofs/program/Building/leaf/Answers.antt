use Rattle.std.proofs.Common.{refl, ◌∷◌}
use Rattle.sg_patterns.specs.Leaves.{leaf_pattern}
use Rattle.sg_patterns.specs.Programs.{Holds}
use Rattle.sg_patterns.proofs.Holding.{leaf-pushed, holds-pushed, on-ok}
use Rattle.sg_patterns.proofs.program.Building.leaf.Goals as goal

pub returns : goal.returns
returns c ps h =
    let self = c.args.self.now in
    on-ok c.push.result _ (Holds c.push.new.self (leaf_pattern c.args.leaf ∷ ps)) (λ push. holds-pushed self c.push.new.self _ _ _ _ _ _ _ refl refl refl refl push (leaf-pushed self.nodes.items self.above.items self.empties.items self.roots.items ps h c.args.leaf)) c.push.ensures
