use Rattle.std.proofs.Common.{refl, ◌∷◌}
use Rattle.sg_kinds.specs.Lexemes as plain
use Rattle.sg_patterns.specs.Programs.{Holds}
use Rattle.sg_patterns.proofs.Holding.{nothing-pushed, holds-pushed, on-ok}
use Rattle.sg_patterns.proofs.program.Building.nothing.Goals as goal

pub returns-clause-holds : goal.returns-clause-holds
returns-clause-holds c ps h =
    let self = c.args.self.now in
    on-ok c.push.result _ (Holds c.push.new.self (plain.Nothing ∷ ps)) (λ push. holds-pushed self c.push.new.self _ _ _ _ _ _ _ refl refl refl refl push (nothing-pushed self.nodes.items self.above.items self.empties.items self.roots.items ps h)) c.push.ensures
