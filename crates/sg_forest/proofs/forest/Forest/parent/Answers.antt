use Rattle.std.specs.Prelude.{◌≡◌, ◌<◌, Option, Some, None, IfSome}
use Rattle.std.proofs.Common.{refl, sym, ◌∙◌}
use Rattle.sg_forest.specs.Trees.{room_below}
use Rattle.sg_forest.proofs.Mapped.{node_at-slab}
use Rattle.sg_forest.proofs.Depth.{room_below-slab_child}
use Rattle.sg_forest.proofs.forest.Forest.parent.Goals as goal

pub returns-clause-forest : goal.returns-clause-forest
returns-clause-forest g c = rw (← c.self.view_is, node_at-slab c.self.inside.nodes) c.self.invariant

pub returns-clause-rises : goal.returns-clause-rises
returns-clause-rises g c = by c.up.result refl
  where
    by : (o : Option _) → c.up.result ≡ o → IfSome o (λ up. room_below c.args.self.now c.args.n < room_below c.args.self.now up.0)
    by None e = tt
    by (Some up) e =
        let is = c.up.ensures.up in
        rw (← c.self.view_is) (room_below-slab_child c.self.inside.nodes c.self.invariant.linked c.args.n up.0 up.1 (record { node = c.index.result.now; found = c.index.ensures; hangs = sym is ∙ e }))
