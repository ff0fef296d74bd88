use Rattle.sg_forest.proofs.Mapped.{node_at-slab}
use Rattle.sg_forest.proofs.forest.Forest.is_inside.Goals as goal

pub is_inside-requires-clause-live : goal.is_inside-requires-clause-live
is_inside-requires-clause-live g c = rw (← c.self.view_is, node_at-slab) at c.requires.live

pub returns : goal.returns
returns g c = record { inside = rw (← c.self.view_is, node_at-slab c.self.inside.nodes) c.is_inside.ensures.inside }
