use Rattle.sg_forest.proofs.Mapped.{node_at-slab}
use Rattle.sg_forest.proofs.Slots.{live_by_key, contains_key}
use Rattle.sg_forest.proofs.forest.Forest.contains.Goals as goal

pub returns : goal.returns
returns g c = record {
  live = (
    λ is. rw (← c.self.view_is, node_at-slab c.self.inside.nodes) (live_by_key c.self.inside.nodes c.args.n (c.contains.ensures.0 is)),
    λ live. c.contains.ensures.1 (contains_key c.self.inside.nodes c.args.n (rw (← c.self.view_is, node_at-slab c.self.inside.nodes) at live)),
  );
}
