use Rattle.std.proofs.Common.{◌≡◌, refl, sym, ◌∙◌}
use Rattle.sg_pool.proofs.Grown.{grown_itself}
use Rattle.sg_forest.proofs.Laws.{KeepsTrees-kids}
use Rattle.sg_terms.proofs.Made.{IsGrove-node, held_node, unknown_node}
use Rattle.sg_terms.proofs.Moved.{Holds-stays}
use Rattle.sg_terms.proofs.terms.Terms.node.Goals as goal

pub unknown-requires-clause-op : goal.unknown-requires-clause-op
unknown-requires-clause-op c = rw (← c.self.view_is) at c.requires.op

pub unknown-requires-clause-counted : goal.unknown-requires-clause-counted
unknown-requires-clause-counted c = c.self.invariant.0.sound.counted

pub unknown-requires-clause-phyla : goal.unknown-requires-clause-phyla
unknown-requires-clause-phyla c = c.self.invariant.0.sound.shapes.ops

pub kind_of-kind-requires-clause-op : goal.kind_of-kind-requires-clause-op
kind_of-kind-requires-clause-op c = rw (← c.self.view_is) at c.requires.op

pub kind_of-kind-requires-clause-counted : goal.kind_of-kind-requires-clause-counted
kind_of-kind-requires-clause-counted c = c.self.invariant.0.sound.counted

pub grow-requires-clause-count : goal.grow-requires-clause-count
grow-requires-clause-count c = let count = rw (← c.self.view_is) at c.requires.count in count ∙ sym c.kind_of-kind.ensures.arity

pub grow-requires-clause-roots : goal.grow-requires-clause-roots
grow-requires-clause-roots c = let roots = rw (← c.self.view_is) at c.requires.roots in λ k id lists. (roots k id lists).0

pub invariant_of-self : goal.invariant_of-self
invariant_of-self c =
    let roots = rw (← c.self.view_is) at c.requires.roots in (
      IsGrove-node c.self.inside.spec c.self.inside.view c.self.inside.trees c.grow.new.trees c.self.inside.pool c.self.inside.pool (grown_itself c.self.inside.pool) c.self.invariant.0 c.grow.ensures.kids c.grow.ensures.forest
          c.args.op c.kind_of-kind.result (record { scheme = c.args.scheme; elided = c.args.elided; values = c.in-Ok.values }) c.args.kids.items c.grow.result c.kind_of-kind.ensures.op c.kind_of-kind.ensures.phylum c.kind_of-kind.ensures.arity c.requires.scheme
          c.in-Ok.ensures.count c.in-Ok.ensures.zero roots c.grow.ensures.grown c.grow.ensures.err,
      c.self.invariant.1,
    )

pub returns-clause-held : goal.returns-clause-held
returns-clause-held c =
    rw (← c.self.view_is)
    (held_node c.self.inside.spec c.self.inside.view c.self.inside.trees c.grow.new.trees c.self.inside.pool c.self.inside.pool (grown_itself c.self.inside.pool) c.self.invariant.0 c.grow.ensures.kids c.grow.ensures.forest
    c.args.op c.kind_of-kind.result (record { scheme = c.args.scheme; elided = c.args.elided; values = c.in-Ok.values }) c.args.kids.items c.grow.result c.kind_of-kind.ensures.op refl c.grow.ensures.tree)

pub returns-clause-unknown : goal.returns-clause-unknown
returns-clause-unknown c =
    rw (← c.self.view_is)
    (unknown_node c.self.inside.spec c.self.inside.view c.self.inside.trees c.grow.new.trees c.self.inside.pool c.self.inside.pool (grown_itself c.self.inside.pool) c.self.invariant.0 c.grow.ensures.kids c.grow.ensures.forest
    c.args.op c.kind_of-kind.result (record { scheme = c.args.scheme; elided = c.args.elided; values = c.in-Ok.values }) c.args.kids.items c.grow.result c.in-Ok.ensures.count c.in-Ok.ensures.zero c.grow.ensures.grown)

pub returns-clause-kept : goal.returns-clause-kept
returns-clause-kept c = rw (← c.self.view_is) (record { spec = refl; view = refl; pool = grown_itself c.self.inside.pool; kids = c.grow.ensures.kids; ways = c.grow.ensures.ways })

pub returns-clause-terms : goal.returns-clause-terms
returns-clause-terms c =
    rw (← c.self.view_is)
    (λ m t h. Holds-stays c.self.inside.spec c.self.inside.view c.self.inside.trees c.grow.new.trees c.self.inside.pool c.self.inside.pool (grown_itself c.self.inside.pool) c.self.invariant.0 m t (KeepsTrees-kids _ _ c.grow.ensures.kids m) h)
