use Rattle.std.proofs.Common.{arith, sym, inl, inr}
use Rattle.sg_forest.specs.Trees.{node_in, IsChild, IsRoot}
use Rattle.sg_forest.proofs.Paths.{differs_by_test, inside_append, inside_by_parent, inside_itself, inside_cases, root_inside, parent_is_live}
use Rattle.sg_forest.proofs.Depth.{depth_in-child}
use Rattle.sg_forest.proofs.nodes.is_inside.Goals as goal

pub climb-preserved : goal.climb-preserved
climb-preserved g c =
    let child : IsChild (node_in c.args.nodes.now) c.climb.at c.in-Some.parent c.in-Some.field-0-1 = record { node = c.index.result.now; found = c.index.ensures; hangs = sym c.in-Some.ensures.up } in
    record {
      live = parent_is_live _ c.requires.linked c.climb.at c.in-Some.parent c.in-Some.field-0-1 child;
      up = inside_append _ c.args.n c.climb.at c.in-Some.parent c.climb.invariant.up (inside_by_parent _ c.climb.at c.in-Some.parent c.in-Some.parent c.in-Some.field-0-1 child (inside_itself _ c.in-Some.parent));
      on = λ inside.
          elim (inside_cases _ c.climb.at c.in-Some.parent c.args.top c.in-Some.field-0-1 child (c.climb.invariant.on inside)) [
            | inl same ↦ absurd (differs_by_test c.climb.at c.args.top c.eq.result c.eq.ensures c.if-eq.false same)
            | inr above ↦ above
          ];
    }

pub climb-smaller : goal.climb-smaller
climb-smaller g c =
    let child : IsChild (node_in c.args.nodes.now) c.climb.at c.in-Some.parent c.in-Some.field-0-1 = record { node = c.index.result.now; found = c.index.ensures; hangs = sym c.in-Some.ensures.up } in
    let deeper = depth_in-child c.args.nodes.now c.requires.linked c.climb.at c.in-Some.parent c.in-Some.field-0-1 child in
    omega (arith, deeper.0)

pub returns-in-None : goal.returns-in-None
returns-in-None g c =
    let root : IsRoot (node_in c.args.nodes.now) c.climb.at = record { node = c.index.result.now; found = c.index.ensures; top = sym c.in-None.ensures.up } in
    record {
      inside = (
        λ is. absurd (cc is),
        λ inside. absurd (differs_by_test c.climb.at c.args.top c.eq.result c.eq.ensures c.if-eq.false (root_inside _ c.climb.at c.args.top root (c.climb.invariant.on inside))),
      );
    }
