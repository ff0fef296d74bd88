use Rattle.std.proofs.Common.{inl, inr, subst, arith}
use Rattle.sg_saved.specs.Heads.{AreNames}
use Rattle.sg_saved.proofs.Outlined.{none-misfits, too-large, holds}
use Rattle.sg_saved.proofs.reading.value_of.Goals as goal
use Rattle.sg_saved.proofs.reading.value_of.Goals.{then-nodes-gt-NODES-via-then-nodes-gt-NODES, then-nodes-gt-NODES-via-else-nodes-gt-NODES+then-outline-gt-DEPTH}

pub returns-then-nodes-gt-NODES : goal.returns-then-nodes-gt-NODES
returns-then-nodes-gt-NODES c =
    let fit = none-misfits c.args.spec.now c.args.bytes.now c.args.outline.now c.in_ok-place.field-0 c.in_default.is c.in_ok-place.ensures in
    too-large c.args.spec.now c.args.bytes.now c.args.outline.now c.requires (fit c.requires) c.len-nodes.result (omega (arith, c.args.outline.now.notes.ok.0))
    (elim c.then-nodes-gt-NODES.branch [
      | then-nodes-gt-NODES-via-then-nodes-gt-NODES w ↦ inl (omega (arith, w.if-nodes-gt-NODES.true))
      | then-nodes-gt-NODES-via-else-nodes-gt-NODES+then-outline-gt-DEPTH w ↦ inr (omega (arith, w.if-outline-gt-DEPTH.true))
    ])

pub returns : goal.returns
returns c =
    let fit = none-misfits c.args.spec.now c.args.bytes.now c.args.outline.now c.in_ok-place.field-0 c.in_default.is c.in_ok-place.ensures in
    let named : AreNames c.args.spec.now.ops c.in_ok-names.names = subst (λ ops. AreNames ops c.in_ok-names.names) c.as_slice.ensures c.in_ok-names.ensures in
    holds c.args.spec.now c.args.bytes.now c.args.outline.now c.requires (fit c.requires) c.in_ok-value_in.field-0 (c.in_ok-value_in.ensures c.args.spec.now c.requires named)
    (omega (arith, c.args.outline.now.notes.ok.0)) (omega arith)
