use Rattle.std.proofs.Common.{◌≡◌, ◌<◌, ◌⊎◌, length, subst, arith}
use Rattle.sg_saved.specs.Read.{most_nodes, most_depth}
use Rattle.sg_saved.proofs.Outlined.{none-misfits, too-large}
use Rattle.sg_saved.proofs.reading.too_large.Goals as goal

pub returns : goal.returns
returns c =
    let fit = none-misfits c.args.spec.now c.args.bytes.now c.args.outline.now c.in_ok-place.field-0 c.in_default.is c.in_ok-place.ensures in
    let count : length c.args.outline.now.notes.items ≡ c.len-nodes.result = omega (arith, c.args.outline.now.notes.ok.0) in
    too-large c.args.spec.now c.args.bytes.now c.args.outline.now c.requires.file (fit c.requires.file) c.len-nodes.result count
    (subst (λ k. (most_nodes < k) ⊎ (most_depth < c.args.outline.now.depth)) count c.requires.over)
