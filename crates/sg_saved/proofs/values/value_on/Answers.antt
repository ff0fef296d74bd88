use Rattle.std.proofs.Common.{sym, ◌∙◌}
use Rattle.sg_saved.specs.Heads.{kid_values}
use Rattle.sg_saved.proofs.Building.{node-count, node-made}
use Rattle.sg_saved.proofs.values.value_on.Goals as goal

pub returns-in_ok-kids-in-Node : goal.returns-in_ok-kids-in-Node
returns-in_ok-kids-in-Node c spec r rest head stack =
    let is = sym c.in-Node.is ∙ head in
    let top = c.in_ok-kids-in-Node.ensures (kid_values spec r) rest stack (node-count spec r c.in-Node.op c.in-Node.kids is) in
    let made = node-made spec r c.in-Node.op c.in-Node.kids c.in_ok-kids-in-Node.kids.items is top.0 in
    (cc, top.1)
