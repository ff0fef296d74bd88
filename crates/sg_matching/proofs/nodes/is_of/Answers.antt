use Rattle.std.proofs.Common.{rules}
use Rattle.std.specs.Prelude.{◌≡◌, ◌↔◌, IsTrue, Some}
use Rattle.sg_terms.specs.Found.{op_at}
use Rattle.sg_matching.proofs.NodeValues.{of_told}
use Rattle.sg_matching.proofs.nodes.is_of.Goals as goal

pub returns-clause-value : goal.returns-clause-value
returns-clause-value c =
    let of : IsTrue c.eq.result ↔ (op_at c.args.terms.now c.args.n ≡ Some c.args.op) = search rules in
    of_told c.args.terms.now c.facts.ensures c.args.n c.args.op c.requires c.eq.result of
