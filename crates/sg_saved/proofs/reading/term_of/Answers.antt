use Rattle.std.proofs.Common.{arith}
use Rattle.sg_saved.proofs.Outlined.{term-opened, term-plain}
use Rattle.sg_saved.proofs.reading.term_of.Goals as goal

pub returns-clause-right : goal.returns-clause-right
returns-clause-right c =
    term-opened c.args.spec.now c.args.bytes.now c.args.outline.now c.requires c.term_in.result (c.term_in.ensures c.requires)
    (omega (arith, c.args.outline.now.notes.ok.0)) (omega arith)

pub returns-clause-plain : goal.returns-clause-plain
returns-clause-plain c = term-plain c.args.spec.now c.args.bytes.now c.args.outline.now c.requires c.term_in.result (c.term_in.ensures c.requires)
