use Rattle.sg_saved.proofs.Outlined.{only-opened, term-fits, term-small}
use Rattle.sg_saved.proofs.reading.read_term.Goals as goal

pub returns-clause-only : goal.returns-clause-only
returns-clause-only c = only-opened c.args.spec.now c.args.bytes.now c.requires.names _ c.term_opened.ensures.right

pub returns-clause-fits : goal.returns-clause-fits
returns-clause-fits c = term-fits c.args.spec.now c.args.bytes.now c.term_opened.result c.term_opened.ensures.right c.term_opened.ensures.plain

pub returns-clause-small : goal.returns-clause-small
returns-clause-small c = term-small c.args.spec.now c.args.bytes.now c.term_opened.result c.term_opened.ensures.right c.term_opened.ensures.plain
