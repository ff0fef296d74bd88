use Rattle.sg_saved.proofs.Outlined.{only-opened, value-fits, value-small}
use Rattle.sg_saved.proofs.reading.read.Goals as goal

pub returns-clause-only : goal.returns-clause-only
returns-clause-only c = only-opened c.args.spec.now c.args.bytes.now c.requires.names _ c.opened.ensures

pub returns-clause-fits : goal.returns-clause-fits
returns-clause-fits c = value-fits c.args.spec.now c.args.bytes.now c.opened.result c.opened.ensures

pub returns-clause-small : goal.returns-clause-small
returns-clause-small c = value-small c.args.spec.now c.args.bytes.now c.opened.result c.opened.ensures
