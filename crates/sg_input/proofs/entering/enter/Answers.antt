use Rattle.sg_input.specs.Parsed.{entered_of}
use Rattle.sg_input.proofs.Answering.{only-entered, entered-fits}
use Rattle.sg_input.proofs.entering.enter.Goals as goal

pub returns-clause-only : goal.returns-clause-only
returns-clause-only c = λ a x.
    only-entered c.args.ev.now c.requires.sound c.args.entry c.requires.entry c.args.t.now c.requires.grammar c.sound.ensures c.decided.ensures
    c.args.text.now (entered_of c.entered.result) c.entered.ensures a x

pub returns-clause-fits : goal.returns-clause-fits
returns-clause-fits c = entered-fits c.args.ev.now c.requires.sound c.args.entry c.requires.entry c.args.text.now c.entered.result c.entered.ensures
