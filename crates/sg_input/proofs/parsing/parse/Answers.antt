use Rattle.sg_input.specs.Pieces.{pieces_of}
use Rattle.sg_input.proofs.Answering.{only-value}
use Rattle.sg_input.proofs.parsing.parse.Goals as goal

pub returns-clause-only : goal.returns-clause-only
returns-clause-only c = λ w d.
    only-value c.args.ev.now c.requires.sound c.args.entry c.requires.entry c.args.t.now c.requires.grammar c.sound.ensures c.decided.ensures
    (pieces_of c.args.ev.now c.args.text.now c.args.tokens.now) c.parsed.result c.parsed.ensures.ok c.parsed.ensures.err w d
