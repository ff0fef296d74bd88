use Rattle.std.proofs.Common.{sym, ◌∙◌}
use Rattle.sg_pool.specs.Pools.{value_at}
use Rattle.sg_input.specs.Entered.{nonterminal_of}
use Rattle.sg_input.specs.Pieces.{pieces_of}
use Rattle.sg_input.proofs.Answering.{one-number, settled-ok, settled-err}
use Rattle.sg_input.proofs.parsing.answer.Goals as goal

pub value-requires-clause-one : goal.value-requires-clause-one
value-requires-clause-one c = one-number (value_at c.args.stacks.now.pool) c.args.stacks.now.results.items c.requires.value c.requires.one

pub value-requires-clause-numbers : goal.value-requires-clause-numbers
value-requires-clause-numbers c = c.requires.numbers

pub returns-clause-ok : goal.returns-clause-ok
returns-clause-ok c =
    let r = c.args.reading.now in
    settled-ok r.evaluator.now (nonterminal_of r.evaluator.now r.entry) (pieces_of r.evaluator.now r.text.now r.tokens.now) c.settled.result c.in_ok-value.field-0 c.requires.value
    (sym c.in_ok-value.ensures ∙ c.requires.one) c.requires.derived c.settled.ensures.ok

pub returns-clause-err : goal.returns-clause-err
returns-clause-err c =
    let r = c.args.reading.now in
    settled-err r.evaluator.now (nonterminal_of r.evaluator.now r.entry) (pieces_of r.evaluator.now r.text.now r.tokens.now) c.settled.result c.in_ok-value.field-0 c.requires.value
    (sym c.in_ok-value.ensures ∙ c.requires.one) c.requires.derived c.settled.ensures.err
