use Rattle.std.proofs.Common.{◌-◌, ◌<◌, length, get_or, take, sym, subst}
use Rattle.sg_lalr.specs.Tables.{IsAction}
use Rattle.sg_input.specs.Ready.{next_of}
use Rattle.sg_input.specs.Results.{tokens_in}
use Rattle.sg_input.proofs.Driving.{driven-top}
use Rattle.sg_input.proofs.Steps.{low-terminal}
use Rattle.sg_input.proofs.stacks.Reading.action.Goals as goal

pub action-requires-clause-state : goal.action-requires-clause-state
action-requires-clause-state c =
    let r = c.args.self.now in
    let s = c.args.stacks.now in
    subst (λ z. z < length r.tables.now.cores) (sym c.top.ensures)
    (driven-top r.evaluator.now c.requires.ready.sound r.tables.now c.requires.ready.grammar c.sound.ensures r.entry c.requires.ready.entry (take c.args.at (tokens_in r.text.now r.tokens.now)) (next_of r c.args.at) s.states.items s.results.items s.pool c.requires.driven 0)

pub action-requires-clause-terminal : goal.action-requires-clause-terminal
action-requires-clause-terminal c =
    let r = c.args.self.now in
    subst (λ z. z < r.tables.now.grammar.terminals) (sym c.terminal.ensures)
    (low-terminal r.evaluator.now c.requires.ready.sound r.tables.now c.requires.ready.grammar c.sound.ensures r.entry c.requires.ready.entry r.text.now r.tokens.now c.requires.ready.tokens c.args.at)

pub returns : goal.returns
returns c =
    let r = c.args.self.now in
    let a = subst (λ z. IsAction r.tables.now z c.terminal.result c.action.result) c.top.ensures c.action.ensures in
    subst (λ t. IsAction r.tables.now (get_or c.args.stacks.now.states.items (length c.args.stacks.now.states.items - 1) 0) t c.action.result) c.terminal.ensures a
