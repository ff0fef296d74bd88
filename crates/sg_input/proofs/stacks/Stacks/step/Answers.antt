use Rattle.std.proofs.Common.{◌-◌, length, get_or, take, refl, arith}
use Rattle.sg_input.specs.Ready.{next_of}
use Rattle.sg_input.specs.Results.{tokens_in}
use Rattle.sg_input.proofs.Driving.{driven-top}
use Rattle.sg_input.proofs.Steps.{shift-inside, accepted, stopped}
use Rattle.sg_input.proofs.stacks.Stacks.step.Goals as goal

pub shift-requires-clause-at : goal.shift-requires-clause-at
shift-requires-clause-at c =
    let r = c.args.reading.now in
    let s = c.args.self.now in
    let top = get_or s.states.items (length s.states.items - 1) 0 in
    let low = driven-top r.evaluator.now c.requires.ready.sound r.tables.now c.requires.ready.grammar c.sound.ensures r.entry c.requires.ready.entry (take c.args.at (tokens_in r.text.now r.tokens.now)) (next_of r c.args.at) s.states.items s.results.items s.pool c.requires.driven 0 in
    shift-inside r.evaluator.now c.requires.ready.sound r.tables.now c.requires.ready.grammar c.sound.ensures r.entry c.requires.ready.entry r.text.now r.tokens.now c.requires.ready.tokens c.args.at top c.in-Shift.next low c.in-Shift.ensures

pub returns-in_ok-shift-in-Shift-clause-next : goal.returns-in_ok-shift-in-Shift-clause-next
returns-in_ok-shift-in-Shift-clause-next c =
    let r = c.args.reading.now in
    let s = c.args.self.now in
    let top = get_or s.states.items (length s.states.items - 1) 0 in
    let low = driven-top r.evaluator.now c.requires.ready.sound r.tables.now c.requires.ready.grammar c.sound.ensures r.entry c.requires.ready.entry (take c.args.at (tokens_in r.text.now r.tokens.now)) (next_of r c.args.at) s.states.items s.results.items s.pool c.requires.driven 0 in
    let inside = shift-inside r.evaluator.now c.requires.ready.sound r.tables.now c.requires.ready.grammar c.sound.ensures r.entry c.requires.ready.entry r.text.now r.tokens.now c.requires.ready.tokens c.args.at top c.in-Shift.next low c.in-Shift.ensures in
    (omega (arith, inside), c.in_ok-shift-in-Shift.ensures.driven)

pub returns-in-Accept-clause-next : goal.returns-in-Accept-clause-next
returns-in-Accept-clause-next c =
    let r = c.args.reading.now in
    let s = c.args.self.now in
    let top = get_or s.states.items (length s.states.items - 1) 0 in
    let a = accepted r.evaluator.now c.requires.ready.sound r.tables.now c.requires.ready.grammar c.sound.ensures r.entry c.requires.ready.entry r.text.now r.tokens.now c.requires.ready.tokens c.args.at s.states.items s.results.items s.pool c.requires.driven top refl c.in-Accept.ensures in
    record { value = a.0; one = a.1; numbers = c.requires.driven.numbers_are; derived = a.2 }

pub returns-in-Stop-clause-next : goal.returns-in-Stop-clause-next
returns-in-Stop-clause-next c =
    let r = c.args.reading.now in
    let s = c.args.self.now in
    let top = get_or s.states.items (length s.states.items - 1) 0 in
    stopped r.evaluator.now c.requires.ready.sound r.tables.now c.requires.ready.grammar c.sound.ensures r.entry c.requires.ready.entry r.text.now r.tokens.now c.requires.ready.tokens c.args.at s.states.items s.results.items s.pool c.requires.driven c.requires.at top refl c.in-Stop.ensures
