use Rattle.std.proofs.Common.{◌≡◌, ◌+◌, suc, [], ◌∷◌, ◌++◌, ap, ◌∙◌, sym, subst, arith}
use Rattle.sg_lalr.specs.Automaton.{row_at}
use Rattle.sg_lalr.specs.Items.{HasNext}
use Rattle.sg_lalr.specs.Tables.{Leads}
use Rattle.sg_input.specs.Driven.{Driven}
use Rattle.sg_input.specs.Ready.{next_of}
use Rattle.sg_input.proofs.Driving.{within-tables, start-next, driven-start}
use Rattle.sg_input.proofs.Steps.{is-some, if-some}
use Rattle.sg_input.proofs.stacks.Stacks.new.Goals as goal

pub overflow_add-reading : goal.overflow_add-reading
overflow_add-reading c =
    let r = c.args.reading.now in
    let l = within-tables r.evaluator.now c.requires.sound r.tables.now c.requires.grammar c.sound.ensures r.entry c.requires.entry in
    let f = c.sound.ensures.formed.few_entries in
    omega (arith, l, f)

pub after-requires-clause-state : goal.after-requires-clause-state
after-requires-clause-state c =
    let r = c.args.reading.now in
    (start-next r.evaluator.now c.requires.sound r.tables.now c.requires.grammar c.sound.ensures r.entry c.requires.entry).0

pub unwrap-first-requires : goal.unwrap-first-requires
unwrap-first-requires c =
    let r = c.args.reading.now in
    let n = (start-next r.evaluator.now c.requires.sound r.tables.now c.requires.grammar c.sound.ensures r.entry c.requires.entry).1 in
    let e : suc r.entry ≡ r.entry + 1 = omega arith in
    is-some c.after.result (HasNext r.tables.now.grammar (row_at r.tables.now.cores 0) (r.entry + 1)) c.after.ensures.none (subst (λ X. HasNext r.tables.now.grammar (row_at r.tables.now.cores 0) X) e n)

pub returns-clause-driven : goal.returns-clause-driven
returns-clause-driven c =
    let r = c.args.reading.now in
    let u = c.unwrap-first.result in
    let e : r.entry + 1 ≡ suc r.entry = omega arith in
    let some = if-some c.after.result u (λ w. HasNext r.tables.now.grammar (row_at r.tables.now.cores 0) (r.entry + 1) × Leads r.tables.now 0 (r.entry + 1) w) c.unwrap-first.ensures c.after.ensures.some in
    let D = driven-start r.evaluator.now c.requires.sound r.tables.now c.requires.grammar c.sound.ensures r.entry c.requires.entry c.decided.ensures (next_of r 0) u (subst (λ X. Leads r.tables.now 0 X u) e some.1) c.in_ok-pool.pool in
    let states : u ∷ [] ≡ c.push.new.self.items = sym (c.in_ok-push.ensures.items ∙ ap (λ z. z ++ u ∷ []) c.new-states.ensures.items) in
    let one = subst (λ z. Driven r.tables.now r.evaluator.now r.entry [] (next_of r 0) z [] c.in_ok-pool.pool) states D in
    subst (λ z. Driven r.tables.now r.evaluator.now r.entry [] (next_of r 0) c.push.new.self.items z c.in_ok-pool.pool) (sym c.new-3.ensures.items) one
