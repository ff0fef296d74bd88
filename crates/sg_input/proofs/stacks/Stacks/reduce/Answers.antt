use Rattle.std.proofs.Common.{◌≡◌, ◌-◌, ◌<◌, ℕ, [], ◌∷◌, ◌++◌, length, get_or, map, take, drop, refl, sym, ap, ◌∙◌, subst, arith}
use Rattle.std.specs.Prelude.{All}
use Rattle.sg_lalr.specs.Automaton.{row_at}
use Rattle.sg_lalr.specs.Items.{HasNext}
use Rattle.sg_lalr.specs.Tables.{Leads}
use Rattle.sg_pool.specs.Pools.{value_at}
use Rattle.sg_input.specs.Driven.{Driven, DrivenTo, bound_in}
use Rattle.sg_input.specs.Ready.{next_of}
use Rattle.sg_input.specs.Results.{tokens_in, made_of}
use Rattle.sg_input.proofs.Driving.{driven-reduce}
use Rattle.sg_input.proofs.Steps.{low-terminal, rule-left, rule-applied, is-some, if-some, on-both}
use Rattle.sg_input.proofs.stacks.Stacks.reduce.Goals as goal

pub overflow_sub-from : goal.overflow_sub-from
overflow_sub-from c =
    let r = c.args.reading.now in
    let s = c.args.self.now in
    let spec = r.evaluator.now in
    let q = c.production-production.result.now in
    let low = low-terminal spec c.requires.ready.sound r.tables.now c.requires.ready.grammar c.sound.ensures r.entry c.requires.ready.entry r.text.now r.tokens.now c.requires.ready.tokens c.args.at in
    let R = driven-reduce spec c.requires.ready.sound r.tables.now c.requires.ready.grammar c.sound.ensures r.entry c.requires.ready.entry (take c.args.at (tokens_in r.text.now r.tokens.now)) (next_of r c.args.at) s.states.items s.results.items s.pool c.requires.driven low (get_or s.states.items (length s.states.items - 1) 0) refl c.args.p c.requires.acts q c.production-production.ensures in
    let b : c.bound.result ≡ bound_in spec q.right = c.bound.ensures ∙ ap (bound_in spec) c.as_slice-right.ensures in
    let l : c.len.result ≡ length s.results.items = c.len.ensures ∙ s.results.ok.0 in
    let k = R.bound in
    omega (arith, b, l, k)

pub overflow_sub-len : goal.overflow_sub-len
overflow_sub-len c =
    let r = c.args.reading.now in
    let s = c.args.self.now in
    let spec = r.evaluator.now in
    let q = c.production-production.result.now in
    let low = low-terminal spec c.requires.ready.sound r.tables.now c.requires.ready.grammar c.sound.ensures r.entry c.requires.ready.entry r.text.now r.tokens.now c.requires.ready.tokens c.args.at in
    let R = driven-reduce spec c.requires.ready.sound r.tables.now c.requires.ready.grammar c.sound.ensures r.entry c.requires.ready.entry (take c.args.at (tokens_in r.text.now r.tokens.now)) (next_of r c.args.at) s.states.items s.results.items s.pool c.requires.driven low (get_or s.states.items (length s.states.items - 1) 0) refl c.args.p c.requires.acts q c.production-production.ensures in
    let right : length c.as_slice-right.result.now ≡ length q.right = ap length c.as_slice-right.ensures in
    let l : c.len-2.result ≡ length s.states.items = c.len-2.ensures ∙ s.states.ok.0 in
    let k = R.room in
    omega (arith, right, l, k)

pub top-requires : goal.top-requires
top-requires c =
    let r = c.args.reading.now in
    let s = c.args.self.now in
    let spec = r.evaluator.now in
    let q = c.production-production.result.now in
    let low = low-terminal spec c.requires.ready.sound r.tables.now c.requires.ready.grammar c.sound.ensures r.entry c.requires.ready.entry r.text.now r.tokens.now c.requires.ready.tokens c.args.at in
    let R = driven-reduce spec c.requires.ready.sound r.tables.now c.requires.ready.grammar c.sound.ensures r.entry c.requires.ready.entry (take c.args.at (tokens_in r.text.now r.tokens.now)) (next_of r c.args.at) s.states.items s.results.items s.pool c.requires.driven low (get_or s.states.items (length s.states.items - 1) 0) refl c.args.p c.requires.acts q c.production-production.ensures in
    let right : length c.as_slice-right.result.now ≡ length q.right = ap length c.as_slice-right.ensures in
    let long : c.len-2.result ≡ length s.states.items = c.len-2.ensures ∙ s.states.ok.0 in
    let kept : c.truncate.new.self.items ≡ take (length s.states.items - length q.right) s.states.items = c.truncate.ensures.items ∙ ap (λ n. take n s.states.items) (omega (arith, right, long)) in
    subst (λ z. 0 < length z) (sym kept) R.some

pub after-requires-clause-state : goal.after-requires-clause-state
after-requires-clause-state c =
    let r = c.args.reading.now in
    let s = c.args.self.now in
    let spec = r.evaluator.now in
    let q = c.production-production.result.now in
    let low = low-terminal spec c.requires.ready.sound r.tables.now c.requires.ready.grammar c.sound.ensures r.entry c.requires.ready.entry r.text.now r.tokens.now c.requires.ready.tokens c.args.at in
    let R = driven-reduce spec c.requires.ready.sound r.tables.now c.requires.ready.grammar c.sound.ensures r.entry c.requires.ready.entry (take c.args.at (tokens_in r.text.now r.tokens.now)) (next_of r c.args.at) s.states.items s.results.items s.pool c.requires.driven low (get_or s.states.items (length s.states.items - 1) 0) refl c.args.p c.requires.acts q c.production-production.ensures in
    let right : length c.as_slice-right.result.now ≡ length q.right = ap length c.as_slice-right.ensures in
    let long : c.len-2.result ≡ length s.states.items = c.len-2.ensures ∙ s.states.ok.0 in
    let kept : c.truncate.new.self.items ≡ take (length s.states.items - length q.right) s.states.items = c.truncate.ensures.items ∙ ap (λ n. take n s.states.items) (omega (arith, right, long)) in
    let at = c.top.ensures ∙ ap (λ z. get_or z (length z - 1) 0) kept in
    subst (λ z. z < length r.tables.now.cores) (sym at) (R.low 0)

pub after-requires-clause-symbol : goal.after-requires-clause-symbol
after-requires-clause-symbol c =
    let r = c.args.reading.now in
    rule-left r.evaluator.now c.requires.ready.sound r.tables.now c.requires.ready.grammar c.sound.ensures r.entry c.requires.ready.entry r.text.now r.tokens.now c.requires.ready.tokens c.args.p c.production-production.result.now c.production-production.ensures

pub unwrap-next-requires : goal.unwrap-next-requires
unwrap-next-requires c =
    let r = c.args.reading.now in
    let s = c.args.self.now in
    let spec = r.evaluator.now in
    let q = c.production-production.result.now in
    let low = low-terminal spec c.requires.ready.sound r.tables.now c.requires.ready.grammar c.sound.ensures r.entry c.requires.ready.entry r.text.now r.tokens.now c.requires.ready.tokens c.args.at in
    let R = driven-reduce spec c.requires.ready.sound r.tables.now c.requires.ready.grammar c.sound.ensures r.entry c.requires.ready.entry (take c.args.at (tokens_in r.text.now r.tokens.now)) (next_of r c.args.at) s.states.items s.results.items s.pool c.requires.driven low (get_or s.states.items (length s.states.items - 1) 0) refl c.args.p c.requires.acts q c.production-production.ensures in
    let right : length c.as_slice-right.result.now ≡ length q.right = ap length c.as_slice-right.ensures in
    let long : c.len-2.result ≡ length s.states.items = c.len-2.ensures ∙ s.states.ok.0 in
    let kept : c.truncate.new.self.items ≡ take (length s.states.items - length q.right) s.states.items = c.truncate.ensures.items ∙ ap (λ n. take n s.states.items) (omega (arith, right, long)) in
    let at = c.top.ensures ∙ ap (λ z. get_or z (length z - 1) 0) kept in
    is-some c.after.result (HasNext r.tables.now.grammar (row_at r.tables.now.cores c.top.result) q.left) c.after.ensures.none (R.next c.top.result at)

pub make-requires-clause-applied : goal.make-requires-clause-applied
make-requires-clause-applied c =
    let r = c.args.reading.now in
    rule-applied r.evaluator.now c.requires.ready.sound r.tables.now c.requires.ready.grammar c.sound.ensures r.entry c.requires.ready.entry r.text.now r.tokens.now c.requires.ready.tokens c.args.p c.production-production.result.now c.production-production.ensures

pub returns-clause-driven : goal.returns-clause-driven
returns-clause-driven c =
    let r = c.args.reading.now in
    let s = c.args.self.now in
    let spec = r.evaluator.now in
    let q = c.production-production.result.now in
    let low = low-terminal spec c.requires.ready.sound r.tables.now c.requires.ready.grammar c.sound.ensures r.entry c.requires.ready.entry r.text.now r.tokens.now c.requires.ready.tokens c.args.at in
    let R = driven-reduce spec c.requires.ready.sound r.tables.now c.requires.ready.grammar c.sound.ensures r.entry c.requires.ready.entry (take c.args.at (tokens_in r.text.now r.tokens.now)) (next_of r c.args.at) s.states.items s.results.items s.pool c.requires.driven low (get_or s.states.items (length s.states.items - 1) 0) refl c.args.p c.requires.acts q c.production-production.ensures in
    let right : length c.as_slice-right.result.now ≡ length q.right = ap length c.as_slice-right.ensures in
    let long : c.len-2.result ≡ length s.states.items = c.len-2.ensures ∙ s.states.ok.0 in
    let kept : c.truncate.new.self.items ≡ take (length s.states.items - length q.right) s.states.items = c.truncate.ensures.items ∙ ap (λ n. take n s.states.items) (omega (arith, right, long)) in
    let at = c.top.ensures ∙ ap (λ z. get_or z (length z - 1) 0) kept in
    let u = c.unwrap-next.result in
    let some = if-some c.after.result u (λ w. HasNext r.tables.now.grammar (row_at r.tables.now.cores c.top.result) q.left × Leads r.tables.now c.top.result q.left w) c.unwrap-next.ensures c.after.ensures.some in
    let leads = λ (z : ℕ) (e : z ≡ get_or (take (length s.states.items - length q.right) s.states.items) (length (take (length s.states.items - length q.right) s.states.items) - 1) 0). subst (λ y. Leads r.tables.now y q.left u) (at ∙ sym e) some.1 in
    let b : c.bound.result ≡ bound_in spec q.right = c.bound.ensures ∙ ap (bound_in spec) c.as_slice-right.ensures in
    let l : c.len.result ≡ length s.results.items = c.len.ensures ∙ s.results.ok.0 in
    let from : c.len.result - c.bound.result ≡ length s.results.items - bound_in spec q.right = omega (arith, b, l) in
    let pool = c.make.new.self.pool in
    let ids = c.make.new.self.results.items in
    let states : take (length s.states.items - length q.right) s.states.items ++ u ∷ [] ≡ c.make.new.self.states.items = sym (ap (λ z. z.items) c.make.ensures.states ∙ (c.in_ok-push.ensures.items ∙ ap (λ z. z ++ u ∷ []) kept)) in
    on-both c.make.result (All (λ k. k < length pool) ids)
    (map (value_at pool) ids ≡ map (value_at s.pool) (take (c.len.result - c.bound.result) s.results.items) ++ made_of spec q.made (map (value_at s.pool) (drop (c.len.result - c.bound.result) s.results.items)))
    (DrivenTo r c.args.at c.make.new.self.states.items ids pool) c.make.ensures.numbers c.make.ensures.values
    (λ numbers values. subst (λ z. Driven r.tables.now spec r.entry (take c.args.at (tokens_in r.text.now r.tokens.now)) (next_of r c.args.at) z ids pool) states
    (R.then u leads ids pool numbers (subst (λ k. map (value_at pool) ids ≡ map (value_at s.pool) (take k s.results.items) ++ made_of spec q.made (map (value_at s.pool) (drop k s.results.items))) from values)))
