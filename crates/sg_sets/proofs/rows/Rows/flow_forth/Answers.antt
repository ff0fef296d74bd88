use Rattle.std.proofs.Common.{◌≡◌, ℕ, ◌+◌, ◌<◌, ◌⊎◌, inl, inr, true, false, length, get_or, arith, subst}
use Rattle.std.proofs.lemmas.Bool.{cases_lt}
use Rattle.sg_sets.proofs.FlowLemmas.{Along, flowed-none, flowed-more, flowed-same, flowed-flagged, flowed-settled}
use Rattle.sg_sets.proofs.rows.Rows.flow_forth.Goals as goal
use Rattle.sg_sets.proofs.rows.Rows.flow_forth.Goals.{then-flow_along, else-flow_along}

pub loop-from-init : goal.loop-from-init
loop-from-init c = flowed-none c.args.links.now c.args.self.now c.args.was.now c.clear.new.self (λ k. k < 0) (λ k low taken. omega (arith, low, taken)) c.requires.flagged

pub flow_along-requires-clause-flagged : goal.flow_along-requires-clause-flagged
flow_along-requires-clause-flagged c = c.loop-from.invariant.ahead c.loop-from.from-index (omega (arith, c.loop-from-test.true))

pub loop-from-preserved : goal.loop-from-preserved
loop-from-preserved c =
    let links = c.args.links.now in
    let l = c.loop-from in
    let e = c.flow_along.ensures in
    let m = c.loop-from.from-index in
    let low : m < length links = omega (arith, c.loop-from-test.true) in
    let along : Along l.self c.flow_along.new.self (get_or links m (0, 0)).0 (get_or links m (0, 0)).1 l.fresh c.flow_along.new.fresh c.flow_along.result =
    record { gains = e.gains; keeps = e.keeps; passed = e.passed; grows = e.grows; stays = e.stays; flags = e.flags; flag = e.flag; shape = e.shape } in
    let one : (k : ℕ) → k < length links → k < l.from-index + 1 → (k < l.from-index) ⊎ (k ≡ m) = λ k there next. elim (cases_lt k l.from-index) [ inl before ↦ inl before | inr after ↦ inr (omega (arith, next, after)) ] in
    elim c.if-flow_along.branch [
      | then-flow_along w ↦
          let more : Along l.self c.flow_along.new.self (get_or links m (0, 0)).0 (get_or links m (0, 0)).1 l.fresh c.flow_along.new.fresh true = subst (Along l.self c.flow_along.new.self (get_or links m (0, 0)).0 (get_or links m (0, 0)).1 l.fresh c.flow_along.new.fresh) w.if-flow_along.true along in
          rw w.grown-is (flowed-more links c.args.self.now l.self c.flow_along.new.self c.args.was.now l.fresh c.flow_along.new.fresh (λ k. k < l.from-index) (λ k. k < l.from-index + 1) m l.grown low l.invariant one more)
      | else-flow_along w ↦
          let same : Along l.self c.flow_along.new.self (get_or links m (0, 0)).0 (get_or links m (0, 0)).1 l.fresh c.flow_along.new.fresh false = subst (Along l.self c.flow_along.new.self (get_or links m (0, 0)).0 (get_or links m (0, 0)).1 l.fresh c.flow_along.new.fresh) w.if-flow_along.false along in
          rw w.grown-is (flowed-same links c.args.self.now l.self c.flow_along.new.self c.args.was.now l.fresh c.flow_along.new.fresh (λ k. k < l.from-index) (λ k. k < l.from-index + 1) m l.grown low l.invariant one same)
    ]

pub returns-clause-settled : goal.returns-clause-settled
returns-clause-settled c = flowed-settled c.args.links.now c.args.self.now c.loop-from.self c.args.was.now c.loop-from.fresh (λ k. k < c.loop-from.from-index) c.loop-from.grown c.loop-from.invariant (λ k low. omega (arith, low, c.loop-from-test.false))

pub returns-clause-flagged : goal.returns-clause-flagged
returns-clause-flagged c = flowed-flagged c.args.links.now c.args.self.now c.loop-from.self c.args.was.now c.loop-from.fresh (λ k. k < c.loop-from.from-index) c.loop-from.grown c.loop-from.invariant (λ k low. omega (arith, low, c.loop-from-test.false))
