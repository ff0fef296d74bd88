use Rattle.std.proofs.Common.{rules, ◌+◌, ◌-◌, ◌/◌, ◌%◌, ◌<◌, ◌≤◌, ◌^◌, inl, inr, sym, ◌∙◌, length, get_or, arith}
use Rattle.std.proofs.lemmas.Bool.{cases_lt, false≢true}
use Rattle.sg_sets.proofs.WordsLemmas.{has-packed, length-bits_of}
use Rattle.sg_sets.proofs.MembersLemmas.{has-past, has-below}
use Rattle.sg_sets.proofs.RestLemmas.{rest-none, rest-within, next-found}
use Rattle.sg_sets.proofs.bit_set.BitSet.next.Goals as goal

pub overflow_add-result : goal.overflow_add-result
overflow_add-result c =
    let fits : get_or c.as_slice-words.result.now (c.loop-at.at / 64) 0 < 2 ^ 64 = search rules in
    let within = rest-within c.as_slice-words.result.now c.loop-at.at fits c.if-rest-ne0.true in
    omega (arith, within, c.loop-at.auto.at-fits)

pub returns-then-rest-ne0-clause-least : goal.returns-then-rest-ne0-clause-least
returns-then-rest-ne0-clause-least c =
    let fits : get_or c.as_slice-words.result.now (c.loop-at.at / 64) 0 < 2 ^ 64 = search rules in
    let value = c.as_slice-words.ensures.value in
    let inv = c.self.invariant in
    rw (← c.self.view_is, value)
    (next-found c.self.inside.width c.self.inside.words.items c.args.from c.loop-at.at inv (rw value at fits) (rw value at c.if-rest-ne0.true)
    c.loop-at.invariant.behind (rw (← c.self.view_is) at c.loop-at.invariant.none))

pub returns-then-rest-ne0-clause-low : goal.returns-then-rest-ne0-clause-low
returns-then-rest-ne0-clause-low c =
    let member = has-below c.args.self.now _ (returns-then-rest-ne0-clause-least c).member in
    let l : length c.args.self.now < 2 ^ 64 = rw (← c.self.view_is, length-bits_of) c.self.invariant.small in
    omega (arith, member, l)

pub loop-at-preserved : goal.loop-at-preserved
loop-at-preserved c = record {
  behind = omega (arith, c.saturating_add-at.ensures, c.loop-at.invariant.behind);
  none = λ a behind below there. elim (cases_lt a c.loop-at.at) [
    | inl low ↦ c.loop-at.invariant.none a behind low there
    | inr high ↦
        let until : a < c.loop-at.at + (64 - c.loop-at.at % 64) = omega (arith, c.saturating_add-at.ensures, below) in
        let bit = rest-none c.as_slice-words.result.now c.loop-at.at c.if-rest-ne0.false a high until in
        absurd (false≢true (sym (rw (← c.self.view_is) (has-packed c.self.inside.width c.self.inside.words.items a c.self.invariant ∙ rw c.as_slice-words.ensures.value at bit)) ∙ there))
  ];
}

pub returns-clause-none : goal.returns-clause-none
returns-clause-none c = λ a behind there. elim (cases_lt a c.loop-at.at) [
  | inl low ↦ c.loop-at.invariant.none a behind low there
  | inr high ↦
      let past : length c.args.self.now ≤ a = rw (← c.self.view_is, length-bits_of) (omega (arith, high, c.loop-at-test.false)) in
      absurd (false≢true (sym (has-past c.args.self.now a past) ∙ there))
]
