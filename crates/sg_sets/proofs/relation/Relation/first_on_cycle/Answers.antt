use Rattle.std.proofs.Common.{◌<◌, inl, inr, sym, subst, arith}
use Rattle.std.proofs.lemmas.Bool.{cases_lt}
use Rattle.sg_sets.specs.Rows.{Holds}
use Rattle.sg_sets.proofs.BeforeLemmas.{Holds-below}
use Rattle.sg_sets.proofs.CloseLemmas.{Holds-path}
use Rattle.sg_sets.proofs.relation.Relation.first_on_cycle.Goals as goal

pub returns-then-holds-clause-least : goal.returns-then-holds-clause-least
returns-then-holds-clause-least c = λ v path.
    let copied = c.in_ok-closed.ensures in
    let contains = rw copied at c.close.ensures.contains in
    let closed = Holds-path c.args.self.now c.close.new.self contains c.close.ensures.transitive v v path in
    elim (cases_lt v c.loop-v.v) [
      | inl low ↦ absurd (c.loop-v.invariant v low (subst (λ r. Holds r v v) (sym c.closed.view_is) closed))
      | inr high ↦ high
    ]

pub returns-clause-none : goal.returns-clause-none
returns-clause-none c = λ v path.
    let copied = c.in_ok-closed.ensures in
    let contains = rw copied at c.close.ensures.contains in
    let closed = Holds-path c.args.self.now c.close.new.self contains c.close.ensures.transitive v v path in
    let low : v < c.loop-v.v = omega (arith, Holds-below c.close.new.self v v closed) in
    c.loop-v.invariant v low (subst (λ r. Holds r v v) (sym c.closed.view_is) closed)
