use Rattle.std.proofs.Common.{◌≡◌, ◌∙◌, refl, inr, sym, subst}
use Rattle.std.proofs.lemmas.Option.{none-some, same_Some}
use Rattle.sg_dependencies.proofs.SoundRules.{sound_range}
use Rattle.sg_attrib.proofs.Calls.{op_there}
use Rattle.sg_propagate.specs.Moves.{IsQuiet, IsSeat}
use Rattle.sg_propagate.proofs.Noted.{positive, quiet_first, seat_found, seat_needed}
use Rattle.sg_propagate.proofs.rise.way_up.Goals.{then-k-eq0-via-then-k-eq0, then-k-eq0-via-else-k-eq0+then-not-gives_other}
use Rattle.sg_propagate.proofs.rise.way_up.Goals as goal

pub returns-then-k-eq0-clause-stays : goal.returns-then-k-eq0-clause-stays
returns-then-k-eq0-clause-stays c = elim c.then-k-eq0.branch [
  | then-k-eq0-via-then-k-eq0 w ↦
      inr (subst (λ k. IsQuiet c.args.plans.now c.args.terms.now c.args.n k c.args.work.now) (sym w.if-k-eq0.true) (quiet_first c.args.terms.now c.facts.ensures c.args.plans.now c.requires.valid c.args.n c.args.work.now))
  | then-k-eq0-via-else-k-eq0+then-not-gives_other w ↦ inr (w.if-not-gives_other.ensures refl)
]

-- the node above is one of an operator
pub returns-in_err-op-clause-stays : goal.returns-in_err-op-clause-stays
returns-in_err-op-clause-stays c =
    let s = seat_needed c.args.terms.now c.facts.ensures c.args.plans.now c.requires.valid c.args.n c.args.k (c.requires.visited (positive c.args.k c.if-k-eq0.false)) c.in_ok-above.above c.in_ok-above.kid c.in_ok-above.ensures.child in
    absurd (none-some s.0 (sym (sym c.op.ensures.op ∙ c.in_err-op.was) ∙ s.1))

pub seat_of-requires-clause-range : goal.seat_of-requires-clause-range
seat_of-requires-clause-range c = let is = c.facts.ensures in sound_range c.args.terms.now.spec is.sound.counted is.sound.shapes is.sound.rules

pub seat_of-requires-clause-there : goal.seat_of-requires-clause-there
seat_of-requires-clause-there c = op_there c.args.terms.now c.facts.ensures c.in_ok-above.above c.in_ok-op.op (sym c.op.ensures.op ∙ c.in_ok-op.was)

-- whose plan has the step
pub returns-in_err-i-clause-stays : goal.returns-in_err-i-clause-stays
returns-in_err-i-clause-stays c =
    let s = seat_needed c.args.terms.now c.facts.ensures c.args.plans.now c.requires.valid c.args.n c.args.k (c.requires.visited (positive c.args.k c.if-k-eq0.false)) c.in_ok-above.above c.in_ok-above.kid c.in_ok-above.ensures.child in
    let seat = s.2 in
    let same : s.0 ≡ c.in_ok-op.op = same_Some s.0 c.in_ok-op.op (sym s.1 ∙ sym c.op.ensures.op ∙ c.in_ok-op.was) in
    absurd (c.in_err-i.ensures.none seat.0 seat.1 (subst (λ op. IsSeat c.args.plans.now op c.in_ok-above.kid c.args.k seat.0 seat.1) same seat.2))

pub returns-clause-up : goal.returns-clause-up
returns-clause-up c =
    seat_found c.args.terms.now c.facts.ensures c.args.plans.now c.requires.valid c.args.n c.args.k c.in_ok-above.above c.in_ok-above.kid c.in_ok-above.ensures.child c.in_ok-op.op (sym c.op.ensures.op ∙ c.in_ok-op.was)
    c.in_ok-i.i c.in_ok-i.from c.in_ok-i.ensures.there
