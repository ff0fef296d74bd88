use Rattle.std.specs.Prelude.{ℕ, IfOk, OnErr}
use Rattle.std.proofs.Common.{refl, sym, subst}
use Rattle.sg_kinds.specs.Places.{place_of}
use Rattle.sg_kinds.specs.Terms.{Term}
use Rattle.sg_eval.specs.Journal.{now_of}
use Rattle.sg_exchanges.specs.Stepped.{IsStepped, MayStep, settled_then}
use Rattle.sg_exchanges.specs.Turns.{Notes, NotesSome}
use Rattle.sg_exchanges.specs.declared.stepped.Stepped.{Stepped}
use Rattle.sg_exchanges.proofs.Stepping.{by_step, of_step, same_then}
use Rattle.sg_exchanges.proofs.stepped.step_along.Goals as goal

pub turned_at-requires-clause-may : goal.turned_at-requires-clause-may
turned_at-requires-clause-may c =
    by_step (λ u what spot. (t : Term) × (height : ℕ) × MayStep c.args.terms.now c.args.root t u what height spot c.args.known) c.args.step.now c.args.direction
    c.path_of-path.result.now c.what_of-what.result c.spot_along-spot.result.now c.path_of-path.ensures c.what_of-what.ensures c.spot_along-spot.ensures (c.requires.may.0, c.args.height, c.requires.may.1)

pub settled_at-requires-clause-may : goal.settled_at-requires-clause-may
settled_at-requires-clause-may c =
    by_step (λ u what spot. (t : Term) × MayStep c.args.terms.now c.args.root t u what c.args.height spot c.args.known) c.args.step.now c.args.direction
    c.path_of-path.result.now c.what_of-what.result c.spot_along-spot.result.now c.path_of-path.ensures c.what_of-what.ensures c.spot_along-spot.ensures c.requires.may

pub returns-then-is_present-clause-stepped : goal.returns-then-is_present-clause-stepped
returns-then-is_present-clause-stepped c =
    of_step (λ u what spot. (t : Term) → MayStep c.args.terms.now c.args.root t u what c.args.height spot c.args.known → IfOk c.turned_at.result
    (IsStepped c.args.terms.now c.turned_at.new.terms c.args.root t u what (settled_then c.args.terms.now t u what c.args.height spot))) c.args.step.now c.args.direction
    c.path_of-path.result.now c.what_of-what.result c.spot_along-spot.result.now c.path_of-path.ensures c.what_of-what.ensures c.spot_along-spot.ensures (λ t may.
    subst (λ z. IfOk c.turned_at.result (IsStepped c.args.terms.now c.turned_at.new.terms c.args.root t (place_of c.path_of-path.result.now) c.what_of-what.result z))
    (sym (same_then c.args.terms.now c.args.root t (place_of c.path_of-path.result.now) c.what_of-what.result c.args.height c.spot_along-spot.result.now c.args.known may (c.if-is_present.ensures.0 refl)))
    (c.turned_at.ensures.stepped t c.args.height may))

pub returns-then-is_present-clause-noted : goal.returns-then-is_present-clause-noted
returns-then-is_present-clause-noted c =
    of_step (λ u what spot. (t : Term) → MayStep c.args.terms.now c.args.root t u what c.args.height spot c.args.known → IfOk c.turned_at.result (λ (r : Stepped).
    Notes c.args.terms.now c.turned_at.new.terms r.root t u what (now_of c.args.journal.now) (now_of c.turned_at.new.journal))) c.args.step.now c.args.direction
    c.path_of-path.result.now c.what_of-what.result c.spot_along-spot.result.now c.path_of-path.ensures c.what_of-what.ensures c.spot_along-spot.ensures (λ t may. c.turned_at.ensures.noted t c.args.height may)

pub returns-then-is_present-clause-some : goal.returns-then-is_present-clause-some
returns-then-is_present-clause-some c =
    of_step (λ u what spot. (t : Term) → MayStep c.args.terms.now c.args.root t u what c.args.height spot c.args.known → OnErr c.turned_at.result
    (NotesSome c.args.terms.now c.args.root t u what (now_of c.args.journal.now) (now_of c.turned_at.new.journal))) c.args.step.now c.args.direction
    c.path_of-path.result.now c.what_of-what.result c.spot_along-spot.result.now c.path_of-path.ensures c.what_of-what.ensures c.spot_along-spot.ensures (λ t may. c.turned_at.ensures.some t c.args.height may)

pub returns-else-is_present-clause-stepped : goal.returns-else-is_present-clause-stepped
returns-else-is_present-clause-stepped c =
    of_step (λ u what spot. (t : Term) → MayStep c.args.terms.now c.args.root t u what c.args.height spot c.args.known → IfOk c.settled_at.result
    (IsStepped c.args.terms.now c.settled_at.new.terms c.args.root t u what (settled_then c.args.terms.now t u what c.args.height spot))) c.args.step.now c.args.direction
    c.path_of-path.result.now c.what_of-what.result c.spot_along-spot.result.now c.path_of-path.ensures c.what_of-what.ensures c.spot_along-spot.ensures c.settled_at.ensures.stepped

pub returns-else-is_present-clause-noted : goal.returns-else-is_present-clause-noted
returns-else-is_present-clause-noted c =
    of_step (λ u what spot. (t : Term) → MayStep c.args.terms.now c.args.root t u what c.args.height spot c.args.known → IfOk c.settled_at.result (λ (r : Stepped).
    Notes c.args.terms.now c.settled_at.new.terms r.root t u what (now_of c.args.journal.now) (now_of c.settled_at.new.journal))) c.args.step.now c.args.direction
    c.path_of-path.result.now c.what_of-what.result c.spot_along-spot.result.now c.path_of-path.ensures c.what_of-what.ensures c.spot_along-spot.ensures c.settled_at.ensures.noted

pub returns-else-is_present-clause-some : goal.returns-else-is_present-clause-some
returns-else-is_present-clause-some c =
    of_step (λ u what spot. (t : Term) → MayStep c.args.terms.now c.args.root t u what c.args.height spot c.args.known → OnErr c.settled_at.result
    (NotesSome c.args.terms.now c.args.root t u what (now_of c.args.journal.now) (now_of c.settled_at.new.journal))) c.args.step.now c.args.direction
    c.path_of-path.result.now c.what_of-what.result c.spot_along-spot.result.now c.path_of-path.ensures c.what_of-what.ensures c.spot_along-spot.ensures c.settled_at.ensures.some
