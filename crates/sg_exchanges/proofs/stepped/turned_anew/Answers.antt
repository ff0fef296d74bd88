use Rattle.std.specs.Prelude.{IfOk, OnErr}
use Rattle.std.proofs.Common.{◌≡◌, refl, sym, subst}
use Rattle.sg_kinds.specs.Places.{place_of}
use Rattle.sg_kinds.specs.Terms.{Term}
use Rattle.sg_eval.specs.Journal.{now_of}
use Rattle.sg_exchanges.specs.Turns.{IsSeen, MayTurn, Notes, NotesSome}
use Rattle.sg_exchanges.specs.declared.turns.Turned.{Turned}
use Rattle.sg_exchanges.specs.declared.turns.What.{What}
use Rattle.sg_exchanges.proofs.Stepping.{all_err, all_ok}
use Rattle.sg_exchanges.proofs.stepped.turned_anew.Goals as goal

pub exchanged_anew-requires-clause-may : goal.exchanged_anew-requires-clause-may
exchanged_anew-requires-clause-may c =
    let m = c.requires.may in
    (m.0, subst (λ (w : What). MayTurn c.args.terms.now c.args.root c.args.out w m.0 (place_of c.args.path.now)) c.in-Tree.is m.1)

pub remarked-requires-clause-may : goal.remarked-requires-clause-may
remarked-requires-clause-may c =
    let m = c.requires.may in
    let u = place_of c.args.path.now in
    (m.0, u, subst (λ (w : What). MayTurn c.args.terms.now c.args.root c.args.out w m.0 u) c.in-Shown.is m.1)

pub returns-in-Tree-clause-turned : goal.returns-in-Tree-clause-turned
returns-in-Tree-clause-turned c =
    let g = c.args.terms.now in
    let u = place_of c.args.path.now in
    subst (λ (w : What). (t : Term) → MayTurn g c.args.root c.args.out w t u → IfOk c.exchanged_anew.result (IsSeen g c.exchanged_anew.new.terms c.args.root c.args.out w t u c.args.height c.args.spot.now.selection c.args.spot.now.top))
    (sym c.in-Tree.is) c.exchanged_anew.ensures.turned

pub returns-in-Tree-clause-noted : goal.returns-in-Tree-clause-noted
returns-in-Tree-clause-noted c =
    let g = c.args.terms.now in
    let u = place_of c.args.path.now in
    subst (λ (w : What). (t : Term) → MayTurn g c.args.root c.args.out w t u → IfOk c.exchanged_anew.result (λ (r : Turned). Notes g c.exchanged_anew.new.terms r.root t u w (now_of c.args.journal.now) (now_of c.exchanged_anew.new.journal)))
    (sym c.in-Tree.is) c.exchanged_anew.ensures.noted

pub returns-in-Tree-clause-some : goal.returns-in-Tree-clause-some
returns-in-Tree-clause-some c =
    let g = c.args.terms.now in
    let u = place_of c.args.path.now in
    subst (λ (w : What). (t : Term) → MayTurn g c.args.root c.args.out w t u → OnErr c.exchanged_anew.result (NotesSome g c.args.root t u w (now_of c.args.journal.now) (now_of c.exchanged_anew.new.journal)))
    (sym c.in-Tree.is) c.exchanged_anew.ensures.some

pub returns-in-Shown-clause-turned : goal.returns-in-Shown-clause-turned
returns-in-Shown-clause-turned c =
    let g = c.args.terms.now in
    let u = place_of c.args.path.now in
    subst (λ (w : What). (t : Term) → MayTurn g c.args.root c.args.out w t u → IfOk c.remarked.result (IsSeen g c.remarked.new.terms c.args.root c.args.out w t u c.args.height c.args.spot.now.selection c.args.spot.now.top))
    (sym c.in-Shown.is) (λ t may. c.remarked.ensures.turned t (place_of c.args.path.now) may)

pub returns-in-Shown-clause-noted : goal.returns-in-Shown-clause-noted
returns-in-Shown-clause-noted c =
    let g = c.args.terms.now in
    let u = place_of c.args.path.now in
    subst (λ (w : What). (t : Term) → MayTurn g c.args.root c.args.out w t u → IfOk c.remarked.result (λ (r : Turned). Notes g c.remarked.new.terms r.root t u w (now_of c.args.journal.now) (now_of c.args.journal.now)))
    (sym c.in-Shown.is) (λ t may. all_ok (λ (r : Turned). now_of c.args.journal.now ≡ now_of c.args.journal.now) c.remarked.result (λ r. refl))

pub returns-in-Shown-clause-some : goal.returns-in-Shown-clause-some
returns-in-Shown-clause-some c =
    let g = c.args.terms.now in
    let u = place_of c.args.path.now in
    subst (λ (w : What). (t : Term) → MayTurn g c.args.root c.args.out w t u → OnErr c.remarked.result (NotesSome g c.args.root t u w (now_of c.args.journal.now) (now_of c.args.journal.now)))
    (sym c.in-Shown.is) (λ t may. all_err (now_of c.args.journal.now ≡ now_of c.args.journal.now) c.remarked.result refl)
