use Rattle.std.proofs.Common.{◌≡◌, ◌-◌, Bool, true, eqb, sym, ap, ◌∙◌, subst, arith}
use Rattle.std.specs.Prelude.{is_some, not}
use Rattle.std.proofs.lemmas.Bool.{eqb-false, eqb-true, ne_eqb, not-true}
use Rattle.sg_forest.specs.declared.node_id.NodeId.{NodeId}
use Rattle.sg_forest.proofs.Paths.{differs_by_test, same_id}
use Rattle.sg_propagate.proofs.Asking.{arg_low, below_shows, left_number, numbers_show, show_numbers, shows_below, top_number}
use Rattle.sg_propagate.proofs.Updating.{HasOneNumber}
use Rattle.sg_propagate.proofs.asked.shows_other.Goals as goal

same_by_test : (n m : NodeId) (test : Bool) → test ≡ eqb n.key m.key → test ≡ true → n ≡ m
same_by_test n m test is holds = same_id n m (eqb-true n.key m.key (sym is ∙ holds))

pub kid-m-requires-clause-place : goal.kid-m-requires-clause-place
kid-m-requires-clause-place c = λ x found.
    let v = c.requires.vertex in
    let some = c.if-o-eq0.false in
    arg_low c.args.terms.now c.facts.ensures c.args.top c.args.left c.args.n c.args.work.now v.0 c.args.o c.requires.tops v.1 v.2 (c.args.o.at - 1) (omega (arith, some)) x found

pub stored-requires : goal.stored-requires
stored-requires c =
    let v = c.requires.vertex in
    let some = c.if-o-eq0.false in
    ap is_some
    (top_number c.args.terms.now c.facts.ensures c.args.top c.args.left c.args.n c.args.work.now v.0 c.args.o c.requires.tops v.1 v.2 (c.args.o.at - 1) (omega (arith, some)) c.kid-m.result c.kid-m.ensures.child
    (same_by_test c.kid-m.result c.args.top c.eq.result c.eq.ensures c.if-eq.true)).1

pub stored-requires-then-eq : goal.stored-requires-then-eq
stored-requires-then-eq c =
    let v = c.requires.vertex in
    let some = c.if-o-eq0.false in
    ap is_some
    (left_number c.args.terms.now c.facts.ensures c.args.top c.args.left c.args.n c.args.work.now v.0 c.args.o c.requires.tops v.1 v.2 (c.args.o.at - 1) (omega (arith, some)) c.kid-m.result c.kid-m.ensures.child
    (same_by_test c.kid-m.result c.args.top c.eq.result c.eq.ensures c.if-eq.true)).1

pub returns-else-eq : goal.returns-else-eq
returns-else-eq c =
    let v = c.requires.vertex in
    let some = c.if-o-eq0.false in
    let apart = differs_by_test c.kid-m.result c.args.top c.eq.result c.eq.ensures c.if-eq.false in (
      λ yes_noted. shows_below c.args.terms.now c.facts.ensures c.args.top c.args.left c.args.n c.args.work.now v.0 c.args.o c.requires.tops v.1 v.2 (c.args.o.at - 1) (omega (arith, some)) c.kid-m.result c.kid-m.ensures.child apart
          (c.is_noted-else-eq.ensures.0 yes_noted),
      λ shows. c.is_noted-else-eq.ensures.1 (below_shows c.args.terms.now c.facts.ensures c.args.top c.args.left c.args.n c.args.work.now v.0 c.args.o c.requires.tops v.1 v.2 (c.args.o.at - 1) (omega (arith, some)) c.kid-m.result c.kid-m.ensures.child apart shows),
    )

-- the numbers of the two tops differ exactly where their values do
pub returns-then-eq : goal.returns-then-eq
returns-then-eq c =
    let v = c.requires.vertex in
    let some = c.if-o-eq0.false in
    let same = same_by_test c.kid-m.result c.args.top c.eq.result c.eq.ensures c.if-eq.true in
    let one = subst HasOneNumber c.pool.ensures c.sound.ensures.one_number in
    let a = c.stored in
    let b = c.stored-then-eq in (
      λ differ. numbers_show c.args.terms.now c.facts.ensures c.args.top c.args.left c.args.n c.args.work.now v.0 c.args.o c.requires.tops v.1 v.2 (c.args.o.at - 1) (omega (arith, some)) c.kid-m.result c.kid-m.ensures.child same one a.result b.result a.ensures.number b.ensures.number
          a.ensures.within b.ensures.within (eqb-false a.result b.result (not-true (eqb a.result b.result) (sym c.ne.ensures ∙ differ))),
      λ shows. c.ne.ensures ∙ ap not (ne_eqb a.result b.result (show_numbers c.args.terms.now c.facts.ensures c.args.top c.args.left c.args.n c.args.work.now v.0 c.args.o c.requires.tops v.1 v.2 (c.args.o.at - 1) (omega (arith, some)) c.kid-m.result c.kid-m.ensures.child same one
          a.result b.result a.ensures.number b.ensures.number a.ensures.within b.ensures.within shows)),
    )
