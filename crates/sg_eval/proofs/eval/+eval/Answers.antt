use Rattle.std.proofs.Common.{◌≡◌, ◌∙◌, sym, ap, subst, rules, arith, ◌∷◌, [], ◌++◌, length, map, Ok, Err, Some, None, slice_get, true, false}
use Rattle.sg_kinds.specs.declared.spec.Function.{Function}
use Rattle.std.proofs.lemmas.Result.{err_from_is_err_and}
use Rattle.sg_kinds.specs.Values.{Tree, row_of}
use Rattle.sg_kinds.specs.declared.marks.FaultKind.TheVariants.{NoMatch}
use Rattle.sg_kinds.specs.PatternView.{pattern_of}
use Rattle.sg_kinds.specs.ExprView.{expr_of, exprs_of, cases_of}
use Rattle.sg_kinds.specs.Evaluation.{Gives, limited, value_within, row_reached, first_case, bound_by}
use Rattle.sg_pool.proofs.Grown.{grown_itself, grown_twice}
use Rattle.sg_eval.specs.Answers.{given}
use Rattle.sg_eval.specs.Lives.{value_in, IsReached, bound_in, AreUsable, IsMatched}
use Rattle.sg_eval.specs.declared.live.Live.TheVariants as live
use Rattle.sg_eval.specs.declared.live.Stop.TheVariants as stop
use Rattle.sg_eval.proofs.Steps.{entered, truth_value, goes, stopped, stopped_limited, then_reached, reached_limited, halted, row_goes, chooses_nothing, connects_nothing, connects_second, connects_first, row_stops, row_steps, usable_push, body_there, no_function, no_body, with_body, case_taken, case_passed, take_front}
use Rattle.sg_eval.proofs.Bindings.{known_on, known_with, bound_more, all_usable_known, usable_known, known_stays}
use Rattle.sg_eval.proofs.MadeLater.{made_later}
use Rattle.sg_eval.proofs.eval.+eval.Goals as goal

pub reach-returns-in_default : goal.reach-returns-in_default
reach-returns-in_default t c = record {
  value = λ last g.
      subst (IsReached last (given c.descend.result) c.descend.new.fuel)
      (entered c.args.scope.now.spec.now c.args.room (expr_of c.args.e.now) (bound_in last c.args.scope.now.args.now c.args.env.now.items) c.args.fuel.now (omega arith) (omega arith))
      (c.descend.ensures.value last g);
  env = c.descend.ensures.env;
  grown = c.descend.ensures.grown;
  made = c.descend.ensures.made;
}

pub single-applied-requires : goal.single-applied-requires
single-applied-requires t c = (c.in_ok-x.ensures.value c.enter.new.pool (grown_itself c.enter.new.pool)).1

pub binary-enter-requires-2 : goal.binary-enter-requires-2
binary-enter-requires-2 t c = (search rules, (known_on _ _ _ _ _ c.enter.ensures.grown c.in_ok-x.ensures.env c.requires.known, c.enter.ensures.made))

pub binary-combined-requires-clause-y : goal.binary-combined-requires-clause-y
binary-combined-requires-clause-y t c = (c.in_ok-y.ensures.value c.enter-2.new.pool (grown_itself c.enter-2.new.pool)).1

pub binary-returns-in_err-y-clause-value : goal.binary-returns-in_err-y-clause-value
binary-returns-in_err-y-clause-value t c = λ last g.
    let p = err_from_is_err_and c.from_residual-in_err-y.result c.from_residual-in_err-y.ensures.1 in
    let y = rw c.in_ok-x.ensures.env at (c.in_err-y.ensures.value last g) in
    rw (p.1, p.2, goes last c.in_ok-x.x _ _ _ (c.in_ok-x.ensures.value last (grown_twice _ _ _ c.enter-2.ensures.grown g)))
    (stopped_limited last c.in_err-y.field-0.0 _ _ (stopped last c.in_err-y.field-0.0 _ _ _ y))

pub cons-returns-in_err-y-clause-value : goal.cons-returns-in_err-y-clause-value
cons-returns-in_err-y-clause-value t c = λ last g.
    let p = err_from_is_err_and c.from_residual-in_err-y.result c.from_residual-in_err-y.ensures.1 in
    let y = rw c.in_ok-x.ensures.env at (c.in_err-y.ensures.value last g) in
    rw (p.1, p.2, goes last c.in_ok-x.x _ _ _ (c.in_ok-x.ensures.value last (grown_twice _ _ _ c.enter-2.ensures.grown g)))
    (stopped_limited last c.in_err-y.field-0.0 _ _ (stopped last c.in_err-y.field-0.0 _ _ _ y))

pub cons-enter-requires-2 : goal.cons-enter-requires-2
cons-enter-requires-2 t c = (search rules, (known_on _ _ _ _ _ c.enter.ensures.grown c.in_ok-x.ensures.env c.requires.known, c.enter.ensures.made))

pub cons-tree-requires : goal.cons-tree-requires
cons-tree-requires t c = ((c.in_ok-x.ensures.value c.enter-2.new.pool c.enter-2.ensures.grown).1, ((c.in_ok-y.ensures.value c.enter-2.new.pool (grown_itself c.enter-2.new.pool)).1, tt))

pub cons-returns-clause-value : goal.cons-returns-clause-value
cons-returns-clause-value t c = λ last g.
    let gy = grown_twice c.enter-2.new.pool c.tree.new.pool last c.tree.ensures.grown g in
    let y = rw c.in_ok-x.ensures.env at (c.in_ok-y.ensures.value last gy) in
    then_reached last c.in_ok-x.x c.enter.new.fuel _ _ c.tree.result c.enter-2.new.fuel (c.in_ok-x.ensures.value last (grown_twice _ _ _ c.enter-2.ensures.grown gy))
    (then_reached last c.in_ok-y.y c.enter-2.new.fuel _ _ c.tree.result c.enter-2.new.fuel y (c.tree.ensures.value last c.enter-2.new.fuel g))

pub apply-returns-in_err-kids-clause-value : goal.apply-returns-in_err-kids-clause-value
apply-returns-in_err-kids-clause-value t c = λ last g.
    let p = err_from_is_err_and c.from_residual.result c.from_residual.ensures.1 in
    rw (p.1, p.2) (halted last c.in_err-kids.field-0.0 c.row.new.fuel _ _ (c.in_err-kids.ensures.value last g))

pub call-returns-in_err-args-clause-value : goal.call-returns-in_err-args-clause-value
call-returns-in_err-args-clause-value t c = λ last g.
    let p = err_from_is_err_and c.from_residual.result c.from_residual.ensures.1 in
    rw (p.1, p.2) (halted last c.in_err-args.field-0.0 c.row.new.fuel _ _ (c.in_err-args.ensures.value last g))

pub apply-tree-reached-requires : goal.apply-tree-reached-requires
apply-tree-reached-requires t c = subst (AreUsable c.row.new.pool) (sym c.deref.ensures.value) (c.in_ok-kids.ensures.value c.row.new.pool (grown_itself c.row.new.pool)).1

pub apply-returns-clause-value : goal.apply-returns-clause-value
apply-returns-clause-value t c = λ last g.
    row_goes last c.in_ok-kids.kids.items c.row.new.fuel _ _ c.tree-reached.result c.row.new.fuel (c.in_ok-kids.ensures.value last (grown_twice _ _ _ c.tree-reached.ensures.grown g))
    (subst (λ l. IsReached last c.tree-reached.result c.row.new.fuel (limited (Gives (Tree c.args.op (row_of (map (value_in last) l))) c.row.new.fuel))) c.deref.ensures.value (c.tree-reached.ensures.value last c.row.new.fuel g))

pub call-returns-in_default-clause-value : goal.call-returns-in_default-clause-value
call-returns-in_default-clause-value t c = λ last g.
    row_goes last c.in_ok-args.args.items c.row.new.fuel _ _ (Err (stop.Fault NoMatch)) c.row.new.fuel (c.in_ok-args.ensures.value last g)
    (no_body (value_within c.args.scope.now.spec.now c.args.room) last _ _ c.row.new.fuel (no_function c.args.scope.now.spec.now c.args.f c.in_default.ensures))

pub call-returns-in_default-place-clause-value : goal.call-returns-in_default-place-clause-value
call-returns-in_default-place-clause-value t c = λ last g.
    row_goes last c.in_ok-args.args.items c.row.new.fuel _ _ (Err (stop.Fault NoMatch)) c.row.new.fuel (c.in_ok-args.ensures.value last g)
    (no_body (value_within c.args.scope.now.spec.now c.args.room) last _ _ c.row.new.fuel (body_there c.args.scope.now.spec.now c.args.f c.in-Some.function.now _ c.in-Some.ensures
    (subst (λ k. slice_get c.args.scope.now.spec.now.exprs k ≡ None) (ap (λ (f : Function). f.body) c.function.view_is) c.in_default-place.ensures)))

pub call-enter-reached-requires : goal.call-enter-reached-requires
call-enter-reached-requires t c = (search rules, (all_usable_known c.row.new.pool c.in_ok-args.args.items (c.in_ok-args.ensures.value c.row.new.pool (grown_itself c.row.new.pool)).1, c.row.ensures.made))

pub call-returns-clause-value : goal.call-returns-clause-value
call-returns-clause-value t c = λ last g.
    row_goes last c.in_ok-args.args.items c.row.new.fuel _ _ c.enter-reached.result c.enter-reached.new.fuel (c.in_ok-args.ensures.value last (grown_twice _ _ _ c.enter-reached.ensures.grown g))
    (with_body (value_within c.args.scope.now.spec.now c.args.room) last _ (expr_of c.body.inside.tree) _ c.row.new.fuel c.enter-reached.new.fuel c.enter-reached.result
    (body_there c.args.scope.now.spec.now c.args.f c.in-Some.function.now _ c.in-Some.ensures
    (subst (λ k. slice_get c.args.scope.now.spec.now.exprs k ≡ Some c.in-Some-place.body.now) (ap (λ (f : Function). f.body) c.function.view_is) c.in-Some-place.ensures ∙ ap Some (sym c.body.view_is)))
    (c.enter-reached.ensures.value last g))

pub bind-enter-requires-2 : goal.bind-enter-requires-2
bind-enter-requires-2 t c = (
  search rules,
  (
    known_with c.args.pool.now c.enter.new.pool c.args.scope.now.args.now c.args.env.now.items (c.in_ok-x.x ∷ []) _ c.enter.ensures.grown
        (c.in_ok-push.ensures.items ∙ ap (λ l. l ++ c.in_ok-x.x ∷ []) c.in_ok-x.ensures.env) c.requires.known (usable_known c.enter.new.pool c.in_ok-x.x (c.in_ok-x.ensures.value c.enter.new.pool (grown_itself c.enter.new.pool)).1, tt),
    c.enter.ensures.made,
  ),
)

pub bind-returns-clause-value : goal.bind-returns-clause-value
bind-returns-clause-value t c = λ last g.
    let args = c.args.scope.now.args.now in
    let env = c.args.env.now.items in
    then_reached last c.in_ok-x.x c.enter.new.fuel _ _ (Ok c.in_ok-y.y) c.enter-2.new.fuel (c.in_ok-x.ensures.value last (grown_twice _ _ _ c.enter-2.ensures.grown g))
    (reached_limited last (Ok c.in_ok-y.y) c.enter-2.new.fuel _
    (subst (λ e. IsReached last (Ok c.in_ok-y.y) c.enter-2.new.fuel (value_within c.args.scope.now.spec.now c.args.room (expr_of c.args.b.now) e c.enter.new.fuel))
    (ap (bound_in last args) (c.in_ok-push.ensures.items ∙ ap (λ l. l ++ c.in_ok-x.x ∷ []) c.in_ok-x.ensures.env) ∙ bound_more last args env (c.in_ok-x.x ∷ []))
    (c.in_ok-y.ensures.value last g)))

pub choice-returns-in_default : goal.choice-returns-in_default
choice-returns-in_default t c = record {
  value = λ last g.
      let u = c.in_ok-enter.ensures.value last g in
      then_reached last c.in_ok-enter.field-0 c.enter.new.fuel _ _ (Err (stop.Fault NoMatch)) c.enter.new.fuel u (ap limited (chooses_nothing last c.in_ok-enter.field-0 _ _ c.enter.new.fuel u.1 (sym c.in_default.ensures)));
  env = tt;
  grown = c.enter.ensures.grown;
  made = c.enter.ensures.made;
}

pub choice-enter-requires-then-chosen : goal.choice-enter-requires-then-chosen
choice-enter-requires-then-chosen t c = (search rules, (known_on _ _ _ _ _ c.enter.ensures.grown c.in_ok-enter.ensures.env c.requires.known, c.enter.ensures.made))

pub choice-enter-requires-else-chosen : goal.choice-enter-requires-else-chosen
choice-enter-requires-else-chosen t c = (search rules, (known_on _ _ _ _ _ c.enter.ensures.grown c.in_ok-enter.ensures.env c.requires.known, c.enter.ensures.made))

pub choice-returns-then-chosen-clause-value : goal.choice-returns-then-chosen-clause-value
choice-returns-then-chosen-clause-value t c = λ last g.
    let e = c.enter-then-chosen in
    let x = c.in_ok-enter.ensures.value last (grown_twice _ _ _ e.ensures.grown g) in
    then_reached last c.in_ok-enter.field-0 c.enter.new.fuel _ _ e.result e.new.fuel x
    (rw (truth_value last c.in_ok-enter.field-0 c.in-Some.chosen c.in-Some.ensures, c.if-chosen.true)
    (reached_limited last e.result e.new.fuel _ (rw c.in_ok-enter.ensures.env at (e.ensures.value last g))))

pub choice-returns-else-chosen-clause-value : goal.choice-returns-else-chosen-clause-value
choice-returns-else-chosen-clause-value t c = λ last g.
    let e = c.enter-else-chosen in
    let x = c.in_ok-enter.ensures.value last (grown_twice _ _ _ e.ensures.grown g) in
    then_reached last c.in_ok-enter.field-0 c.enter.new.fuel _ _ e.result e.new.fuel x
    (rw (truth_value last c.in_ok-enter.field-0 c.in-Some.chosen c.in-Some.ensures, c.if-chosen.false)
    (reached_limited last e.result e.new.fuel _ (rw c.in_ok-enter.ensures.env at (e.ensures.value last g))))

pub logical-returns-in_default : goal.logical-returns-in_default
logical-returns-in_default t c = record {
  value = λ last g.
      let u = c.in_ok-x.ensures.value last g in
      then_reached last c.in_ok-x.x c.enter.new.fuel _ _ (Err (stop.Fault NoMatch)) c.enter.new.fuel u (ap limited (connects_nothing last c.args.how c.in_ok-x.x _ c.enter.new.fuel u.1 (sym c.in_default.ensures)));
  env = tt;
  grown = c.enter.ensures.grown;
  made = c.enter.ensures.made;
}

pub logical-enter-requires-then-needs_second : goal.logical-enter-requires-then-needs_second
logical-enter-requires-then-needs_second t c = (search rules, (known_on _ _ _ _ _ c.enter.ensures.grown c.in_ok-x.ensures.env c.requires.known, c.enter.ensures.made))

pub logical-returns-then-needs_second-clause-value : goal.logical-returns-then-needs_second-clause-value
logical-returns-then-needs_second-clause-value t c = λ last g.
    let e = c.enter-then-needs_second in
    let x = c.in_ok-x.ensures.value last (grown_twice _ _ _ e.ensures.grown g) in
    let y = rw c.in_ok-x.ensures.env at (e.ensures.value last g) in
    then_reached last c.in_ok-x.x c.enter.new.fuel _ _ e.result e.new.fuel x
    (rw (truth_value last c.in_ok-x.x c.in-Some.first c.in-Some.ensures)
    (reached_limited last e.result e.new.fuel _ (subst (IsReached last e.result e.new.fuel) (sym (connects_second c.args.how c.in-Some.first _ c.enter.new.fuel (sym c.if-needs_second.ensures))) y)))

pub logical-returns-else-needs_second-clause-value : goal.logical-returns-else-needs_second-clause-value
logical-returns-else-needs_second-clause-value t c = λ last g.
    let x = c.in_ok-x.ensures.value last g in
    then_reached last c.in_ok-x.x c.enter.new.fuel _ _ (Ok c.in_ok-x.x) c.enter.new.fuel x
    (rw (truth_value last c.in_ok-x.x c.in-Some.first c.in-Some.ensures) (ap limited (connects_first c.args.how c.in-Some.first _ c.enter.new.fuel (sym c.if-needs_second.ensures))), x.1)

pub with-first_match-requires : goal.with-first_match-requires
with-first_match-requires t c = (
  search rules,
  (usable_known c.enter.new.pool c.in_ok-x.x (c.in_ok-x.ensures.value c.enter.new.pool (grown_itself c.enter.new.pool)).1, (known_on _ _ _ _ _ c.enter.ensures.grown c.in_ok-x.ensures.env c.requires.known, c.enter.ensures.made)),
)

pub row-enter-requires : goal.row-enter-requires
row-enter-requires t c = (search rules, (known_on _ _ _ _ _ c.loop-rest.invariant.grown c.loop-rest.invariant.same_env c.requires.known, c.loop-rest.invariant.made))

pub row-returns-in_err-enter-clause-value : goal.row-returns-in_err-enter-clause-value
row-returns-in_err-enter-clause-value t c = λ last g.
    let p = err_from_is_err_and c.from_residual.result c.from_residual.ensures.1 in
    let inside = value_within c.args.scope.now.spec.now c.args.room in
    let env = bound_in last c.args.scope.now.args.now c.args.env.now.items in
    let before = grown_twice _ _ _ c.enter.ensures.grown g in
    let done = map (value_in last) c.loop-rest.values.items in
    let e = rw (c.loop-rest.invariant.same_env, c.deref.ensures) at (c.in_err-enter.ensures.value last g) in
    rw (p.1, p.2)
    (row_stops inside last done (expr_of c.in-More.e.value) (exprs_of c.in-More.next.value) env c.loop-rest.fuel c.enter.new.fuel c.in_err-enter.field-0.0 _
    (ap (λ r. row_reached inside done (exprs_of r) env c.loop-rest.fuel) (sym c.in-More.is) ∙ c.loop-rest.invariant.goes_on last before) e)

pub row-loop-rest-preserved : goal.row-loop-rest-preserved
row-loop-rest-preserved t c = record {
  made = c.enter.ensures.made;
  same_env = c.in_ok-enter.ensures.env ∙ c.loop-rest.invariant.same_env;
  grown = grown_twice _ _ _ c.loop-rest.invariant.grown c.enter.ensures.grown;
  usable = λ last g. subst (AreUsable last) (sym c.in_ok-push.ensures.items) (usable_push last c.loop-rest.values.items c.in_ok-enter.field-0 (c.loop-rest.invariant.usable last (grown_twice _ _ _ c.enter.ensures.grown g)) (c.in_ok-enter.ensures.value last g).1);
  goes_on = λ last g.
      let inside = value_within c.args.scope.now.spec.now c.args.room in
      let env = bound_in last c.args.scope.now.args.now c.args.env.now.items in
      let done = map (value_in last) c.loop-rest.values.items in
      let e = rw (c.loop-rest.invariant.same_env, c.deref.ensures) at (c.in_ok-enter.ensures.value last g) in
      rw (c.in_ok-push.ensures.items, c.deref-rest.ensures)
      (row_steps inside last c.loop-rest.values.items c.in_ok-enter.field-0 (expr_of c.in-More.e.value) (exprs_of c.in-More.next.value) env c.loop-rest.fuel c.enter.new.fuel _
      (ap (λ r. row_reached inside done (exprs_of r) env c.loop-rest.fuel) (sym c.in-More.is) ∙ c.loop-rest.invariant.goes_on last (grown_twice _ _ _ c.enter.ensures.grown g)) e);
}

pub row-returns-clause-value : goal.row-returns-clause-value
row-returns-clause-value t c = λ last g.
    let inside = value_within c.args.scope.now.spec.now c.args.room in
    let env = bound_in last c.args.scope.now.args.now c.args.env.now.items in
    (sym (c.loop-rest.invariant.goes_on last g) ∙ ap (λ r. row_reached inside (map (value_in last) c.loop-rest.values.items) (exprs_of r) env c.loop-rest.fuel) c.in_default.is, c.loop-rest.invariant.usable last g)

pub first_match-enter-requires : goal.first_match-enter-requires
first_match-enter-requires t c =
    let m = c.in_ok-matches.ensures.matched in (
      search rules,
      (
        known_with c.args.pool.now c.matches.new.pool c.args.scope.now.args.now c.args.env.now.items m.more _ (grown_twice _ _ _ c.loop-rest.invariant.grown c.matches.ensures.grown)
            (m.pushed ∙ ap (λ l. l ++ m.more) c.loop-rest.invariant.same_env) c.requires.known m.known,
        c.matches.ensures.made,
      ),
    )

pub first_match-returns-in_err-y-clause-value : goal.first_match-returns-in_err-y-clause-value
first_match-returns-in_err-y-clause-value t c = λ last g.
    let spec = c.args.scope.now.spec.now in
    let inside = value_within spec c.args.room in
    let args = c.args.scope.now.args.now in
    let pool = c.matches.new.pool in
    let known = known_stays c.loop-rest.pool pool c.args.x c.matches.ensures.grown c.loop-rest.invariant.value in
    let before = grown_twice _ _ _ c.enter.ensures.grown g in
    let start = grown_twice _ _ _ c.matches.ensures.grown before in
    let m = subst (λ b. IsMatched pool (bound_by spec (pattern_of c.pattern.inside.tree) (value_in pool c.args.x)) c.loop-rest.env.items c.matches.new.bound.items b) c.if-branch.true c.in_ok-matches.ensures.matched in
    let is = ap (λ r. first_case spec inside (value_in last c.args.x) (cases_of r) (bound_in last args c.args.env.now.items) c.args.fuel.now) (sym c.in-More.is) ∙ c.loop-rest.invariant.goes_on last start in
    let taken = case_taken spec inside pool last args c.args.env.now.items c.loop-rest.env.items c.matches.new.bound.items c.args.x c.in-More.pattern (pattern_of c.pattern.inside.tree) (expr_of c.in-More.e.value) (cases_of c.in-More.next.value) c.args.fuel.now c.loop-rest.fuel _
    c.loop-rest.invariant.same_env c.loop-rest.invariant.same_fuel c.pattern.view_is known before is m in
    let e = rw c.deref.ensures at (c.in_err-y.ensures.value last g) in
    let p = err_from_is_err_and c.from_residual-in_err-y.result c.from_residual-in_err-y.ensures.1 in
    rw (p.1, p.2) (subst (IsReached last (Err c.in_err-y.field-0.0) c.enter.new.fuel) taken e)

pub first_match-returns-then-branch-clause-value : goal.first_match-returns-then-branch-clause-value
first_match-returns-then-branch-clause-value t c = λ last g.
    let spec = c.args.scope.now.spec.now in
    let inside = value_within spec c.args.room in
    let args = c.args.scope.now.args.now in
    let pool = c.matches.new.pool in
    let known = known_stays c.loop-rest.pool pool c.args.x c.matches.ensures.grown c.loop-rest.invariant.value in
    let before = grown_twice _ _ _ c.enter.ensures.grown g in
    let start = grown_twice _ _ _ c.matches.ensures.grown before in
    let m = subst (λ b. IsMatched pool (bound_by spec (pattern_of c.pattern.inside.tree) (value_in pool c.args.x)) c.loop-rest.env.items c.matches.new.bound.items b) c.if-branch.true c.in_ok-matches.ensures.matched in
    let is = ap (λ r. first_case spec inside (value_in last c.args.x) (cases_of r) (bound_in last args c.args.env.now.items) c.args.fuel.now) (sym c.in-More.is) ∙ c.loop-rest.invariant.goes_on last start in
    let taken = case_taken spec inside pool last args c.args.env.now.items c.loop-rest.env.items c.matches.new.bound.items c.args.x c.in-More.pattern (pattern_of c.pattern.inside.tree) (expr_of c.in-More.e.value) (cases_of c.in-More.next.value) c.args.fuel.now c.loop-rest.fuel _
    c.loop-rest.invariant.same_env c.loop-rest.invariant.same_fuel c.pattern.view_is known before is m in
    let e = rw c.deref.ensures at (c.in_ok-y.ensures.value last g) in
    subst (IsReached last (Ok c.in_ok-y.y) c.enter.new.fuel) taken e

pub first_match-loop-rest-preserved : goal.first_match-loop-rest-preserved
first_match-loop-rest-preserved t c =
    let spec = c.args.scope.now.spec.now in
    let inside = value_within spec c.args.room in
    let args = c.args.scope.now.args.now in
    let pool = c.matches.new.pool in
    let grown = grown_twice _ _ _ c.loop-rest.invariant.grown c.matches.ensures.grown in
    let known = known_stays c.loop-rest.pool pool c.args.x c.matches.ensures.grown c.loop-rest.invariant.value in
    let m = subst (λ b. IsMatched pool (bound_by spec (pattern_of c.pattern.inside.tree) (value_in pool c.args.x)) c.loop-rest.env.items c.matches.new.bound.items b) c.if-branch.false c.in_ok-matches.ensures.matched in
    let k = c.len-count.ensures in
    let n : c.len-count.result ≡ length c.args.env.now.items = omega (arith, k, c.args.env.now.ok.0) in
    let same = c.truncate-in-More.ensures.items ∙ take_front c.args.env.now.items m.more _ _ (m.pushed ∙ ap (λ l. l ++ m.more) c.loop-rest.invariant.same_env) n in
    record {
      made = c.matches.ensures.made;
      same_env = same;
      grown = grown;
      value = known;
      known = known_on c.args.pool.now pool args c.args.env.now.items _ grown same c.requires.known;
      same_fuel = c.loop-rest.invariant.same_fuel;
      goes_on = λ last g.
          let is = ap (λ r. first_case spec inside (value_in last c.args.x) (cases_of r) (bound_in last args c.args.env.now.items) c.args.fuel.now) (sym c.in-More.is) ∙ c.loop-rest.invariant.goes_on last (grown_twice _ _ _ c.matches.ensures.grown g) in
          rw c.deref-rest.ensures
          (case_passed spec inside pool last args c.args.env.now.items c.loop-rest.env.items c.matches.new.bound.items c.args.x c.in-More.pattern (pattern_of c.pattern.inside.tree) (expr_of c.in-More.e.value) (cases_of c.in-More.next.value) c.args.fuel.now c.loop-rest.fuel _
          c.loop-rest.invariant.same_env c.loop-rest.invariant.same_fuel c.pattern.view_is known g is m);
    }

-- what is kept of made terms, where the pool has grown since
pub step-returns-in-Literal-clause-made : goal.step-returns-in-Literal-clause-made
step-returns-in-Literal-clause-made t c = made_later _ _ _ _ c.requires.made c.constant.ensures.grown

pub single-returns-clause-made : goal.single-returns-clause-made
single-returns-clause-made t c = made_later _ _ _ _ c.enter.ensures.made c.applied.ensures.grown

pub binary-returns-clause-made : goal.binary-returns-clause-made
binary-returns-clause-made t c = made_later _ _ _ _ c.enter-2.ensures.made c.combined.ensures.grown

pub cons-returns-clause-made : goal.cons-returns-clause-made
cons-returns-clause-made t c = made_later _ _ _ _ c.enter-2.ensures.made c.tree.ensures.grown

pub apply-returns-clause-made : goal.apply-returns-clause-made
apply-returns-clause-made t c = rw c.leave_row.ensures (made_later _ _ _ _ c.row.ensures.made c.tree-reached.ensures.grown)

pub step-returns-in-Call-clause-value : goal.step-returns-in-Call-clause-value
step-returns-in-Call-clause-value t c = λ last g. rw c.in-Call.is (c.call.ensures.value last g)
