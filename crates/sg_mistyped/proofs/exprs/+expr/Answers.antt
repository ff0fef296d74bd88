use Rattle.std.proofs.Common.{◌∙◌, ◌≤◌, ◌++◌, ap, sym, arith}
use Rattle.sg_ast.specs.View.{pattern_of, expr_of, exprs_of, cases_of}
use Rattle.sg_ast.specs.declared.expr.Cases.{size-Cases}
use Rattle.sg_types.specs.OwnersView.{owner_of}
use Rattle.sg_types.proofs.Smaller.{smaller_rest}
use Rattle.sg_mistyped.proofs.Cases.{case_goes, one_wanted}
use Rattle.sg_mistyped.proofs.exprs.+expr.Goals as goal

pub cases-loop-rest-preserved : goal.cases-loop-rest-preserved
cases-loop-rest-preserved t c =
    let smaller : size-Cases c.deref-rest.result.now ≤ size-Cases c.loop-rest.rest.now = smaller_rest _ _ c.in-More.pattern c.in-More.body c.in-More.next c.in-More.is c.deref-rest.ensures in
    let found = rw (c.loop-rest.invariant.same, c.deref.ensures) at c.in_ok-case.ensures.found in
    record {
      same = c.in_ok-case.ensures.scope ∙ c.loop-rest.invariant.same;
      smaller = omega (arith, smaller, c.loop-rest.invariant.smaller);
      found = rw c.deref-rest.ensures
          (case_goes c.args.walk.now.names.now (owner_of c.args.walk.now.owner) c.args.scope.now c.args.subject.now c.args.wanted.now (pattern_of c.in-More.pattern) (expr_of c.in-More.body.value) (cases_of c.in-More.next.value) c.loop-rest.found.items _ _ found
          (rw c.in-More.is at c.loop-rest.invariant.found));
    }

pub only-returns-in_ok-where_wanted-in-More-clause-found : goal.only-returns-in_ok-where_wanted-in-More-clause-found
only-returns-in_ok-where_wanted-in-More-clause-found t c =
    let one = rw c.deref.ensures at c.in_ok-where_wanted-in-More.ensures.found in
    rw c.in-More.is
    (one ∙ ap (λ l. c.args.found.now.items ++ l) (sym (one_wanted c.args.walk.now.names.now (owner_of c.args.walk.now.owner) c.args.scope.now (expr_of c.in-More.first.value) (exprs_of c.in-More.field-1.value) c.args.of)))
