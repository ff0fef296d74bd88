use Rattle.std.proofs.Common.{◌∙◌, ◌≤◌, arith}
use Rattle.sg_ast.specs.View.{pattern_of, expr_of, cases_of}
use Rattle.sg_ast.specs.declared.expr.Cases.{size-Cases}
use Rattle.sg_types.specs.OwnersView.{owner_of}
use Rattle.sg_types.proofs.CaseLemmas.{mismatch_goes, list_goes}
use Rattle.sg_types.proofs.Smaller.{smaller_rest}
use Rattle.sg_types.proofs.expr.+expr.Goals as goal

pub cases-loop-rest-preserved : goal.cases-loop-rest-preserved
cases-loop-rest-preserved t c =
    let names = c.args.walk.now.names.now in
    let owner = owner_of c.args.walk.now.owner in
    let smaller : size-Cases c.deref-rest.result.now ≤ size-Cases c.loop-rest.rest.now = smaller_rest _ _ c.in-More.pattern c.in-More.body c.in-More.next c.in-More.is c.deref-rest.ensures in
    let found = rw (c.loop-rest.invariant.same, c.deref.ensures) at c.in_ok-case.ensures.found in
    record {
      same = c.in_ok-case.ensures.scope ∙ c.loop-rest.invariant.same;
      smaller = omega (arith, smaller, c.loop-rest.invariant.smaller);
      mismatch = rw (c.earlier-mismatch.ensures, c.mismatch_of.ensures, c.deref-rest.ensures)
          (mismatch_goes names owner c.args.scope.now c.args.subject.now c.args.wanted.now (pattern_of c.in-More.pattern) (expr_of c.in-More.body.value) (cases_of c.in-More.next.value) c.in_ok-case.case found c.loop-rest.mismatch _
          (rw c.in-More.is at c.loop-rest.invariant.mismatch));
      list = rw c.deref-rest.ensures
          (list_goes names owner c.args.scope.now c.args.subject.now c.args.wanted.now (pattern_of c.in-More.pattern) (expr_of c.in-More.body.value) (cases_of c.in-More.next.value) c.in_ok-case.case found c.loop-rest.kept.items c.push.new.self.items _ c.in_ok-push.ensures.items
          (rw c.in-More.is at c.loop-rest.invariant.list));
    }
