use Rattle.std.proofs.Common.{◌≡◌, ◌≤◌, ◌++◌}
use Rattle.sg_ast.specs.View.{exprs_of, cases_of}
use Rattle.sg_ast.specs.declared.expr.Exprs.{size-Exprs}
use Rattle.sg_ast.specs.declared.expr.Cases.{size-Cases}
use Rattle.sg_ast.specs.Remotes.{remotes_of_all, remotes_of_cases, remotes_seen}
use Rattle.sg_ast.proofs.remotes.+remotes.Given as goal

abbrev pub invariant-remotes_all-loop-left : goal.invariant-remotes_all-loop-left
invariant-remotes_all-loop-left l = record {
  smaller : size-Exprs l.left ≤ size-Exprs l.fn.exprs;
  whole : remotes_seen l.found.items ++ remotes_of_all (exprs_of l.left) ≡ remotes_seen l.initial.found.items ++ remotes_of_all (exprs_of l.fn.exprs);
}

abbrev pub invariant-remotes_cases-loop-left : goal.invariant-remotes_cases-loop-left
invariant-remotes_cases-loop-left l = record {
  smaller : size-Cases l.left ≤ size-Cases l.fn.cases;
  whole : remotes_seen l.found.items ++ remotes_of_cases (cases_of l.left) ≡ remotes_seen l.initial.found.items ++ remotes_of_cases (cases_of l.fn.cases);
}
