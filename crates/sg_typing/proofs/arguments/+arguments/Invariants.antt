use Rattle.std.proofs.Common.{◌≡◌, ◌≤◌}
use Rattle.sg_ast.specs.View.{exprs_of, cases_of}
use Rattle.sg_ast.specs.declared.expr.Exprs.{size-Exprs}
use Rattle.sg_ast.specs.declared.expr.Cases.{size-Cases}
use Rattle.sg_typing.specs.Arguments.{args_from_all, args_from_cases}
use Rattle.sg_typing.proofs.arguments.+arguments.Given as goal

abbrev pub invariant-collect_all-loop-rest : goal.invariant-collect_all-loop-rest
invariant-collect_all-loop-rest l = record {
  smaller : size-Exprs l.rest ≤ size-Exprs l.fn.list;
  whole : args_from_all l.names l.op l.args.items (exprs_of l.rest) ≡ args_from_all l.names l.op l.initial.args.items (exprs_of l.fn.list);
}

abbrev pub invariant-collect_cases-loop-rest : goal.invariant-collect_cases-loop-rest
invariant-collect_cases-loop-rest l = record {
  smaller : size-Cases l.rest ≤ size-Cases l.fn.cases;
  whole : args_from_cases l.names l.op l.args.items (cases_of l.rest) ≡ args_from_cases l.names l.op l.initial.args.items (cases_of l.fn.cases);
}
