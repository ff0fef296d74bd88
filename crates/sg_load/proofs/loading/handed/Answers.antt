use Rattle.std.proofs.lemmas.Result.{err_from_is_err_and}
use Rattle.sg_ast.specs.View.{trees_of}
use Rattle.sg_load.proofs.Judging.{bare_fault, incomplete_fault, no_equation_fault, rules_made}
use Rattle.sg_load.proofs.loading.handed.Goals as goal

pub returns-in_err-written-clause-fault : goal.returns-in_err-written-clause-fault
returns-in_err-written-clause-fault c =
    let p = err_from_is_err_and c.from_residual.result c.from_residual.ensures.1 in
    rw (p.1, p.2) (λ some. incomplete_fault (trees_of c.args.decls.now) c.args.names.now c.requires.names c.in_err-written.field-0.0 (c.in_err-written.ensures.fault some))

pub returns-in_err-refused-clause-fault : goal.returns-in_err-refused-clause-fault
returns-in_err-refused-clause-fault c =
    let p = err_from_is_err_and c.from_residual-in_err-refused.result c.from_residual-in_err-refused.ensures.1 in
    rw (p.1, p.2) (λ some. bare_fault (trees_of c.args.decls.now) c.args.names.now c.requires.names c.in_ok-written.ensures.none c.in_ok-bare.bare c.in_ok-bare.ensures
    c.in_err-refused.field-0.0 c.in_err-refused.ensures.some)

pub returns-clause-rules : goal.returns-clause-rules
returns-clause-rules c =
    rules_made (trees_of c.args.decls.now) c.args.names.now c.args.typed.now c.in_ok-written.written c.in_ok-with_handing.field-0 c.requires.names c.requires.typed c.in_ok-written.ensures.rules c.in_ok-with_handing.ensures.rules

pub returns-clause-none : goal.returns-clause-none
returns-clause-none c =
    no_equation_fault (trees_of c.args.decls.now) c.args.names.now c.requires.names c.in_ok-written.ensures.none c.in_ok-bare.bare c.in_ok-bare.ensures c.in_ok-refused.ensures.none
