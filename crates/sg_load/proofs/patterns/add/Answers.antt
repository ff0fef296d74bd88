use Rattle.std.proofs.lemmas.Result.{err_from_is_err_and}
use Rattle.sg_load.proofs.patterns.add.Goals as goal

pub returns-in_err-pattern-clause-form : goal.returns-in_err-pattern-clause-form
returns-in_err-pattern-clause-form c =
    let p = err_from_is_err_and c.from_residual.result c.from_residual.ensures.1 in
    rw (p.1, p.2) (λ other. c.in_err-pattern.ensures.form other)

pub returns-in_err-pattern-clause-fault : goal.returns-in_err-pattern-clause-fault
returns-in_err-pattern-clause-fault c =
    let p = err_from_is_err_and c.from_residual.result c.from_residual.ensures.1 in
    rw (p.1, p.2) (λ other. c.in_err-pattern.ensures.fault other)
