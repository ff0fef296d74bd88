use Rattle.sg_prec.proofs.Between.{first_from, first_to, level_from, level_to}
use Rattle.sg_prec.proofs.laws.levels_derive_what_is_written.Goals as goal

pub returns-clause-same : goal.returns-clause-same
returns-clause-same c = λ spec N ts v. (first_to spec N ts v, first_from spec N ts v)

pub returns-clause-levels : goal.returns-clause-levels
returns-clause-levels c = λ spec N i ts v. (level_to spec N i ts v, λ (r, n, d, high). level_from spec N i ts v r n d high)
