use Rattle.sg_ast.proofs.FirstLaws.{or_else_assoc, first-append, first-flat, first-map, first-filter, first-none, none-first, first_of-append}
use Rattle.sg_ast.proofs.laws.first_faults.Goals as goal

pub returns-clause-before : goal.returns-clause-before
returns-clause-before g c = or_else_assoc

pub returns-clause-append : goal.returns-clause-append
returns-clause-append g c = first-append

pub returns-clause-joined : goal.returns-clause-joined
returns-clause-joined g c = first-flat

pub returns-clause-mapped : goal.returns-clause-mapped
returns-clause-mapped g c = first-map

pub returns-clause-filtered : goal.returns-clause-filtered
returns-clause-filtered g c = first-filter

pub returns-clause-absent : goal.returns-clause-absent
returns-clause-absent g c = first-none

pub returns-clause-all_absent : goal.returns-clause-all_absent
returns-clause-all_absent g c = none-first

pub returns-clause-rules : goal.returns-clause-rules
returns-clause-rules g c = first_of-append
