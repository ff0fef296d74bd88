use Rattle.sg_ast.specs.View.{trees_of}
use Rattle.sg_load.proofs.Phases.{found_tables, found_table_fault}
use Rattle.sg_load.proofs.loading.judge_tables.Goals as goal

pub returns-in-Ok-clause-none : goal.returns-in-Ok-clause-none
returns-in-Ok-clause-none c = found_tables (trees_of c.args.decls.now) c.args.spec.now c.in-Ok.found c.in_ok-grammar.grammar c.requires.the c.in_ok-grammar.ensures c.in-Ok.ensures.ok c.sound.ensures c.in-Ok.ensures.fit

pub returns-clause-fault : goal.returns-clause-fault
returns-clause-fault c = found_table_fault (trees_of c.args.decls.now) c.args.spec.now c.in_ok-grammar.grammar c.in-Err.fault c.table_fault.result c.requires.the c.in_ok-grammar.ensures c.in-Err.ensures.fault c.table_fault.ensures
