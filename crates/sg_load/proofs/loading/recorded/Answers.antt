use Rattle.sg_ast.specs.View.{trees_of}
use Rattle.sg_load.proofs.Judging.{kept_lexemes}
use Rattle.sg_load.proofs.loading.recorded.Goals as goal

pub returns-clause-lexemes : goal.returns-clause-lexemes
returns-clause-lexemes c = kept_lexemes c.args.names (trees_of c.args.decls.now) c.args.rules c.in_ok-lexemes.lexemes c.in_ok-record.field-0 c.in_ok-record.ensures c.in_ok-lexemes.ensures.some
