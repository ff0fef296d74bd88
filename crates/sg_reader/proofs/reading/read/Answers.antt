use Rattle.sg_ast.specs.Spells.{declarations}
use Rattle.sg_ast.specs.View.{trees_of}
use Rattle.sg_reader.proofs.Facts.{found_by, only_by, first_by}
use Rattle.sg_reader.proofs.reading.read.Goals as goal

pub returns-clause-found : goal.returns-clause-found
returns-clause-found c = found_by (λ ds. trees_of ds.items) (declarations c.args.bytes.now c.args.tokens.now) c.each.result c.each.ensures

pub returns-clause-only : goal.returns-clause-only
returns-clause-only c = only_by (λ ds. trees_of ds.items) (declarations c.args.bytes.now c.args.tokens.now) c.each.result c.each.ensures

pub returns-clause-first : goal.returns-clause-first
returns-clause-first c = first_by (λ ds. trees_of ds.items) (declarations c.args.bytes.now c.args.tokens.now) c.each.result c.each.ensures
