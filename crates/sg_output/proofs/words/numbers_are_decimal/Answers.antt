use Rattle.sg_output.proofs.Sizes.{sizes, loads}
use Rattle.sg_output.proofs.words.numbers_are_decimal.Goals as goal

pub returns-clause-sizes : goal.returns-clause-sizes
returns-clause-sizes c = sizes

pub returns-clause-loads : goal.returns-clause-loads
returns-clause-loads c = loads
