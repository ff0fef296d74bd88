use Rattle.sg_patterns.proofs.Answering.{programs-ordered}
use Rattle.sg_patterns.proofs.scanning.longest_at.Goals as goal

pub longest_among-requires-clause-ordered : goal.longest_among-requires-clause-ordered
longest_among-requires-clause-ordered c = programs-ordered c.args.programs.now c.args.all.now.patterns c.requires.programs
