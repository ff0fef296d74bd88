use Rattle.sg_names.proofs.DraftedLaws.{args_kept, phylum_kept, locals_kept, ops_count}
use Rattle.sg_names.proofs.laws.operators_are_kept.Goals as goal

pub returns-clause-args : goal.returns-clause-args
returns-clause-args c = args_kept

pub returns-clause-phylum : goal.returns-clause-phylum
returns-clause-phylum c = phylum_kept

pub returns-clause-locals : goal.returns-clause-locals
returns-clause-locals c = locals_kept

pub returns-clause-count : goal.returns-clause-count
returns-clause-count c = ops_count
