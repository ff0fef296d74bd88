use Rattle.sg_counts.proofs.Names.{told}
use Rattle.sg_counts.proofs.SameKeys.{clash_seen}
use Rattle.sg_counts.proofs.duplicates.clash.Goals as goal

pub returns : goal.returns
returns c = told c.first_clash.result c.first_clash.ensures (clash_seen c.args.definitions.now)
