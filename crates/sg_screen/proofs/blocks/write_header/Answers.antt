use Rattle.sg_screen.proofs.Windows.{three}
use Rattle.sg_screen.proofs.blocks.write_header.Goals as goal

pub returns : goal.returns
returns c = three _ _ _ _ _ _ _ c.in_ok-write_selected.ensures c.in_ok-write_counts.ensures c.in_ok-write_ending.ensures
