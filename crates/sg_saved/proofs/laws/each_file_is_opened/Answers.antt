use Rattle.sg_saved.proofs.Opening.{each-opened}
use Rattle.sg_saved.proofs.laws.each_file_is_opened.Goals as goal

pub returns : goal.returns
returns c = each-opened
