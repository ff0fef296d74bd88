use Rattle.sg_saved_form.proofs.Forms.{one-file}
use Rattle.sg_saved_form.proofs.laws.one_file.Goals as goal

pub returns : goal.returns
returns c = one-file
