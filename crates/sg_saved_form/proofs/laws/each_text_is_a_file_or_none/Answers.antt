use Rattle.sg_saved_form.proofs.Forms.{each-text, one-place}
use Rattle.sg_saved_form.proofs.laws.each_text_is_a_file_or_none.Goals as goal

pub returns-clause-either : goal.returns-clause-either
returns-clause-either c = each-text

pub returns-clause-place : goal.returns-clause-place
returns-clause-place c = one-place
