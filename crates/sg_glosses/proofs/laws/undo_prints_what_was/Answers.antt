use Rattle.sg_glosses.proofs.Undoing.{entered_screen, undone_fine, undone_screen}
use Rattle.sg_glosses.proofs.laws.undo_prints_what_was.Goals as goal

pub returns-clause-done : goal.returns-clause-done
returns-clause-done c = λ spec height r s got later step back command is comes fine undo. undone_fine spec height r s got later step back fine undo command is comes

pub returns-clause-printed : goal.returns-clause-printed
returns-clause-printed c = λ spec height r s got later step back command h is comes fine undo. undone_screen spec height r s got later step back fine undo command is comes h

pub returns-clause-entered : goal.returns-clause-entered
returns-clause-entered c = λ spec height r s got later step back h comes fine undo other left abandon. entered_screen spec height r s got later step back fine undo comes other left abandon h
