use Rattle.std.proofs.Common.{refl, pos}
use Rattle.sg_saved_form.specs.Files.{Whole}
use Rattle.sg_saved_form.proofs.reader.Reader.feed_before.Goals as goal

pub returns-in-Zero : goal.returns-in-Zero
returns-in-Zero c m os is at =
    rw c.in-Zero.is (c.take_leaf.ensures m os (Whole (pos 0)) (record { stands = record { at_mode = is.at_mode; places = is.places; notes = is.notes; depth = is.depth }; from = at }) refl refl)
