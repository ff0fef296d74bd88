use Rattle.std.proofs.Common.{refl, [], ◌∷◌}
use Rattle.sg_saved_form.specs.declared.reader.Mode.TheVariants as mode
use Rattle.sg_saved_form.proofs.reader.Reader.feed_after.Goals as goal

pub returns-in-Comma : goal.returns-in-Comma
returns-in-Comma c m [] x after = rw c.in-Comma.is (c.add_kid.ensures.none mode.Before x (record { at_mode = refl; places = after.places; notes = after.notes; depth = after.depth }))
returns-in-Comma c m (o ∷ os) x after = rw c.in-Comma.is (c.add_kid.ensures.some mode.Before o os x (record { at_mode = refl; places = after.places; notes = after.notes; depth = after.depth }))
