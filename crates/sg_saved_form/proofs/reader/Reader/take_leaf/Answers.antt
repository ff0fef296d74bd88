use Rattle.std.proofs.Common.{refl, ap}
use Rattle.sg_saved_form.proofs.Noting.{leaf-after}
use Rattle.sg_saved_form.proofs.reader.Reader.take_leaf.Goals as goal

pub returns : goal.returns
returns c m os x is one low =
    (refl, leaf-after c.args.self.now _ m os x (record { from = c.args.self.now.from; kids = 0; what = c.args.what }) is one low refl (ap (λ r. r.path.items) c.in_ok-note.ensures.rest) c.in_ok-note.ensures.noted c.in_ok-note.ensures.depth)
