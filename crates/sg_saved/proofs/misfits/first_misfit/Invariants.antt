use Rattle.std.proofs.Common.{◌≡◌}
use Rattle.sg_saved_form.specs.Notes.{IsOutline}
use Rattle.sg_saved.proofs.Checking.{Checked}
use Rattle.sg_saved.proofs.misfits.first_misfit.Given as goal

abbrev pub invariant-loop-note : goal.invariant-loop-note
invariant-loop-note l = record {
  ready : l.matcher ≡ l.spec.lexemes;
  checked : (o : IsOutline l.bytes l.outline) → Checked l.spec l.bytes l.outline.notes.items o.raw l.note-index l.wanted.items;
}
