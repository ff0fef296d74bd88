use Rattle.sg_kinds.specs.declared.spec.Spec.{Spec}
use Rattle.sg_saved_form.specs.Notes.{IsOutline}
use Rattle.sg_saved.specs.Heads.{AreNames}
use Rattle.sg_saved.proofs.Building.{Built}
use Rattle.sg_saved.proofs.values.value_in.Given as goal

abbrev pub invariant-loop-k : goal.invariant-loop-k
invariant-loop-k l =
    (spec : Spec) (o : IsOutline l.bytes l.outline) → AreNames spec.ops l.names → Built spec l.bytes l.outline.notes.items l.k l.values.items
