-- The buffer that is current.
use Rattle.std.specs.Prelude.{◌≡◌, None, Some, option_map}
use Rattle.std.proofs.Common.{ap, ◌∙◌}
use Rattle.sg_editor.specs.declared.desk.Named.{Named}
use Rattle.sg_editor.specs.Editing.{Editing, IsCurrent, IsKept, spec_in, height_in, session_of, told, current_in}
use Rattle.sg_editor.specs.Session.{current_of}
use Rattle.sg_editor.proofs.Stays.{over_current}
use Rattle.sg_editor.proofs.Told.{current_told}

pub none_current : (e : Editing) → current_in e.kept ≡ None → current_of (session_of e) ≡ None
unfolding session_of
none_current e none = current_told e.kept ∙ ap (option_map told) none

pub is_current : (e : Editing) → IsKept (spec_in e) (height_in e) e.kept → (b : Named) → current_in e.kept ≡ Some b → IsCurrent e b.buffer
unfolding session_of
is_current e kept b here = record {
  name = b.name;
  is = current_told e.kept ∙ ap (option_map told) here;
  spec = (over_current (spec_in e) (height_in e) e.kept kept b here).spec_is;
}
