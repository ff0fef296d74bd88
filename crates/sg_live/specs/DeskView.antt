-- An editor as the desk of its turns
use Rattle.sg_editor.specs.Ask.{Readers}
use Rattle.sg_editor.specs.Editing.{Editing, spec_in, width_in, height_in}
use Rattle.sg_output.specs.Session.{Desk, desk}

abbrev pub desk_in : Editing → Readers → Desk
desk_in editor readers = desk (spec_in editor) (width_in editor) (height_in editor) readers
