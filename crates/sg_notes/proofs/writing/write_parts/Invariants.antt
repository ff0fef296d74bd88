use Rattle.std.proofs.Common.{◌≡◌, ◌++◌, take}
use Rattle.std.specs.Prelude.{flat_map}
use Rattle.sg_names.specs.Meaning.{meaning}
use Rattle.sg_place.specs.Points.{IsPoint}
use Rattle.sg_notes.specs.Notes.{note_text}
use Rattle.sg_notes.proofs.writing.write_parts.Given as goal

abbrev pub invariant-loop-part : goal.invariant-loop-part
invariant-loop-part l = record {
  text : l.out.items ≡ l.initial.out.items ++ flat_map (note_text l.file l.bytes l.tokens (meaning l.places) l.spec) (take l.part-index l.parts);
  known : IsPoint l.bytes l.known;
}
