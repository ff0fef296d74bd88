-- What a reader stands for.
use Rattle.std.specs.Prelude.{◌≡◌, ℕ, ◌+◌, max, true, false, Bool, List, [], ◌∷◌, ◌++◌, length, Option, Some, None}
use Rattle.sg_saved_form.specs.declared.notes.Note.{Note}
use Rattle.sg_saved_form.specs.declared.reader.Mode.{Mode}
use Rattle.sg_saved_form.specs.declared.reader.Mode.TheVariants as mode
use Rattle.sg_saved_form.specs.declared.reader.Reader.{Reader}
use Rattle.sg_saved_form.specs.Files.{Raw}
use Rattle.sg_saved_form.specs.Machine.{Open, State, Frame, Before, Name, Minus, Digits, Text, Escape, After, End, closed, outer}
use Rattle.sg_saved_form.specs.Notes.{notes_of, height_of}

-- the notes of the nodes that are open, as if they ended here; the places of those notes, the innermost last
abbrev pub open_notes : List Open → List Note
open_notes [] = []
open_notes (o ∷ os) = open_notes os ++ notes_of (length (outer os)) (closed o)

abbrev pub open_places : List Open → List ℕ
open_places [] = []
open_places (o ∷ os) = open_places os ++ length (open_notes os) ∷ []

-- how deep they are
abbrev pub open_depth : List Open → ℕ
open_depth [] = 0
open_depth (o ∷ os) = max (open_depth os) (length os + height_of (closed o))

-- the reader has this mode, with these nodes open, notes and depth
pub record Stands (r : Reader) (m : Mode) (os : List Open) (ns : List Note) (deepest : ℕ) : Type 0 where
  pub at_mode : r.mode ≡ m
  pub places : r.path.items ≡ open_places os
  pub notes : r.notes.items ≡ ns
  pub depth : r.depth ≡ deepest

-- before a term
abbrev pub IsBefore : Reader → Mode → List Open → Type 0
IsBefore r m os = Stands r m os (open_notes os) (open_depth os)

-- in a term that began behind the open nodes
pub record IsIn (r : Reader) (m : Mode) (os : List Open) : Type 0 where
  pub stands : IsBefore r m os
  pub from : r.from ≡ length (outer os)

-- behind a term
abbrev pub IsAfter : Reader → Mode → List Open → Raw → Type 0
IsAfter r m os x = Stands r m os (open_notes os ++ notes_of (length (outer os)) x)
    (max (open_depth os) (length os + height_of x))

-- the reader stands where the reading does
abbrev pub Reads : Reader → State → Type 0
Reads r (Frame k) = IsBefore r (mode.Frame k) []
Reads r (Before os) = IsBefore r mode.Before os
Reads r (Name os bs) = IsIn r mode.Name os × (r.name.items ≡ bs)
Reads r (Minus os) = IsIn r mode.Minus os
Reads r (Digits os z) = IsIn r mode.Digits os × (r.value ≡ z)
Reads r (Text os s) = IsIn r mode.Text os
Reads r (Escape os s) = IsIn r mode.Escape os
Reads r (After os x) = IsAfter r mode.After os x
Reads r (End x) = IsAfter r mode.End [] x

-- what a reader answers to a byte
abbrev pub Fed : Option State → Bool → Reader → Type 0
Fed None more r = more ≡ false
Fed (Some τ) more r = (more ≡ true) × Reads r τ
