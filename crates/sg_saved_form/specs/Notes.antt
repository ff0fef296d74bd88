-- What the passes over a saved file need of its terms: a note for each node, in the order in which they begin.
use Rattle.std.specs.Prelude.{◌≡◌, ℕ, suc, ◌+◌, max, List, [], ◌∷◌, ◌++◌, length}
use Rattle.sg_kinds.specs.Values.{Bytes}
use Rattle.sg_saved_form.specs.declared.notes.Note.{Note}
use Rattle.sg_saved_form.specs.declared.notes.Noted.TheVariants.{Operator, Number, Text, Truth}
use Rattle.sg_saved_form.specs.declared.notes.Outline.{Outline}
use Rattle.sg_saved_form.specs.Files.{Raw, Raws, Branch, Whole, Quote, Flag, NoRaw, AndRaw, escaped, spelled, file_of, IsRaw}

-- how many children
abbrev pub count_of : Raws → ℕ
count_of NoRaw = 0
count_of (AndRaw r rs) = suc (count_of rs)

-- the notes of a term that begins at a place: its first byte, the number of its children, and what it is: an operator,
-- with the end of its name, a number, a text, with the place of its last quote, a truth value
abbrev mutual
  pub notes_of : ℕ → Raw → List Note
  notes_of at (Branch name rs) =
      record { from = at; kids = count_of rs; what = Operator (at + length name) }
      ∷ notes_of_all (at + length name + 1) rs
  notes_of at (Whole z) = record { from = at; kids = 0; what = Number z } ∷ []
  notes_of at (Quote s) = record { from = at; kids = 0; what = Text (at + 1 + length (escaped s)) } ∷ []
  notes_of at (Flag b) = record { from = at; kids = 0; what = Truth b } ∷ []

  -- and of terms with a byte between them
  pub notes_of_all : ℕ → Raws → List Note
  notes_of_all at NoRaw = []
  notes_of_all at (AndRaw r rs) = notes_of at r ++ notes_of_all (at + length (spelled r) + 1) rs

-- how deep it is; a term without children has depth 1
abbrev mutual
  pub height_of : Raw → ℕ
  height_of (Branch name rs) = suc (height_of_all rs)
  height_of r = 1

  pub height_of_all : Raws → ℕ
  height_of_all NoRaw = 0
  height_of_all (AndRaw r rs) = max (height_of r) (height_of_all rs)

-- the place of the term in a file
abbrev pub first_place : ℕ
first_place = 5

-- the bytes are a file, and these are the notes and the depth of its term
pub record IsOutline (bytes : Bytes) (o : Outline) : Type 0 where
  pub raw : Raw
  pub is : IsRaw raw
  pub same : bytes ≡ file_of raw
  pub notes : o.notes.items ≡ notes_of first_place raw
  pub depth : o.depth ≡ height_of raw
